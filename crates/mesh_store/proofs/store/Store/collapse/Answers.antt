use Rattle.std.proofs.Common.{subst}
use Rattle.mesh_store.specs.Parts.{StoreView}
use Rattle.mesh_store.specs.Sound.{IsSoundStore}
use Rattle.mesh_store.proofs.Added.{added-moved}
use Rattle.mesh_store.proofs.MeshLemmas.{within}
use Rattle.mesh_store.proofs.MoveMeshes.{mesh-collapsed}
use Rattle.mesh_store.proofs.store.Store.collapse.Goals as goal

pub returns-in-Ok-clause-mesh : goal.returns-in-Ok-clause-mesh
returns-in-Ok-clause-mesh c =
    let after : IsSoundStore c.args.self.now.side c.collapse_open.new.self.parts =
    subst (λ s. IsSoundStore s c.collapse_open.new.self.parts) c.in-Ok.ensures.goes_on.side (subst (λ (v : StoreView). IsSoundStore v.side v.parts) c.self-in-Ok.view_is c.self-in-Ok.invariant.sound) in
    mesh-collapsed c.args.self.now.side c.args.u c.args.v c.args.self.now.parts c.collapse_open.new.self.parts after c.in-Ok.ensures.ok

pub returns-in-Ok-clause-within : goal.returns-in-Ok-clause-within
returns-in-Ok-clause-within c = within c.collapse_open.new.self.side c.collapse_open.new.self.parts (subst (λ (v : StoreView). IsSoundStore v.side v.parts) c.self-in-Ok.view_is c.self-in-Ok.invariant.sound)

pub returns-in-Ok-clause-added : goal.returns-in-Ok-clause-added
returns-in-Ok-clause-added c = added-moved c.args.u c.args.v c.args.self.now.parts c.collapse_open.new.self.parts c.in-Ok.ensures.ok
