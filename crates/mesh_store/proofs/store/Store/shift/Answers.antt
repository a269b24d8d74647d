use Rattle.std.proofs.Common.{length, subst}
use Rattle.mesh_store.specs.Parts.{StoreView}
use Rattle.mesh_store.specs.Sound.{IsSoundStore}
use Rattle.mesh_store.specs.Changes.{point_made}
use Rattle.mesh_store.proofs.Added.{added-moved}
use Rattle.mesh_store.proofs.MeshLemmas.{within}
use Rattle.mesh_store.proofs.MoveMeshes.{mesh-shifted}
use Rattle.mesh_store.proofs.store.Store.shift.Goals as goal

pub returns-in-Ok-clause-mesh : goal.returns-in-Ok-clause-mesh
returns-in-Ok-clause-mesh c =
    let before : IsSoundStore c.args.self.now.side c.args.self.now.parts = subst (λ (v : StoreView). IsSoundStore v.side v.parts) c.self.view_is c.self.invariant.sound in
    let after : IsSoundStore c.args.self.now.side c.shift_open.new.self.parts =
    subst (λ s. IsSoundStore s c.shift_open.new.self.parts) c.in-Ok.ensures.goes_on.side (subst (λ (v : StoreView). IsSoundStore v.side v.parts) c.self-in-Ok.view_is c.self-in-Ok.invariant.sound) in
    mesh-shifted c.args.self.now.side c.args.u c.args.at c.args.self.now.parts before c.shift_open.new.self.parts after c.in-Ok.ensures.ok

pub returns-in-Ok-clause-within : goal.returns-in-Ok-clause-within
returns-in-Ok-clause-within c = within c.shift_open.new.self.side c.shift_open.new.self.parts (subst (λ (v : StoreView). IsSoundStore v.side v.parts) c.self-in-Ok.view_is c.self-in-Ok.invariant.sound)

pub returns-in-Ok-clause-added : goal.returns-in-Ok-clause-added
returns-in-Ok-clause-added c =
    let a = added-moved c.args.u (length c.args.self.now.parts.points) (point_made c.args.at c.args.self.now.parts) c.shift_open.new.self.parts c.in-Ok.ensures.ok in
    record { live = a.live }
