use Rattle.std.proofs.Common.{subst}
use Rattle.mesh_store.specs.Parts.{StoreView}
use Rattle.mesh_store.specs.Sound.{IsSoundStore}
use Rattle.mesh_store.proofs.Added.{added-refined}
use Rattle.mesh_store.proofs.MeshLemmas.{grown-refined, mesh-refined, within}
use Rattle.mesh_store.proofs.store.Store.refine.Goals as goal

pub returns-in-Ok-clause-mesh : goal.returns-in-Ok-clause-mesh
returns-in-Ok-clause-mesh c =
    let before : IsSoundStore c.args.self.now.side c.args.self.now.parts = subst (λ (v : StoreView). IsSoundStore v.side v.parts) c.self.view_is c.self.invariant.sound in
    let after : IsSoundStore c.args.self.now.side c.refine_open.new.self.parts =
    subst (λ s. IsSoundStore s c.refine_open.new.self.parts) c.in-Ok.ensures.goes_on.side (subst (λ (v : StoreView). IsSoundStore v.side v.parts) c.self-in-Ok.view_is c.self-in-Ok.invariant.sound) in
    mesh-refined c.args.self.now.side c.args.cuts.now c.args.self.now.parts c.refine_open.new.self.parts c.requires.cuts before after c.in-Ok.ensures.ok

pub returns-in-Ok-clause-grown : goal.returns-in-Ok-clause-grown
returns-in-Ok-clause-grown c = grown-refined c.args.cuts.now c.args.self.now.parts c.refine_open.new.self.parts c.in-Ok.ensures.ok

pub returns-in-Ok-clause-within : goal.returns-in-Ok-clause-within
returns-in-Ok-clause-within c = within c.refine_open.new.self.side c.refine_open.new.self.parts (subst (λ (v : StoreView). IsSoundStore v.side v.parts) c.self-in-Ok.view_is c.self-in-Ok.invariant.sound)

pub returns-in-Ok-clause-added : goal.returns-in-Ok-clause-added
returns-in-Ok-clause-added c = added-refined c.args.cuts.now c.args.self.now.parts c.refine_open.new.self.parts c.in-Ok.ensures.ok
