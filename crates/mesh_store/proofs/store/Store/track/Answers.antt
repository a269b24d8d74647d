use Rattle.std.proofs.Common.{◌∙◌, ap, subst, sym}
use Rattle.grid.specs.Views.{triples_of}
use Rattle.mesh_store.specs.Changes.{HasSameSlots}
use Rattle.mesh_store.specs.Parts.{StoreView, mesh_in}
use Rattle.mesh_store.specs.Sound.{IsSoundStore}
use Rattle.mesh_store.proofs.MeshLemmas.{all_put-same, mesh-tracked}
use Rattle.mesh_store.proofs.store.Store.track.Goals as goal

pub returns-in-Ok-clause-mesh : goal.returns-in-Ok-clause-mesh
returns-in-Ok-clause-mesh c =
    let is = ap (λ (v : StoreView). v.parts) c.in-Ok.ensures.ok in
    let before : IsSoundStore c.args.self.now.side c.args.self.now.parts = subst (λ (v : StoreView). IsSoundStore v.side v.parts) c.self.view_is c.self.invariant.sound in
    let after = subst (λ (v : StoreView). IsSoundStore v.side v.parts) (c.self-in-Ok.view_is ∙ c.in-Ok.ensures.ok) c.self-in-Ok.invariant.sound in
    ap mesh_in is ∙ mesh-tracked c.args.self.now.side (triples_of c.args.faces.now) c.args.self.now.parts before after

pub returns-in-Ok-clause-slots : goal.returns-in-Ok-clause-slots
returns-in-Ok-clause-slots c =
    let is = ap (λ (v : StoreView). v.parts) c.in-Ok.ensures.ok in
    subst (HasSameSlots c.args.self.now.parts) (sym is) (all_put-same (triples_of c.args.faces.now) c.args.self.now.parts)
