use Rattle.std.proofs.Common.{◌∙◌, ap}
use Rattle.grid.specs.Views.{corners_of, triples_of}
use Rattle.mesh_store.proofs.KeySets.{listed}
use Rattle.mesh_store.proofs.store.Store.lists.Goals as goal

pub returns : goal.returns
returns c = rw (← c.self.view_is) (λ i. record {
  points = (c.from_vec.ensures ∙ c.in_ok-points.ensures) i;
  tets = (ap corners_of c.from_vec-2.ensures ∙ c.in_ok-tets.ensures) i;
  tracked = (ap triples_of c.from_vec-3.ensures ∙ listed c.self.inside.tracked c.in_ok-tracked.tracked.items c.in_ok-tracked.ensures.faces c.in_ok-tracked.ensures.ordered) i;
  made = c.made.ensures.count i;
})
