use Rattle.std.proofs.Common.{◌≡◌, ◌&&◌, false, take}
use Rattle.std.specs.List.{list_any}
use Rattle.grid.specs.Views.{triples_of}
use Rattle.tracked.specs.Keys.{entry_at, faces_in}
use Rattle.tracked.specs.RimEdges.{has_rim_edge}
use Rattle.tracked.proofs.table.Tracked.is_rim.Given as goal

abbrev pub invariant-loop-place : goal.invariant-loop-place
invariant-loop-place l =
    list_any (λ i. (entry_at l.self i).1 && has_rim_edge (triples_of (faces_in l.self)) l.u (entry_at l.self i).0.0) (take l.place-index l.places) ≡ false
