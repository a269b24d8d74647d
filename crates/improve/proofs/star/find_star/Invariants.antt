use Rattle.std.proofs.Common.{◌≡◌, ◌++◌, drop, map}
use Rattle.std.specs.List.{filter}
use Rattle.grid.specs.Simplices.{has}
use Rattle.grid.specs.Views.{corners_of}
use Rattle.tet_slots.specs.Slots.{slot_at}
use Rattle.mesh_store.specs.Parts.{live_tets}
use Rattle.improve.proofs.star.find_star.Given as goal

abbrev pub invariant-loop-number : goal.invariant-loop-number
invariant-loop-number l = corners_of l.tets.items ++ map (λ i. (slot_at l.slots.slots i).tet.0) (drop l.number-index l.number-items) ≡ filter (λ x. has x l.u) (live_tets l.slots.slots)
