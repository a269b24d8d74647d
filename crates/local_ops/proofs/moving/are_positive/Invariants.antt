use Rattle.std.proofs.Common.{◌≡◌, drop, map}
use Rattle.std.specs.List.{list_all}
use Rattle.local_ops.specs.Foreseen.{become_positive}
use Rattle.local_ops.specs.Measures.{corners_at}
use Rattle.local_ops.proofs.moving.are_positive.Given as goal

abbrev pub invariant-loop-slot : goal.invariant-loop-slot
invariant-loop-slot l = list_all (become_positive l.attempt l.at l.slots.points) (map (corners_at l.slots.slots) (drop l.slot-index l.near)) ≡ list_all (become_positive l.attempt l.at l.slots.points) (map (corners_at l.slots.slots) l.near)
