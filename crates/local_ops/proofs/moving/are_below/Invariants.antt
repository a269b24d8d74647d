use Rattle.std.proofs.Common.{◌≡◌, drop, map}
use Rattle.std.specs.List.{list_all}
use Rattle.local_ops.specs.Foreseen.{become_lower}
use Rattle.local_ops.specs.Measures.{corners_at}
use Rattle.local_ops.proofs.moving.are_below.Given as goal

abbrev pub invariant-loop-slot : goal.invariant-loop-slot
invariant-loop-slot l = list_all (become_lower l.attempt l.at l.slots.points l.most) (map (corners_at l.slots.slots) (drop l.slot-index l.near)) ≡ list_all (become_lower l.attempt l.at l.slots.points l.most) (map (corners_at l.slots.slots) l.near)
