use Rattle.std.proofs.Common.{◌≡◌, drop, map}
use Rattle.std.specs.List.{list_all}
use Rattle.local_ops.specs.Apart.{is_apart}
use Rattle.local_ops.specs.Measures.{corners_at}
use Rattle.local_ops.proofs.apart.all_apart.Given as goal

abbrev pub invariant-loop-slot : goal.invariant-loop-slot
invariant-loop-slot l =
    list_all (is_apart l.u l.v (map (corners_at l.slots.slots) l.around)) (map (corners_at l.slots.slots) (drop l.slot-index l.near))
    ≡ list_all (is_apart l.u l.v (map (corners_at l.slots.slots) l.around)) (map (corners_at l.slots.slots) l.near)
