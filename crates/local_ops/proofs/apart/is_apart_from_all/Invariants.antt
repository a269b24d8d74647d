use Rattle.std.proofs.Common.{◌≡◌, drop, map}
use Rattle.std.specs.List.{list_all}
use Rattle.local_ops.specs.Apart.{is_apart_from}
use Rattle.local_ops.specs.Measures.{corners_at}
use Rattle.local_ops.proofs.apart.is_apart_from_all.Given as goal

abbrev pub invariant-loop-slot : goal.invariant-loop-slot
invariant-loop-slot l =
    list_all (is_apart_from l.u l.fn.tet.0) (map (corners_at l.slots.slots) (drop l.slot-index l.around))
    ≡ list_all (is_apart_from l.u l.fn.tet.0) (map (corners_at l.slots.slots) l.around)
