use Rattle.std.proofs.Common.{◌≡◌, ◌++◌, drop}
use Rattle.std.specs.List.{flat_map}
use Rattle.cutter.specs.Found.{picked}
use Rattle.cutter.proofs.touching.find_touching.Given as goal

abbrev pub invariant-loop-slot : goal.invariant-loop-slot
invariant-loop-slot l =
    l.near.items ++ flat_map (picked l.slots.points l.slots.slots l.triangle) (drop l.slot-index l.slot-items)
    ≡ flat_map (picked l.slots.points l.slots.slots l.triangle) l.slot-items
