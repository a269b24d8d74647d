use Rattle.std.proofs.Common.{◌≡◌, ◌++◌, drop, map}
use Rattle.tet_slots.specs.Searches.{numbers_of}
use Rattle.cutter.specs.Found.{is_touching, touched_at}
use Rattle.cutter.proofs.touching.push_made.Given as goal

abbrev pub invariant-loop-slot : goal.invariant-loop-slot
invariant-loop-slot l =
    l.into.items ++ map (touched_at l.slots.points l.slots.slots l.triangle) (numbers_of (is_touching l.slots.points l.triangle l.reach.lo l.reach.hi) l.slot (drop l.slot l.slots.slots))
    ≡ l.initial.into.items ++ map (touched_at l.slots.points l.slots.slots l.triangle) (numbers_of (is_touching l.slots.points l.triangle l.reach.lo l.reach.hi) l.first (drop l.first l.slots.slots))
