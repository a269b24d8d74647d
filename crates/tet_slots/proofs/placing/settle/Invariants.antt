use Rattle.std.proofs.Common.{◌≡◌, length}
use Rattle.tet_slots.specs.Kept.{AreFirstBinned}
use Rattle.tet_slots.proofs.placing.settle.Given as goal

abbrev pub invariant-loop-slot : goal.invariant-loop-slot
invariant-loop-slot l = record {
  many : length l.places.items ≡ l.slot;
  binned : AreFirstBinned l.points l.slots l.forgotten l.places.items l.levels.items;
}
