use Rattle.std.proofs.Common.{◌≡◌, ◌+◌, ◌*◌, ◌≤◌, drop, map}
use Rattle.grid.specs.Simplices.{count}
use Rattle.local_ops.specs.Measures.{corners_at}
use Rattle.local_ops.proofs.single.count_among.Given as goal

abbrev pub invariant-loop-slot : goal.invariant-loop-slot
invariant-loop-slot l = record {
  few : l.found ≤ 4 * l.slot-index;
  rest : l.found + count l.face.0 (map (corners_at l.slots.slots) (drop l.slot-index l.numbers)) ≡ count l.face.0 (map (corners_at l.slots.slots) l.numbers);
}
