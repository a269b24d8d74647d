use Rattle.std.proofs.Common.{◌≡◌, drop, map}
use Rattle.std.specs.Prelude.{max}
use Rattle.mesh_types.specs.Verdicts.{energy_at, largest}
use Rattle.local_ops.specs.Measures.{corners_at}
use Rattle.local_ops.proofs.measures.largest_at.Given as goal

abbrev pub invariant-loop-slot : goal.invariant-loop-slot
invariant-loop-slot l = max l.most (largest (map (energy_at l.slots.points) (map (corners_at l.slots.slots) (drop l.slot-index l.numbers)))) ≡ largest (map (energy_at l.slots.points) (map (corners_at l.slots.slots) l.numbers))
