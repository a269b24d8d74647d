use Rattle.std.proofs.Common.{◌≡◌, drop, length, map}
use Rattle.std.specs.Prelude.{max}
use Rattle.mesh_store.specs.Parts.{live_tets}
use Rattle.mesh_types.specs.Verdicts.{energy_at, largest}
use Rattle.local_ops.proofs.measures.largest_new.Given as goal

abbrev pub invariant-loop-slot : goal.invariant-loop-slot
invariant-loop-slot l = record {
  rest : max l.most (largest (map (energy_at l.slots.points) (live_tets (drop l.slot l.slots.slots)))) ≡ largest (map (energy_at l.slots.points) (live_tets (drop l.first l.slots.slots)));
  end : l.slot-end ≡ length l.slots.slots;
}
