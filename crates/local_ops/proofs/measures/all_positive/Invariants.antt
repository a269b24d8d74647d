use Rattle.std.proofs.Common.{◌≡◌, drop, length}
use Rattle.std.specs.List.{list_all}
use Rattle.mesh_store.specs.Parts.{live_tets}
use Rattle.local_ops.specs.Measures.{is_positive}
use Rattle.local_ops.proofs.measures.all_positive.Given as goal

abbrev pub invariant-loop-slot : goal.invariant-loop-slot
invariant-loop-slot l = record {
  rest : list_all (is_positive l.slots.points) (live_tets (drop l.slot l.slots.slots)) ≡ list_all (is_positive l.slots.points) (live_tets (drop l.first l.slots.slots));
  end : l.slot-end ≡ length l.slots.slots;
}
