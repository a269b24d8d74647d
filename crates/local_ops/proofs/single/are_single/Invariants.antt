use Rattle.std.proofs.Common.{◌≡◌, drop, length}
use Rattle.std.specs.List.{list_all}
use Rattle.mesh_store.specs.Parts.{live_tets}
use Rattle.local_ops.specs.Measures.{has_single_faces}
use Rattle.local_ops.proofs.single.are_single.Given as goal

abbrev pub invariant-loop-slot : goal.invariant-loop-slot
invariant-loop-slot l = record {
  rest : list_all (has_single_faces (live_tets l.slots.slots)) (live_tets (drop l.slot l.slots.slots)) ≡ list_all (has_single_faces (live_tets l.slots.slots)) (live_tets (drop l.first l.slots.slots));
  end : l.slot-end ≡ length l.slots.slots;
}
