use Rattle.mesh_store.proofs.AtEdges.{FoundTo}
use Rattle.mesh_store.proofs.touching.touched_slots.Given as goal

abbrev pub invariant-loop-cut : goal.invariant-loop-cut
invariant-loop-cut l = FoundTo l.cuts l.slots.slots l.cut-index l.touched.items
