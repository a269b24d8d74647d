use Rattle.mesh_store.proofs.FaceSearches.{FoundTo}
use Rattle.mesh_store.proofs.touching.touched_faces.Given as goal

abbrev pub invariant-loop-cut : goal.invariant-loop-cut
invariant-loop-cut l = FoundTo l.tracked l.cuts l.cut-index l.touched.items
