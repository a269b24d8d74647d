use Rattle.std.proofs.Common.{◌≡◌, ◌<◌, ℕ, false, length, map, take, slice_index_or}
use Rattle.msh_text.specs.FileMesh.{is_used}
use Rattle.msh_text.proofs.kept.corner_marks.Given as goal

abbrev pub invariant-loop-tet : goal.invariant-loop-tet
invariant-loop-tet l = record {
  one_each : length l.marks.items ≡ l.bound;
  marks : (u : ℕ) → u < l.bound → slice_index_or l.marks.items u false ≡ is_used (map (λ t. t.corners) (take l.tet-index l.tets)) u;
}
