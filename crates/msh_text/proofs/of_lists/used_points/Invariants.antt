use Rattle.std.proofs.Common.{◌≡◌, ℕ, false, length, take, slice_index_or}
use Rattle.grid.specs.Views.{corners_of}
use Rattle.msh_text.specs.FileMesh.{is_used}
use Rattle.msh_text.proofs.of_lists.used_points.Given as goal

abbrev pub invariant-loop-tet : goal.invariant-loop-tet
invariant-loop-tet l = record {
  one_each : length l.used.items ≡ l.points;
  marks : (u : ℕ) → slice_index_or l.used.items u false ≡ is_used (corners_of (take l.tet-index l.tets)) u;
}
