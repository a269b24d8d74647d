use Rattle.std.proofs.Common.{◌≡◌, ◌<◌, ℕ, ◌||◌, false, length, drop, slice_index_or}
use Rattle.grid.specs.Simplices.{has}
use Rattle.msh_text.proofs.kept.mark_corners.Given as goal

abbrev pub invariant-loop-corner : goal.invariant-loop-corner
invariant-loop-corner l = record {
  one_each : length l.marks ≡ length l.initial.marks;
  marks : (u : ℕ) → u < length l.initial.marks → (slice_index_or l.marks u false || has (drop l.corner-index l.corners) u) ≡ (slice_index_or l.initial.marks u false || has l.corners u);
}
