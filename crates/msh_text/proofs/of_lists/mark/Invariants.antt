use Rattle.std.proofs.Common.{◌≡◌, ℕ, ◌||◌, false, length, drop, slice_index_or}
use Rattle.grid.specs.Simplices.{has}
use Rattle.msh_text.proofs.of_lists.mark.Given as goal

abbrev pub invariant-loop-corner : goal.invariant-loop-corner
invariant-loop-corner l = record {
  one_each : length l.used ≡ length l.initial.used;
  marks : (u : ℕ) → (slice_index_or l.used u false || has (drop l.corner-index l.corners) u) ≡ (slice_index_or l.initial.used u false || has l.corners u);
}
