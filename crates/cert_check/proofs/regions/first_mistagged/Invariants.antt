use Rattle.std.proofs.Common.{ℕ, ◌<◌}
use Rattle.cert_check.specs.Searches.{IsFlagged}
use Rattle.cert_check.proofs.regions.first_mistagged.Given as goal

abbrev pub invariant-loop-i : goal.invariant-loop-i
invariant-loop-i l = (k : ℕ) → k < l.i → IsFlagged l.tets l.flags k
