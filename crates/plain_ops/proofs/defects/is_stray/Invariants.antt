use Rattle.std.proofs.Common.{◌<◌, ℕ, get_or}
use Rattle.grid.specs.Determinants.{point_at}
use Rattle.grid.specs.Near.{Near}
use Rattle.plain_ops.proofs.defects.is_stray.Given as goal

abbrev pub invariant-loop-u : goal.invariant-loop-u
invariant-loop-u l = (k : ℕ) → k < l.u-index → Near (point_at l.points (get_or l.u-items k 0)) 0 l.tri l.e
