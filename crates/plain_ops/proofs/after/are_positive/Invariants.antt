use Rattle.std.proofs.Common.{◌<◌, ℕ, [], get_or}
use Rattle.grid.specs.Determinants.{IsPositive}
use Rattle.plain_ops.proofs.after.are_positive.Given as goal

abbrev pub invariant-loop-tet : goal.invariant-loop-tet
invariant-loop-tet l = (k : ℕ) → k < l.tet-index → IsPositive l.points (get_or l.tets k (record { 0 = [] })).0
