use Rattle.std.proofs.Common.{◌<◌, ℕ, get_or, All, []}
use Rattle.grid.specs.Determinants.{point_at}
use Rattle.grid.specs.Near.{Near}
use Rattle.plain_ops.proofs.defects.first_stray.Given as goal

abbrev pub invariant-loop-face : goal.invariant-loop-face
invariant-loop-face l = (k : ℕ) → k < l.face-index → All (λ u. Near (point_at l.points u) 0 l.tri l.e) (get_or l.faces k (record { 0 = [] })).0
