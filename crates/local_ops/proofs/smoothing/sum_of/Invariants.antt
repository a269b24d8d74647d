use Rattle.std.proofs.Common.{◌≡◌, ◌*◌, ◌+ℤ◌, drop}
use Rattle.grid.specs.Determinants.{point_at}
use Rattle.grid.specs.Limits.{largest_side}
use Rattle.mesh_types.specs.Results.{sum_at}
use Rattle.local_ops.specs.Smoothing.{IsSumUpTo}
use Rattle.local_ops.proofs.smoothing.sum_of.Given as goal

abbrev pub invariant-loop-w : goal.invariant-loop-w
invariant-loop-w l = record {
  x_is : l.sum.x +ℤ sum_at (λ w. (point_at l.slots.points w).x) (drop l.w-index l.around) ≡ sum_at (λ w. (point_at l.slots.points w).x) l.around;
  y_is : l.sum.y +ℤ sum_at (λ w. (point_at l.slots.points w).y) (drop l.w-index l.around) ≡ sum_at (λ w. (point_at l.slots.points w).y) l.around;
  z_is : l.sum.z +ℤ sum_at (λ w. (point_at l.slots.points w).z) (drop l.w-index l.around) ≡ sum_at (λ w. (point_at l.slots.points w).z) l.around;
  within : IsSumUpTo (largest_side * l.w-index) l.sum;
}
