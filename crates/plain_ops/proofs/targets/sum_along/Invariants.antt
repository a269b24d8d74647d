use Rattle.std.proofs.Common.{◌≡◌, ◌*◌, ◌+ℤ◌, drop}
use Rattle.grid.specs.Boxes.{IsUpTo}
use Rattle.grid.specs.Determinants.{point_at}
use Rattle.grid.specs.Limits.{largest_side}
use Rattle.mesh_types.specs.Results.{sum_at}
use Rattle.plain_ops.specs.Targets.{along}
use Rattle.plain_ops.proofs.targets.sum_along.Given as goal

abbrev pub invariant-loop-w : goal.invariant-loop-w
invariant-loop-w l = record {
  rest : l.sum +ℤ sum_at (λ w. along l.axis (point_at l.points w)) (drop l.w-index l.ws) ≡ sum_at (λ w. along l.axis (point_at l.points w)) l.ws;
  within : IsUpTo (largest_side * l.w-index) l.sum;
}
