use Rattle.std.proofs.Common.{◌≡◌, ◌∙◌, ◌+◌, ◌*◌, ◌+ℤ◌, get_or, ap, subst, sym, arith}
use Rattle.grid.specs.declared.shapes.Point.{Point}
use Rattle.grid.specs.Boxes.{IsInBox}
use Rattle.grid.specs.Determinants.{point_at, origin}
use Rattle.grid.specs.Limits.{largest_side}
use Rattle.local_ops.specs.Smoothing.{IsSumUpTo}
use Rattle.mesh_types.proofs.ForCallers.{sum-more, IsUpTo-sum}
use Rattle.local_ops.proofs.smoothing.sum_of.Goals as goal

pub loop-w-preserved : goal.loop-w-preserved
loop-w-preserved c =
    let points = c.args.slots.now.points in
    let i = c.loop-w.w-index in
    let w = get_or c.args.around.now i 0 in
    let more : largest_side * i + largest_side ≡ largest_side * (i + 1) = omega arith in
    let p : IsInBox largest_side c.point.result = subst (IsInBox largest_side) (sym c.point.ensures) (c.requires.in_box w origin (c.requires.there i 0 c.loop-w-test.true)) in
    let within : IsSumUpTo (largest_side * i + largest_side) c.plus-sum.result = record {
      x_in = IsUpTo-sum (largest_side * i) largest_side _ _ _ c.loop-w.invariant.within.x_in p.x_in c.plus-sum.ensures.x;
      y_in = IsUpTo-sum (largest_side * i) largest_side _ _ _ c.loop-w.invariant.within.y_in p.y_in c.plus-sum.ensures.y;
      z_in = IsUpTo-sum (largest_side * i) largest_side _ _ _ c.loop-w.invariant.within.z_in p.z_in c.plus-sum.ensures.z;
    } in
    record {
      x_is = sum-more (λ w. (point_at points w).x) c.args.around.now i _ _ _ c.loop-w-test.true c.loop-w.invariant.x_is (c.plus-sum.ensures.x ∙ ap (λ (p : Point). c.loop-w.sum.x +ℤ p.x) c.point.ensures);
      y_is = sum-more (λ w. (point_at points w).y) c.args.around.now i _ _ _ c.loop-w-test.true c.loop-w.invariant.y_is (c.plus-sum.ensures.y ∙ ap (λ (p : Point). c.loop-w.sum.y +ℤ p.y) c.point.ensures);
      z_is = sum-more (λ w. (point_at points w).z) c.args.around.now i _ _ _ c.loop-w-test.true c.loop-w.invariant.z_is (c.plus-sum.ensures.z ∙ ap (λ (p : Point). c.loop-w.sum.z +ℤ p.z) c.point.ensures);
      within = subst (λ n. IsSumUpTo n c.plus-sum.result) more within;
    }
