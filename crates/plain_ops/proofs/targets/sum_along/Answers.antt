use Rattle.std.proofs.Common.{◌≡◌, ◌∙◌, ◌+◌, ◌*◌, ◌+ℤ◌, ℤ, SFits, to_z, of_z, to_z-of_z, ap, subst, arith, rules}
use mir.Syntax.{w32, w64}
use Rattle.grid.specs.Boxes.{IsUpTo}
use Rattle.grid.specs.Determinants.{point_at}
use Rattle.grid.specs.Limits.{largest_side}
use Rattle.plain_ops.specs.Targets.{along}
use Rattle.mesh_types.proofs.ForCallers.{small-fits, sum-more, IsUpTo-sum}
use Rattle.plain_ops.proofs.targets.sum_along.Goals as goal

pub loop-w-preserved : goal.loop-w-preserved
loop-w-preserved c =
    let i = c.loop-w.w-index in
    let more : largest_side * i + largest_side ≡ largest_side * (i + 1) = omega arith in
    let fits : SFits w32 c.coordinate.result = small-fits c.coordinate.result c.coordinate.ensures.within in
    let sum = to_z w64 c.loop-w.sum-bits in
    let is : c.plus-sum.result ≡ sum +ℤ c.coordinate.result = c.plus-sum.ensures ∙ ap (λ (z : ℤ). sum +ℤ z) (to_z-of_z fits) in
    let wide : SFits w64 c.plus-sum.result = search rules in
    let new : to_z w64 (of_z w64 c.plus-sum.result) ≡ sum +ℤ c.coordinate.result = to_z-of_z wide ∙ is in
    record {
      rest = sum-more (λ w. along c.args.axis (point_at c.args.points.now w)) c.args.ws.now i sum _ _ (omega arith) c.loop-w.invariant.rest (new ∙ ap (λ (z : ℤ). sum +ℤ z) c.coordinate.ensures.value);
      within = subst (λ n. IsUpTo n (to_z w64 (of_z w64 c.plus-sum.result))) more (IsUpTo-sum (largest_side * i) largest_side sum c.coordinate.result _ c.loop-w.invariant.within c.coordinate.ensures.within new);
    }
