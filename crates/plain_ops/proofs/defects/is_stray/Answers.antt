use Rattle.std.proofs.Common.{refl, get_or, arith, below_more}
use Rattle.grid.specs.Determinants.{point_at}
use Rattle.grid.specs.Near.{Near}
use Rattle.grid.proofs.ForCallers.{has-get_or}
use Rattle.cutting_rule.proofs.ForCallers.{all-index}
use Rattle.plain_ops.proofs.defects.is_stray.Goals as goal

pub returns-then-is_far-clause-stray : goal.returns-then-is_far-clause-stray
returns-then-is_far-clause-stray c = λ _. record {
  corner = get_or c.args.face.0 c.loop-u.u-index 0;
  of_face = has-get_or c.args.face.0 c.loop-u.u-index (omega arith);
  far = c.if-is_far.ensures.far refl;
}

pub loop-u-preserved : goal.loop-u-preserved
loop-u-preserved c = below_more _ _ c.loop-u.invariant (c.if-is_far.ensures.near refl)

pub returns-clause-near : goal.returns-clause-near
returns-clause-near c = λ _. all-index (λ u. Near (point_at c.args.points.now u) 0 c.args.tri.now c.args.e) c.args.face.0 (λ k lt. c.loop-u.invariant k (omega arith))
