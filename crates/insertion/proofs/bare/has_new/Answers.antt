use Rattle.std.proofs.Common.{◌<◌, get_or, arith}
use Rattle.cutting_rule.proofs.ForCallers.{all-index}
use Rattle.insertion.proofs.bare.has_new.Goals as goal
use Rattle.grid.proofs.ForCallers.{has-get_or}

pub returns-then-u-first-clause-new : goal.returns-then-u-first-clause-new
returns-then-u-first-clause-new c = λ _. record {
  corner = get_or c.args.face.0 c.loop-u.u-index 0;
  there = has-get_or c.args.face.0 c.loop-u.u-index (omega arith);
  new = c.if-u-first.true;
}

pub returns-clause-old : goal.returns-clause-old
returns-clause-old c = λ _. all-index (λ u. u < c.args.first) c.args.face.0 (λ k lt. c.loop-u.invariant k (omega arith))
