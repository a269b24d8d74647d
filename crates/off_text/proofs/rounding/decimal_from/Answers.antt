use Rattle.std.proofs.Common.{arith}
use Rattle.off_text.proofs.Numerals.{decimal_from_bound}
use Rattle.off_text.proofs.rounding.decimal_from.Goals as goal

pub overflow_mul-n : goal.overflow_mul-n
overflow_mul-n c = omega (arith, c.requires.few, decimal_from_bound c.loop-d.n c.loop-d.d-index _ c.args.digits.now c.loop-d-test.true c.loop-d.invariant.value)

pub overflow_add-n : goal.overflow_add-n
overflow_add-n c = omega (arith, c.from.ensures, c.requires.few, decimal_from_bound c.loop-d.n c.loop-d.d-index _ c.args.digits.now c.loop-d-test.true c.loop-d.invariant.value)
