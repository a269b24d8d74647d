use Rattle.std.proofs.Common.{ℕ, ◌+◌, ◌*◌, ◌^◌, min, ap, ◌∙◌, arith}
use Rattle.off_text.proofs.Decimals.{decimal_starts, decimal_goes_on, all_go_on}
use Rattle.std.specs.Char.{is_ascii_digit}
use Rattle.off_text.proofs.number.decimal.Goals as goal

pub loop-d-init : goal.loop-d-init
loop-d-init c = record {
  value = ap (λ (n : ℕ). min n (2 * 10 ^ 9)) (decimal_starts c.args.digits.now);
  high = omega arith;
  left = c.requires;
}

pub loop-d-preserved : goal.loop-d-preserved
loop-d-preserved c = record {
  value = decimal_goes_on _ c.loop-d.n _ c.loop-d.d-index _ c.args.digits.now c.loop-d-test.true (c.min-n.ensures ∙ ap (λ (n : ℕ). min (10 * c.loop-d.n + n) (2 * 10 ^ 9)) c.from.ensures) c.loop-d.invariant.value;
  high = omega (arith, c.min-n.ensures);
  left = all_go_on is_ascii_digit c.loop-d.d-index c.args.digits.now c.loop-d-test.true c.loop-d.invariant.left;
}
