use Rattle.std.proofs.Common.{sym, ◌∙◌, arith}
use Rattle.off_text.proofs.Decimals.{not_number_empty, not_number, number_is, all_pass}
use Rattle.std.specs.Char.{is_ascii_digit}
use Rattle.off_text.proofs.number.number.Goals as goal

pub returns-then-is_empty : goal.returns-then-is_empty
returns-then-is_empty c = not_number_empty c.args.word.now (sym c.is_empty.ensures ∙ c.if-is_empty.true)

pub returns-then-leading_digits-word : goal.returns-then-leading_digits-word
returns-then-leading_digits-word c = not_number c.args.word.now (omega (arith, c.leading_digits.ensures.value, c.if-leading_digits-word.true))

pub decimal-requires : goal.decimal-requires
decimal-requires c = all_pass is_ascii_digit c.args.word.now (omega (arith, c.leading_digits.ensures.value, c.if-leading_digits-word.false))

pub returns : goal.returns
returns c = record {
  digits = number_is c.args.word.now (sym c.is_empty.ensures ∙ c.if-is_empty.false) (omega (arith, c.leading_digits.ensures.value, c.if-leading_digits-word.false));
  value = c.decimal.ensures;
}
