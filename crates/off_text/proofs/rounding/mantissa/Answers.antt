use Rattle.std.proofs.Common.{◌≡◌, ℕ, ◌<◌, ◌^◌, ◌++◌, sym, ap, ◌∙◌, subst}
use Rattle.off_text.specs.Numbers.{decimal_from, decimal}
use Rattle.off_text.specs.PartsView.{parts_view}
use Rattle.off_text.proofs.Numerals.{digits_behind}
use Rattle.off_text.proofs.Rounded.{short_whole, short_number}
use Rattle.off_text.proofs.rounding.mantissa.Goals as goal

pub decimal_from-whole-requires-clause-few : goal.decimal_from-whole-requires-clause-few
unfolding decimal
decimal_from-whole-requires-clause-few c = short_whole (parts_view c.args.parts.now) c.requires

pub decimal_from-requires-clause-few : goal.decimal_from-requires-clause-few
unfolding decimal
decimal_from-requires-clause-few c =
    let p = parts_view c.args.parts.now in
    subst (λ (n : ℕ). decimal_from n p.fraction < 10 ^ 32) (sym c.decimal_from-whole.ensures)
    (subst (λ (n : ℕ). n < 10 ^ 32) (digits_behind p.whole p.fraction) (short_number p c.requires))

pub returns : goal.returns
unfolding decimal
returns c =
    let p = parts_view c.args.parts.now in
    let value : c.decimal_from.result ≡ decimal (p.whole ++ p.fraction) = c.decimal_from.ensures ∙ ap (λ (n : ℕ). decimal_from n p.fraction) c.decimal_from-whole.ensures ∙ sym (digits_behind p.whole p.fraction) in
    record { value = value; few = subst (λ (n : ℕ). n < 10 ^ 32) (sym value) (short_number p c.requires) }
