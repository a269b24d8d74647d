use Rattle.std.proofs.Common.{◌≡◌, ℕ, ◌*◌, ◌^◌, ◌≤◌, [], ◌∷◌, ℤ, pos, ◌+ℤ◌, ◌*ℤ◌, SFits, T, sym, ap, ap₂, ◌∙◌, subst, arith, to_z-of_z}
use mir.Syntax.{w128}
use Rattle.std.specs.Int.{int_div_euclid, IsNonZero, NotMinOverMinusOne}
use Rattle.int_algebra.specs.Within.{IsWithin}
use Rattle.int_algebra.proofs.Bounds.{AreWithin, fits_within, wider-IsWithin}
use Rattle.int_algebra.proofs.Kept.{Code, constant, variable, ◌⊕◌, ◌⊗◌, kept, code_value, is_safe, kept-value, fits_code}
use Rattle.off_text.specs.Rounding.{within_most}
use Rattle.off_text.proofs.Rounded.{ten_power, ten_least}
use Rattle.off_text.proofs.rounding.over_power.Goals as goal

abbrev dividend : Code
dividend = kept w128 (constant (pos 2) ⊗ kept w128 (variable 0)) ⊕ kept w128 (variable 1)

abbrev divisor : Code
divisor = constant (pos 2) ⊗ kept w128 (variable 1)

power_within : (n : ℕ) → n ≤ 32 → IsWithin (10 ^ 32) (pos (10 ^ n))
power_within n few = record { within = ten_power n 32 few }

all_in : (c : goal.After-pow-unit) → AreWithin (10 ^ 32 ∷ 10 ^ 32 ∷ []) (c.args.m ∷ c.pow-unit.result ∷ [])
all_in c = (wider-IsWithin (10 ^ 32) c.requires.m (omega arith), (subst (IsWithin (10 ^ 32)) (sym c.pow-unit.ensures) (power_within c.args.power c.requires.power), tt))

fits : (c : goal.After-pow-unit) (e : Code) → T (is_safe (10 ^ 32 ∷ 10 ^ 32 ∷ []) (kept w128 e)) → SFits w128 (code_value (c.args.m ∷ c.pow-unit.result ∷ []) e)
fits c = fits_code (10 ^ 32 ∷ 10 ^ 32 ∷ []) (c.args.m ∷ c.pow-unit.result ∷ []) (all_in c) w128

divisor_is : (c : goal.After-pow-unit) → code_value (c.args.m ∷ c.pow-unit.result ∷ []) (kept w128 divisor) ≡ pos (2 * 10 ^ c.args.power)
divisor_is c =
    kept-value (10 ^ 32 ∷ 10 ^ 32 ∷ []) (c.args.m ∷ c.pow-unit.result ∷ []) (all_in c) (kept w128 divisor) tt
    ∙ ap (λ (u : ℤ). pos 2 *ℤ u) c.pow-unit.ensures

dividend_is : (c : goal.After-pow-unit) → code_value (c.args.m ∷ c.pow-unit.result ∷ []) (kept w128 dividend) ≡ pos 2 *ℤ c.args.m +ℤ pos (10 ^ c.args.power)
dividend_is c =
    kept-value (10 ^ 32 ∷ 10 ^ 32 ∷ []) (c.args.m ∷ c.pow-unit.result ∷ []) (all_in c) (kept w128 dividend) tt
    ∙ ap (λ (u : ℤ). pos 2 *ℤ c.args.m +ℤ u) c.pow-unit.ensures

pub pow-unit-requires : goal.pow-unit-requires
pow-unit-requires c = fits_within w128 (power_within c.args.power c.requires.power) (omega arith)

pub overflow_add-m : goal.overflow_add-m
overflow_add-m c = fits c dividend tt

pub overflow_mul-unit : goal.overflow_mul-unit
overflow_mul-unit c = fits c divisor tt

pub div_euclid-requires-clause-nonzero : goal.div_euclid-requires-clause-nonzero
div_euclid-requires-clause-nonzero c = subst (IsNonZero w128) (sym (divisor_is c)) (omega (arith, ten_least c.args.power))

pub div_euclid-requires-clause-no_overflow : goal.div_euclid-requires-clause-no_overflow
div_euclid-requires-clause-no_overflow c =
    subst (NotMinOverMinusOne w128 (code_value (c.args.m ∷ c.pow-unit.result ∷ []) (kept w128 dividend))) (sym (divisor_is c)) (λ h k. omega (arith, ten_power c.args.power 32 c.requires.power, h))

pub returns : goal.returns
returns c =
    let fits : SFits w128 c.div_euclid.result = record { sfits = c.div_euclid.type_inv } in
    c.within_most.ensures
    ∙ ap within_most (to_z-of_z fits ∙ c.div_euclid.ensures ∙ ap₂ int_div_euclid (dividend_is c.before.before) (divisor_is c.before.before))
