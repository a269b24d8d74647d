-- The code's values as codes (`Kept`), where the weighted sum is the number 0 and the sum of the weights, cast to 128 bits, the number 1.
use Rattle.std.proofs.Common.{rules, to_z-of_z, ◌≡◌, ℕ, ◌+◌, ◌*◌, ◌^◌, ◌≤◌, List, [], ◌∷◌, ℤ, pos, ◌+ℤ◌, ◌*ℤ◌, w32, SFits, T, to_z, subst, sym, ap₂, ◌∙◌, arith}
use mir.Syntax.{w128}
use Rattle.std.specs.Int.{int_div_euclid, IsNonZero, NotMinOverMinusOne}
use Rattle.std.proofs.Math.Facts.{to_z_pos}
use Rattle.int_algebra.specs.Within.{IsWithin}
use Rattle.int_algebra.proofs.Bounds.{AreWithin, within_natural, within_cast, sum-IsWithin, product-IsWithin, wider-IsWithin}
use Rattle.int_algebra.proofs.Kept.{Code, constant, variable, ◌⊕◌, ◌⊗◌, kept, code_value, is_safe, kept-value, fits_code}
use Rattle.grid.specs.Planes as planes
use Rattle.grid.specs.Limits.{largest_side}
use Rattle.planes.proofs.MeanLemmas.{rounded_mean-IsUpTo}
use Rattle.planes.proofs.mean.rounded_mean.Goals as goal

abbrev doubled : Code
doubled = constant (pos 2) ⊗ kept w128 (variable 0)

abbrev dividend : Code
dividend = kept w128 doubled ⊕ variable 1

abbrev divisor : Code
divisor = constant (pos 2) ⊗ variable 1

abbrev bounds : List ℕ
bounds = 2 ^ 76 ∷ 2 ^ 58 ∷ []

abbrev values : ℤ → ℕ → List ℤ
values w s = w ∷ to_z w128 s ∷ []

sum_in : (c : goal.After-weighted_sum-weighted) → c.args.f + c.args.g ≤ 2 ^ 58
sum_in c = omega (arith, c.requires.f_in, c.requires.g_in)

sum_is : (c : goal.After-weighted_sum-weighted) → to_z w128 (c.args.f + c.args.g) ≡ pos (c.args.f + c.args.g)
sum_is c = to_z_pos w128 (omega (arith, sum_in c))

weighted_is : (c : goal.After-weighted_sum-weighted) → c.weighted_sum-weighted.result ≡ (c.args.u *ℤ pos c.args.g) +ℤ (c.args.v *ℤ pos c.args.f)
weighted_is c =
    let u : SFits w32 c.args.u = search rules in
    let v : SFits w32 c.args.v = search rules in
    c.weighted_sum-weighted.ensures ∙ (λ i. (to_z-of_z u i *ℤ pos c.args.g) +ℤ (to_z-of_z v i *ℤ pos c.args.f))

weighted_in : (c : goal.After-weighted_sum-weighted) → IsWithin (2 ^ 76) c.weighted_sum-weighted.result
weighted_in c =
    let u = within_natural largest_side c.args.u c.requires.u_in.low c.requires.u_in.high in
    let v = within_natural largest_side c.args.v c.requires.v_in.low c.requires.v_in.high in
    let f : IsWithin (2 ^ 57) (pos c.args.f) = record { within = c.requires.f_in } in
    let g : IsWithin (2 ^ 57) (pos c.args.g) = record { within = c.requires.g_in } in
    subst (IsWithin (2 ^ 76)) (sym (weighted_is c)) (wider-IsWithin (2 ^ 76) (sum-IsWithin (product-IsWithin u g) (product-IsWithin v f)) (omega arith))

all_in : (c : goal.After-weighted_sum-weighted) → AreWithin bounds (values c.weighted_sum-weighted.result (c.args.f + c.args.g))
all_in c = (weighted_in c, (within_cast w128 (2 ^ 58) (c.args.f + c.args.g) (sum_in c) (omega (arith, sum_in c)), tt))

fits : (c : goal.After-weighted_sum-weighted) (e : Code) → T (is_safe bounds (kept w128 e)) → SFits w128 (code_value (values c.weighted_sum-weighted.result (c.args.f + c.args.g)) e)
fits c = fits_code bounds (values c.weighted_sum-weighted.result (c.args.f + c.args.g)) (all_in c) w128

dividend_is : (c : goal.After-weighted_sum-weighted) → code_value (values c.weighted_sum-weighted.result (c.args.f + c.args.g)) (kept w128 dividend) ≡ pos 2 *ℤ ((c.args.u *ℤ pos c.args.g) +ℤ (c.args.v *ℤ pos c.args.f)) +ℤ pos (c.args.f + c.args.g)
dividend_is c =
    kept-value bounds (values c.weighted_sum-weighted.result (c.args.f + c.args.g)) (all_in c) (kept w128 dividend) tt
    ∙ (λ i. pos 2 *ℤ weighted_is c i +ℤ sum_is c i)

divisor_is : (c : goal.After-weighted_sum-weighted) → code_value (values c.weighted_sum-weighted.result (c.args.f + c.args.g)) (kept w128 divisor) ≡ pos (2 * (c.args.f + c.args.g))
divisor_is c =
    kept-value bounds (values c.weighted_sum-weighted.result (c.args.f + c.args.g)) (all_in c) (kept w128 divisor) tt
    ∙ (λ i. pos 2 *ℤ sum_is c i)

pub overflow_mul-weighted : goal.overflow_mul-weighted
overflow_mul-weighted c = fits c doubled tt

pub overflow_add-weighted : goal.overflow_add-weighted
overflow_add-weighted c = fits c dividend tt

pub overflow_mul-sum : goal.overflow_mul-sum
overflow_mul-sum c = fits c divisor tt

pub div_euclid-requires-clause-nonzero : goal.div_euclid-requires-clause-nonzero
div_euclid-requires-clause-nonzero c = subst (IsNonZero w128) (sym (divisor_is c)) (omega (arith, c.requires.some))

pub div_euclid-requires-clause-no_overflow : goal.div_euclid-requires-clause-no_overflow
div_euclid-requires-clause-no_overflow c =
    subst (NotMinOverMinusOne w128 (code_value (values c.weighted_sum-weighted.result (c.args.f + c.args.g)) (kept w128 dividend))) (sym (divisor_is c)) (λ h k. omega (arith, sum_in c, h))

quotient_is : (c : goal.After-div_euclid) → c.div_euclid.result ≡ planes.rounded_mean c.args.u c.args.v c.args.f c.args.g
quotient_is c = c.div_euclid.ensures ∙ ap₂ int_div_euclid (dividend_is c.before) (divisor_is c.before)

quotient_in : (c : goal.After-div_euclid) → IsWithin largest_side c.div_euclid.result
quotient_in c =
    let h = rounded_mean-IsUpTo c.args.f c.args.g c.requires.some c.args.u c.args.v largest_side c.requires.u_in c.requires.v_in in
    subst (IsWithin largest_side) (sym (quotient_is c)) (within_natural largest_side _ h.low h.high)

pub overflow_cast-result : goal.overflow_cast-result
overflow_cast-result c = fits_code (largest_side ∷ []) (c.div_euclid.result ∷ []) (quotient_in c, tt) w32 (kept w128 (variable 0)) tt

pub returns : goal.returns
returns c = kept-value (largest_side ∷ []) (c.div_euclid.result ∷ []) (quotient_in c, tt) (kept w32 (kept w128 (variable 0))) tt ∙ quotient_is c
