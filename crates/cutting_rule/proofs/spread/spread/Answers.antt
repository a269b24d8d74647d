use Rattle.std.proofs.Common.{◌≡◌, ℕ, ◌^◌, ◌≤◌, ◌+ℤ◌, ◌-ℤ◌, ◌*ℤ◌, ℤ, pos, ◌≤ℤ◌, [], ◌∷◌, ap, sym, ◌∙◌, subst, arith, w32, w64, SFits, to_z, of_z, to_z-of_z}
use Rattle.std.specs.Int.{int_max, int_min}
use Rattle.std.proofs.lemmas.Int.{ints}
use Rattle.int_algebra.proofs.Laws.{linear}
use Rattle.int_algebra.proofs.Bounds.{AreWithin, fits_within, within_natural, within_cast}
use Rattle.int_algebra.proofs.Kept.{Code, variable, ◌⊕◌, ◌⊖◌, kept, kept-value}
use Rattle.grid.specs.Boxes.{IsUpTo}
use Rattle.grid.specs.Limits.{largest_side}
use Rattle.cutting_rule.proofs.Spreads.{spread-is, max-least, max-right, min-greatest, min-right}
use Rattle.cutting_rule.proofs.spread.spread.Goals as goal

abbrev coordinate : Code
coordinate = kept w64 (kept w32 (variable 0))

cast-is : (m : ℕ) → m ≤ 2 ^ 60 → to_z w64 m ≡ pos m
cast-is m h = omega (arith, ints, h)

module _ (z : ℤ) (m : ℕ) (z_in : IsUpTo largest_side z) (m_in : m ≤ 2 ^ 60) where
  all_in : AreWithin (largest_side ∷ 2 ^ 60 ∷ []) (z ∷ to_z w64 m ∷ [])
  all_in = (within_natural largest_side z z_in.low z_in.high, (within_cast w64 (2 ^ 60) m m_in (omega (arith, m_in)), tt))

  low-is : to_z w64 (of_z w64 (to_z w64 (of_z w64 (to_z w32 (of_z w32 z))) -ℤ to_z w64 m)) ≡ z -ℤ pos m
  low-is = kept-value (largest_side ∷ 2 ^ 60 ∷ []) (z ∷ to_z w64 m ∷ []) all_in (kept w64 (coordinate ⊖ variable 1)) tt ∙ ap (λ q. z -ℤ q) (cast-is m m_in)

  high-is : to_z w64 (of_z w64 (to_z w64 (of_z w64 (to_z w32 (of_z w32 z))) +ℤ to_z w64 m)) ≡ z +ℤ pos m
  high-is = kept-value (largest_side ∷ 2 ^ 60 ∷ []) (z ∷ to_z w64 m ∷ []) all_in (kept w64 (coordinate ⊕ variable 1)) tt ∙ ap (λ q. z +ℤ q) (cast-is m m_in)

twice-kept : (x : ℤ) → pos 0 ≤ℤ x → x ≤ℤ pos largest_side → to_z w32 (of_z w32 (to_z w64 (of_z w64 x))) ≡ x
twice-kept x h k = kept-value (largest_side ∷ []) (x ∷ []) (within_natural largest_side x h k, tt) (kept w32 (kept w64 (variable 0))) tt

fits-twice : (x : ℤ) → pos 0 ≤ℤ x → x ≤ℤ pos largest_side → SFits w32 (to_z w64 (of_z w64 x))
fits-twice x h k = let fits : SFits w64 x = fits_within w64 (within_natural largest_side x h k) (omega arith) in subst (SFits w32) (sym (to_z-of_z fits)) (fits_within w32 (within_natural largest_side x h k) (omega arith))

low-end : (lo x : ℤ) (m : ℕ) → IsUpTo largest_side lo → x ≡ int_max (lo -ℤ pos m) (pos 0) → (pos 0 ≤ℤ x) × (x ≤ℤ pos largest_side)
low-end lo x m h e =
    let low = h.low in
    let high = h.high in (
      subst (λ (z : ℤ). pos 0 ≤ℤ z) (sym e) (max-right (lo -ℤ pos m) (pos 0)),
      subst (λ (z : ℤ). z ≤ℤ pos largest_side) (sym e) (max-least (lo -ℤ pos m) (pos 0) (pos largest_side) (omega (arith, linear, high)) (omega (arith, linear))),
    )

high-end : (hi x : ℤ) (m : ℕ) → IsUpTo largest_side hi → x ≡ int_min (hi +ℤ pos m) (pos largest_side) → (pos 0 ≤ℤ x) × (x ≤ℤ pos largest_side)
high-end hi x m h e =
    let low = h.low in (
      subst (λ (z : ℤ). pos 0 ≤ℤ z) (sym e) (min-greatest (hi +ℤ pos m) (pos largest_side) (pos 0) (omega (arith, linear, low)) (omega (arith, linear))),
      subst (λ (z : ℤ). z ≤ℤ pos largest_side) (sym e) (min-right (hi +ℤ pos m) (pos largest_side)),
    )

pub overflow_cast-result-2 : goal.overflow_cast-result-2
overflow_cast-result-2 c =
    let m = c.margin_of-margin.result in
    let y : c.min.result ≡ int_min (c.args.hi +ℤ pos m) (pos largest_side) = c.min.ensures.value ∙ ap (λ z. int_min z (pos largest_side)) (high-is c.args.hi m c.requires.hi_in c.margin_of-margin.ensures.high) in
    let ends = high-end c.args.hi c.min.result m c.requires.hi_in y in
    fits-twice c.min.result ends.0 ends.1

pub returns : goal.returns
returns c =
    let lo = c.args.lo in
    let hi = c.args.hi in
    let m = c.margin_of-margin.result in
    let x : c.max.result ≡ int_max (lo -ℤ pos m) (pos 0) = c.max.ensures.value ∙ ap (λ z. int_max z (pos 0)) (low-is lo m c.requires.lo_in c.margin_of-margin.ensures.high) in
    let y : c.min.result ≡ int_min (hi +ℤ pos m) (pos largest_side) = c.min.ensures.value ∙ ap (λ z. int_min z (pos largest_side)) (high-is hi m c.requires.hi_in c.margin_of-margin.ensures.high) in
    let xs = low-end lo c.max.result m c.requires.lo_in x in
    let ys = high-end hi c.min.result m c.requires.hi_in y in
    let enough : ((hi -ℤ lo) *ℤ pos c.args.wide) ≤ℤ ((pos m -ℤ pos 2) *ℤ pos c.args.area) =
    subst (λ (z : ℤ). (z *ℤ pos c.args.wide) ≤ℤ ((pos m -ℤ pos 2) *ℤ pos c.args.area)) (λ i. to_z-of_z c.ranges.hi i -ℤ to_z-of_z c.ranges.lo i) c.margin_of-margin.ensures.enough in
    spread-is lo hi m c.args.wide c.args.area _ _ c.margin_of-margin.ensures.low enough (twice-kept c.max.result xs.0 xs.1 ∙ x) (twice-kept c.min.result ys.0 ys.1 ∙ y)
