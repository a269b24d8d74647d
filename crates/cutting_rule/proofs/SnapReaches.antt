-- How far a point may lie from a plane, by its snapped sign.
use Rattle.std.proofs.Common.{◌≡◌, ℕ, zero, suc, Bool, true, false, not, if◌then◌else◌, [], ◌∷◌, ℤ, pos, negsuc, ◌+ℤ◌, ◌-ℤ◌, ◌*ℤ◌, ◌≤ℤ◌, ◌<ℤ◌, refl, sym, ◌∙◌, subst, arith}
use Rattle.std.specs.Int.{int_signum}
use Rattle.std.specs.Int.Signed.{lt_z}
use Rattle.std.specs.Ordering.{int_eq}
use Rattle.std.proofs.lemmas.Bool.{true≢false}
use Rattle.std.proofs.lemmas.Bool.Decides.{Decides-int_eq}
use Rattle.std.proofs.lemmas.Int.{ints, by_lt_z}
use lib.Signed.{clash_ℤ}
use Rattle.int_algebra.proofs.Laws.{linear}
use Rattle.int_algebra.proofs.Ring.{constant, variable, ◌⊕◌, ◌⊖◌, ◌⊗◌, ring}
use Rattle.int_algebra.proofs.Orders.{below, one_more, less_test, natural, square, given, ◌⊞◌, ◌⊠◌, ◌≼◌}

-- ---- what the snapped signs say of values
signum_zero : (v : ℤ) → int_signum v ≡ pos 0 → v ≡ pos 0
signum_zero (pos zero) e = refl
signum_zero (pos (suc n)) e = absurd (omega (arith, ints, e))
signum_zero (negsuc n) e = absurd (omega (arith, ints, e))

not_less : (a b : ℤ) → lt_z a b ≡ false → b ≤ℤ a
not_less a b e = by_lt_z a b (λ l. absurd (true≢false (sym ((less_test a b).1 l) ∙ e))) (λ l. l)

-- a sign of 0
pub on_reach : (r v : ℤ) → pos 0 ≤ℤ r → int_eq (if lt_z r (v *ℤ v) then int_signum v else pos 0) (pos 0) ≡ true → (v *ℤ v) ≤ℤ r
on_reach r v h = by_test (lt_z r (v *ℤ v)) refl
  where
    by_test : (b : Bool) → lt_z r (v *ℤ v) ≡ b → int_eq (if b then int_signum v else pos 0) (pos 0) ≡ true → (v *ℤ v) ≤ℤ r
    by_test true e s =
        let none : v ≡ pos 0 = signum_zero v ((Decides-int_eq (int_signum v) (pos 0)).0 s) in
        subst (λ (z : ℤ). (z *ℤ z) ≤ℤ r) (sym none) h
    by_test false e s = not_less r (v *ℤ v) e

-- a sign that is not below 0
pub above_reach : (r w v : ℤ) → pos 0 ≤ℤ w → r ≤ℤ (w *ℤ w) → not (lt_z (if lt_z r (v *ℤ v) then int_signum v else pos 0) (pos 0)) ≡ true → (pos 0 -ℤ w) ≤ℤ v
above_reach r w v h k s = by_lt_z v (pos 0 -ℤ w) (λ l. absurd (far l)) (λ l. l)
  where
    sign : (v : ℤ) → v <ℤ pos 0 → not (lt_z (int_signum v) (pos 0)) ≡ true → ⊥
    sign (pos n) l e = omega (arith, ints, l)
    sign (negsuc n) l e = true≢false (sym e)

    far : v <ℤ (pos 0 -ℤ w) → ⊥
    far l =
        let x = variable 0 in
        let y = variable 1 in
        let o = constant (pos 0) in
        let one = constant (pos 1) in
        let past : (w *ℤ w) <ℤ (v *ℤ v) =
        below (v ∷ w ∷ []) ((x ⊕ one ≼ o ⊖ y) ∷ (o ≼ y) ∷ []) (y ⊗ y) (x ⊗ x) (given 0 ⊠ given 0 ⊞ natural 2 ⊠ given 0 ⊞ natural 2 ⊠ (given 0 ⊞ natural 1) ⊠ given 1) refl (one_more v _ l, (h, tt)) in
        let more : r <ℤ (v *ℤ v) = omega (arith, linear, k, past) in
        let test : lt_z r (v *ℤ v) ≡ true = (less_test r (v *ℤ v)).1 more in
        let negative : v <ℤ pos 0 = omega (arith, linear, l, h) in
        sign v negative (subst (λ (b : Bool). not (lt_z (if b then int_signum v else pos 0) (pos 0)) ≡ true) test s)

-- ---- how far from the plane
-- a vector within a of 0 at each component, and a number whose square is at most its length's
module _ (x y z a g : ℤ) (x_in : ((pos 0 -ℤ a) ≤ℤ x) × (x ≤ℤ a)) (y_in : ((pos 0 -ℤ a) ≤ℤ y) × (y ≤ℤ a)) (z_in : ((pos 0 -ℤ a) ≤ℤ z) × (z ≤ℤ a)) (some : pos 0 ≤ℤ a) (h : (g *ℤ g) ≤ℤ (x *ℤ x +ℤ y *ℤ y +ℤ z *ℤ z)) where
  not_past : (k : ℤ) → k *ℤ k ≡ g *ℤ g → k ≤ℤ (pos 2 *ℤ a)
  not_past k e = by_lt_z (pos 2 *ℤ a) k (λ l. absurd (clash_ℤ (past l) (subst (λ (q : ℤ). q ≤ℤ (x *ℤ x +ℤ y *ℤ y +ℤ z *ℤ z)) (sym e) h))) (λ l. l)
    where
      past : (pos 2 *ℤ a) <ℤ k → (x *ℤ x +ℤ y *ℤ y +ℤ z *ℤ z) <ℤ (k *ℤ k)
      past l =
          let v = λ (i : ℕ). variable i in
          let o = constant (pos 0) in
          let two = constant (pos 2) in
          let one = constant (pos 1) in
          below (x ∷ y ∷ z ∷ a ∷ k ∷ [])
          ((o ⊖ v 3 ≼ v 0) ∷ (v 0 ≼ v 3) ∷ (o ⊖ v 3 ≼ v 1) ∷ (v 1 ≼ v 3) ∷ (o ⊖ v 3 ≼ v 2) ∷ (v 2 ≼ v 3) ∷ (o ≼ v 3) ∷ (two ⊗ v 3 ⊕ one ≼ v 4) ∷ [])
          (v 0 ⊗ v 0 ⊕ v 1 ⊗ v 1 ⊕ v 2 ⊗ v 2) (v 4 ⊗ v 4)
          (square (v 3) ⊞ natural 4 ⊠ given 6 ⊞ given 0 ⊠ given 1 ⊞ given 2 ⊠ given 3 ⊞ given 4 ⊠ given 5 ⊞ natural 2 ⊠ given 7 ⊠ (natural 2 ⊠ given 6 ⊞ natural 1) ⊞ given 7 ⊠ given 7) refl
          (x_in.0, (x_in.1, (y_in.0, (y_in.1, (z_in.0, (z_in.1, (some, (one_more _ _ l, tt))))))))

  pub height_low : (pos 0 -ℤ pos 2 *ℤ a) ≤ℤ g
  height_low =
      let k = pos 0 -ℤ g in
      let at : k ≤ℤ (pos 2 *ℤ a) = not_past k (ring (g ∷ []) ((constant (pos 0) ⊖ variable 0) ⊗ (constant (pos 0) ⊖ variable 0)) (variable 0 ⊗ variable 0) refl) in
      omega (arith, linear, at)

  pub height_high : g ≤ℤ (pos 2 *ℤ a)
  height_high = not_past g refl
