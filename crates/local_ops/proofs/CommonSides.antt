-- The sides that two points share, by bits.
use Rattle.std.proofs.Common.{◌≡◌, ◌↔◌, ℕ, zero, suc, ◌*◌, ◌<◌, ◌^◌, IsBitSet, IsTrue, pos, nat_eq, bit_and, eq-eqb, refl, sym, ◌∙◌, ap, subst, arith}
use Rattle.std.specs.Prelude.{min}
use Rattle.std.specs.Int.{bit_at}
use Rattle.std.proofs.lemmas.Bool.{eqb-true}
use Rattle.std.proofs.lemmas.Nat.{and_le_l, pow_pos}
use Rattle.std.proofs.lemmas.Nat.Bits.{and_pow, bit_at_and, bit_at-lt, bit_at-zero, same_from_bits_below}
use Rattle.grid.specs.declared.shapes.Point.{Point}
use Rattle.grid.specs.Boxes.{Side, IsOn}
use Rattle.grid.specs.SideBits.{bit_of, side_bits}
use Rattle.grid.proofs.ForCallers.{bit-below, side_at, side_bits-IsOn}

-- ---- bits
set-one : (n k : ℕ) → IsBitSet n k ↔ (bit_at n k ≡ 1)
set-one n k =
    let is = and_pow n k in
    let some : 0 < 2 ^ k = pow_pos k in
    let few = bit_at-lt n k in
    (λ h. one (bit_at n k) few (λ e. h (is ∙ ap (λ b. b * 2 ^ k) e ∙ none (2 ^ k))), λ e z. absurd (full (2 ^ k) some (sym (is ∙ ap (λ b. b * 2 ^ k) e) ∙ z)))
  where
    one : (b : ℕ) → b < 2 → ¬ (b ≡ 0) → b ≡ 1
    one zero l h = absurd (h refl)
    one (suc zero) l h = refl
    one (suc (suc b)) l h = absurd (omega arith)

    none : (n : ℕ) → 0 * n ≡ 0
    none n = omega arith

    full : (n : ℕ) → 0 < n → 1 * n ≡ 0 → ⊥
    full n l e = omega arith

within : (a b : ℕ) → a < 64 → (bit_and a b ≡ a) ↔ ((k : ℕ) → k < 6 → bit_at a k ≡ 1 → bit_at b k ≡ 1)
within a b l = (
  λ e k lt h. let m = bit_at_and a b k in let f = bit_at-lt b k in let g : bit_at (bit_and a b) k ≡ bit_at a k = ap (λ n. bit_at n k) e in grind (arith, m, f, g, h),
  λ h. let le = and_le_l a b in same_from_bits_below 6 (bit_and a b) a (omega arith) l (λ k lt. bit_at_and a b k ∙ least (bit_at a k) (bit_at b k) (bit_at-lt a k) (h k lt)),
)
  where
    least : (x y : ℕ) → x < 2 → (x ≡ 1 → y ≡ 1) → min x y ≡ x
    least zero y l h = omega arith
    least (suc zero) y l h = let e = h refl in omega arith
    least (suc (suc x)) y l h = absurd (omega arith)

disjoint : (a b : ℕ) → a < 64 → (bit_and a b ≡ 0) ↔ ((k : ℕ) → k < 6 → bit_at a k ≡ 1 → bit_at b k ≡ 1 → ⊥)
disjoint a b l = (
  λ e k lt h i. let m = bit_at_and a b k in let g : bit_at (bit_and a b) k ≡ 0 = ap (λ n. bit_at n k) e ∙ bit_at-zero k in both (bit_at a k) (bit_at b k) h i (sym m ∙ g),
  λ h. let le = and_le_l a b in same_from_bits_below 6 (bit_and a b) 0 (omega arith) (omega arith) (λ k lt. bit_at_and a b k ∙ (none (bit_at a k) (bit_at b k) (bit_at-lt a k) (bit_at-lt b k) (h k lt) ∙ sym (bit_at-zero k))),
)
  where
    both : (x y : ℕ) → x ≡ 1 → y ≡ 1 → min x y ≡ 0 → ⊥
    both x y h i e = omega arith

    none : (x y : ℕ) → x < 2 → y < 2 → (x ≡ 1 → y ≡ 1 → ⊥) → min x y ≡ 0
    none zero y l m h = omega arith
    none (suc zero) zero l m h = omega arith
    none (suc zero) (suc zero) l m h = absurd (h refl refl)
    none (suc zero) (suc (suc y)) l m h = absurd (omega arith)
    none (suc (suc x)) y l m h = absurd (omega arith)

-- ---- sides
module _ (l : ℕ) (p q : Point) (few : side_bits (pos l) p < 64) where
  on : (p : Point) (s : Side) → IsOn l s p → bit_at (side_bits (pos l) p) (bit_of s) ≡ 1
  on p s h = (set-one (side_bits (pos l) p) (bit_of s)).0 ((side_bits-IsOn l p s).1 h)

  is_on : (p : Point) (s : Side) → bit_at (side_bits (pos l) p) (bit_of s) ≡ 1 → IsOn l s p
  is_on p s h = (side_bits-IsOn l p s).0 ((set-one (side_bits (pos l) p) (bit_of s)).1 h)

  -- q lies on each side that p lies on
  pub stays : (bit_and (side_bits (pos l) p) (side_bits (pos l) q) ≡ side_bits (pos l) p) ↔ ((s : Side) → IsOn l s p → IsOn l s q)
  stays = (
    λ e s h. is_on q s ((within (side_bits (pos l) p) (side_bits (pos l) q) few).0 e (bit_of s) (bit-below s) (on p s h)),
    λ h. (within (side_bits (pos l) p) (side_bits (pos l) q) few).1 (λ k lt b.
        let s = side_at k lt in
        subst (λ k. bit_at (side_bits (pos l) q) k ≡ 1) s.1 (on q s.0 (h s.0 (is_on p s.0 (subst (λ k. bit_at (side_bits (pos l) p) k ≡ 1) (sym s.1) b))))),
  )

  -- no side has both
  pub apart : (bit_and (side_bits (pos l) p) (side_bits (pos l) q) ≡ 0) ↔ ((s : Side) → IsOn l s p → ¬ IsOn l s q)
  apart = (
    λ e s h i. (disjoint (side_bits (pos l) p) (side_bits (pos l) q) few).0 e (bit_of s) (bit-below s) (on p s h) (on q s i),
    λ h. (disjoint (side_bits (pos l) p) (side_bits (pos l) q) few).1 (λ k lt b d.
        let s = side_at k lt in
        h s.0 (is_on p s.0 (subst (λ k. bit_at (side_bits (pos l) p) k ≡ 1) (sym s.1) b)) (is_on q s.0 (subst (λ k. bit_at (side_bits (pos l) q) k ≡ 1) (sym s.1) d))),
  )

pub stays_test : (l : ℕ) (p q : Point) (a b : ℕ) → a ≡ side_bits (pos l) p → b ≡ side_bits (pos l) q → a < 64 → IsTrue (nat_eq (bit_and a b) a) ↔ ((s : Side) → IsOn l s p → IsOn l s q)
stays_test l p q a b e f few =
    let k = stays l p q (subst (λ n. n < 64) e few) in
    (λ t. k.0 (sym (λ i. bit_and (e i) (f i)) ∙ (eqb-true (bit_and a b) a t ∙ e)), λ h. eq-eqb (bit_and a b) a ((λ i. bit_and (e i) (f i)) ∙ (k.1 h ∙ sym e)))

pub apart_test : (l : ℕ) (p q : Point) (a b : ℕ) → a ≡ side_bits (pos l) p → b ≡ side_bits (pos l) q → a < 64 → IsTrue (nat_eq (bit_and a b) 0) ↔ ((s : Side) → IsOn l s p → ¬ IsOn l s q)
apart_test l p q a b e f few =
    let k = apart l p q (subst (λ n. n < 64) e few) in
    (λ t. k.0 (sym (λ i. bit_and (e i) (f i)) ∙ eqb-true (bit_and a b) 0 t), λ h. eq-eqb (bit_and a b) 0 ((λ i. bit_and (e i) (f i)) ∙ k.1 h))
