-- The numbers that the limits allow.
use Rattle.std.proofs.Common.{◌≡◌, ℕ, ◌-◌, ◌*◌, ◌/◌, ◌^◌, ◌<◌, ◌≤◌, ◌≤ℤ◌, ℤ, pos, nat_abs, ap, sym, ◌∙◌, subst, arith, lit≤, inl, inr}
use Rattle.std.proofs.lemmas.Bool.{cases_lt}
use Rattle.std.proofs.lemmas.Nat.{pow_pos, pow_below, le-div}
use Rattle.std.proofs.Common.{pow-add}
use Rattle.int_algebra.proofs.Laws.{linear}
use native.Mathlib.Nat.{pow-le-pow_right, mul-div_cancel_left, div-le_self}
use Rattle.grid.specs.Limits.{IsCells, IsSide, largest_side}

pub cells_most : (n : ℕ) → IsCells n → n ≤ 32
cells_most n c = let most : 2 ^ c.power ≤ 2 ^ 5 = pow-le-pow_right (lit≤ tt) c.power_most in omega (arith, c.is, most)

pub cells_positive : (n : ℕ) → IsCells n → 0 < n
cells_positive n c = omega (arith, c.is, pow_pos c.power)

pub side_nat : (side : ℤ) (s : IsSide side) → nat_abs side ≡ 2 ^ s.power
side_nat side s = ap nat_abs s.is

pub side_most : (side : ℤ) → IsSide side → nat_abs side ≤ largest_side
side_most side s = let most : 2 ^ s.power ≤ largest_side = pow-le-pow_right (lit≤ tt) s.power_most in omega (arith, side_nat side s, most)

pub side_room : (side : ℤ) (n : ℕ) → IsSide side → pos (4 * n) ≤ℤ side → 4 * n ≤ nat_abs side
side_room side n s h = let e = s.is in let f = side_nat side s in omega (arith, linear, subst (λ z. pos (4 * n) ≤ℤ z) e h, f)

-- the cells divide the side
pub side_split : (side : ℤ) (n : ℕ) → IsSide side → IsCells n → pos (4 * n) ≤ℤ side → n * (nat_abs side / n) ≡ nat_abs side
side_split side n s c h =
    let e = side_nat side s in
    let l : c.power ≤ s.power = power_order c.power s.power (omega (arith, side_room side n s h, e, c.is, pow_pos c.power)) in
    let f : 2 ^ s.power ≡ n * 2 ^ (s.power - c.power) = subst (λ m. 2 ^ m ≡ n * 2 ^ (s.power - c.power)) (omega arith) (pow-add 2 c.power (s.power - c.power) ∙ ap (λ m. m * 2 ^ (s.power - c.power)) (sym c.is)) in
    let g = e ∙ f in
    subst (λ m. n * (m / n) ≡ m) (sym g) (ap (λ m. n * m) (mul-div_cancel_left (2 ^ (s.power - c.power)) (cells_positive n c)))
  where
    power_order : (p q : ℕ) → 2 ^ p ≤ 2 ^ q → p ≤ q
    power_order p q h = elim (cases_lt q p) [ inl l ↦ absurd (omega (arith, pow_below q p l)) | inr l ↦ l ]

pub step_positive : (side : ℤ) (n : ℕ) → IsSide side → IsCells n → pos (4 * n) ≤ℤ side → 0 < nat_abs side / n
step_positive side n s c h = omega (arith, le-div 4 (nat_abs side) n (cells_positive n c) (side_room side n s h))

pub step_most : (side : ℤ) (n : ℕ) → IsSide side → nat_abs side / n ≤ largest_side
step_most side n s = omega (arith, div-le_self (nat_abs side) n, side_most side s)
