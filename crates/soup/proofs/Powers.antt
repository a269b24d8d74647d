-- The least power of two that is at least a number.
use Rattle.std.proofs.Common.{◌≡◌, ℕ, ◌+◌, ◌*◌, ◌/◌, ◌^◌, ◌<◌, ◌≤◌, zero, suc, max, sym, ap, ◌∙◌, subst, arith, cond, inl, inr, lit≤}
use Rattle.std.proofs.Math.Nat.{pow-le-pow_right, pow-suc}
use Rattle.std.proofs.lemmas.Bool.{cases_lt, le-leb, lt-leb}
use Rattle.std.proofs.lemmas.Nat.{pow_below}
use Rattle.grid.specs.Limits.{largest_side}
use Rattle.soup.specs.Placement.{power_from}

-- the least exponent from k to k + more whose power is at least n
pub record IsLeastPower (more k n j : ℕ) : Type 0 where
  pub low : k ≤ j
  pub high : j ≤ k + more
  pub enough : n ≤ 2 ^ j
  pub none : (i : ℕ) → k ≤ i → i < j → 2 ^ i < n

double_power : (i j : ℕ) → i < j → 2 * 2 ^ i ≤ 2 ^ j
double_power i j lt = let h : 2 ^ suc i ≤ 2 ^ j = pow-le-pow_right (lit≤ tt) (omega arith) in omega (arith, h, pow-suc 2 i)

pub power_from_is : (more k n j : ℕ) → IsLeastPower more k n j → power_from more k n ≡ 2 ^ j
unfolding power_from
power_from_is zero k n j h = ap (λ i. 2 ^ i) (omega (arith, h.low, h.high))
power_from_is (suc more) k n j h = elim (cases_lt k j) [
  | inl lt ↦ ap (λ b. cond b (2 ^ k) (power_from more (k + 1) n)) (lt-leb _ _ (h.none k (omega arith) lt))
      ∙ power_from_is more (k + 1) n j (record { low = omega arith; high = omega (arith, h.high); enough = h.enough; none = λ i le l. h.none i (omega arith) l })
  | inr le ↦
      let same : k ≡ j = omega (arith, h.low) in
      ap (λ b. cond b (2 ^ k) (power_from more (k + 1) n)) (le-leb _ _ (subst (λ i. n ≤ 2 ^ i) (sym same) h.enough)) ∙ ap (λ i. 2 ^ i) same
]

pub least_power : (more k n : ℕ) → n ≤ 2 ^ (k + more) → (j : ℕ) × IsLeastPower more k n j
least_power zero k n le = (k, record { low = omega arith; high = omega arith; enough = subst (λ i. n ≤ 2 ^ i) (omega arith) le; none = λ i h l. absurd (omega arith) })
least_power (suc more) k n le = elim (cases_lt (2 ^ k) n) [
  | inl lt ↦
      let later = least_power more (k + 1) n (subst (λ i. n ≤ 2 ^ i) (omega arith) le) in (
        later.0,
        record {
          low = omega (arith, later.1.low);
          high = omega (arith, later.1.high);
          enough = later.1.enough;
          none = λ i h l. elim (cases_lt k i) [ inl above ↦ later.1.none i (omega arith) l | inr at ↦ subst (λ (m : ℕ). 2 ^ m < n) (omega arith) lt ];
        },
      )
  | inr enough ↦ (k, record { low = omega arith; high = omega arith; enough = enough; none = λ i h l. absurd (omega arith) })
]

-- no lower power is enough
pub least_of_powers : (more k n j i : ℕ) → IsLeastPower more k n j → k ≤ i → n ≤ 2 ^ i → 2 ^ j ≤ 2 ^ i
least_of_powers more k n j i h low enough = elim (cases_lt i j) [
  | inl lt ↦ let less : 2 ^ i < n = h.none i low lt in absurd (omega arith)
  | inr le ↦ pow-le-pow_right (lit≤ tt) le
]

-- what the next power of two of the greater of n and 16 is
pub next_power : (n r j : ℕ) → r ≡ 2 ^ j → max n 16 ≤ r → r / 2 < max 1 (max n 16) → n ≤ largest_side → IsLeastPower 14 4 n j
next_power n r j is low_r high_r few = record {
  low = elim (cases_lt j 4) [ inl lt ↦ let less : 2 ^ j < 16 = pow_below j 4 lt in absurd (omega arith) | inr le ↦ le ];
  high = elim (cases_lt 18 j) [ inl lt ↦ let twice : 2 * largest_side ≤ 2 ^ j = double_power 18 j lt in absurd (omega arith) | inr le ↦ le ];
  enough = omega arith;
  none = λ i le lt.
      let twice : 2 * 2 ^ i ≤ 2 ^ j = double_power i j lt in
      let least : 16 ≤ 2 ^ i = pow-le-pow_right (lit≤ tt) le in
      omega arith;
}
