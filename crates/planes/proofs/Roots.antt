-- Square roots of natural numbers, rounded down.
use Rattle.std.proofs.Common.{◌≡◌, ℕ, zero, suc, ◌+◌, ◌*◌, ◌<◌, ◌≤◌, Bool, true, false, nat_le, nat_lt, if◌then◌else◌, ℤ, pos, negsuc, ◌*ℤ◌, refl, sym, ◌∙◌, arith, inl, inr, mul-le-mul}
use Rattle.std.specs.Int.Signed.{lt_z}
use Rattle.std.proofs.lemmas.Bool.{cases_lt, cases_order, le-ltb, leb-false, leb-true, lt-ltb}
use lib.IntN.{nat_abs}
use Rattle.planes.specs.Roots.{root}

record IsRoot (n r : ℕ) : Type 0 where
  square_le : r * r ≤ n
  next_above : n < (r + 1) * (r + 1)

-- the square of a greater number is beyond n
beyond : (n r s : ℕ) → IsRoot n r → r < s → n < s * s
beyond n r s h lt =
    let le : (r + 1) * (r + 1) ≤ s * s = mul-le-mul (omega (arith, lt)) (omega (arith, lt)) in
    omega (arith, le, h.next_above)

root-unique : (n r s : ℕ) → IsRoot n r → IsRoot n s → r ≡ s
root-unique n r s h k = elim (cases_order r s) [
  | inl e ↦ e
  | inr p ↦ elim p [
    | inl lt ↦ absurd (omega (arith, beyond n r s h lt, k.square_le))
    | inr lt ↦ absurd (omega (arith, beyond n s r k lt, h.square_le))
  ]
]

root-IsRoot : (n : ℕ) → IsRoot n (root n)
unfolding root
root-IsRoot zero = record { square_le = omega arith; next_above = omega arith }
root-IsRoot (suc n) = by_test (root n) (nat_le ((root n + 1) * (root n + 1)) (suc n)) refl (root-IsRoot n)
  where
    by_test : (r : ℕ) (b : Bool) → nat_le ((r + 1) * (r + 1)) (suc n) ≡ b → IsRoot n r → IsRoot (suc n) (if b then r + 1 else r)
    by_test r true e h = let le = leb-true _ _ e in record { square_le = le; next_above = omega (arith, h.next_above) }
    by_test r false e h = let lt = leb-false _ _ e in record { square_le = omega (arith, h.square_le); next_above = lt }

pub root-is : (n r : ℕ) → r * r ≤ n → n < (r + 1) * (r + 1) → r ≡ root n
root-is n r h k = root-unique n r (root n) (record { square_le = h; next_above = k }) (root-IsRoot n)

-- ---- squares beyond a number
naturals : (n r v : ℕ) → IsRoot n r → nat_lt n (v * v) ≡ nat_lt r v
naturals n r v h = elim (cases_lt r v) [
  | inl lt ↦ lt-ltb n (v * v) (beyond n r v h lt) ∙ sym (lt-ltb r v lt)
  | inr le ↦
      let squares : v * v ≤ r * r = mul-le-mul le le in
      le-ltb n (v * v) (omega (arith, squares, h.square_le)) ∙ sym (le-ltb r v le)
]

-- the square of v is above n just where v is farther from 0 than the root of n
pub squares-beyond : (n : ℕ) (v : ℤ) → lt_z (pos n) (v *ℤ v) ≡ nat_lt (root n) (nat_abs v)
squares-beyond n (pos v) = naturals n (root n) v (root-IsRoot n)
squares-beyond n (negsuc v) = naturals n (root n) (suc v) (root-IsRoot n)
