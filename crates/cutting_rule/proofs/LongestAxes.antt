-- The longest axis of a vector.
use Rattle.std.proofs.Common.{◌≡◌, ℕ, ◌≤◌, Bool, true, false, ◌&&◌, nat_le, if◌then◌else◌, [], ◌∷◌, ℤ, pos, negsuc, ◌-ℤ◌, ◌≤ℤ◌, ◌<ℤ◌, inl, inr, refl, sym, ◌∙◌, subst, arith, le_trans}
use Rattle.std.proofs.lemmas.Bool.{true≢false, leb-true, le-leb, cases_lt}
use Rattle.std.proofs.lemmas.Int.{ints}
use lib.IntN.{nat_abs}
use Rattle.int_algebra.proofs.Laws.{linear}
use Rattle.int_algebra.proofs.Ring.{constant, variable, ◌⊕◌, ◌⊗◌, ring}
use Rattle.grid.specs.Boxes.{Axis, along_x, along_y, along_z}
use Rattle.grid.specs.Vectors.{Vector, dot}
use Rattle.grid.specs.Planes.{unit_of, largest_axis}
use Rattle.cutting_rule.proofs.Weights.{turned_z}
use Rattle.cutting_rule.specs.Spread.{IsLengthAtMost}

-- ---- the longest axis
abbrev pub IsSmall : ℤ → Type 0
IsSmall z = ((pos 0 -ℤ pos 1) ≤ℤ z) × (z ≤ℤ pos 1)

small_one : IsSmall (pos 1)
small_one = (omega (arith, linear), omega (arith, linear))

small_zero : IsSmall (pos 0)
small_zero = (omega (arith, linear), omega (arith, linear))

pub unit_small : (axis : Axis) → IsSmall (unit_of axis).x × IsSmall (unit_of axis).y × IsSmall (unit_of axis).z
unit_small along_x = (small_one, small_zero, small_zero)
unit_small along_y = (small_zero, small_one, small_zero)
unit_small along_z = (small_zero, small_zero, small_one)

pub turned_small : (s : Bool) (z : ℤ) → IsSmall z → IsSmall (turned_z s z)
turned_small true z h = h
turned_small false z h = (omega (arith, linear, h.1), omega (arith, linear, h.0))

module _ (m : Vector) where
  along_x-is : dot m (unit_of along_x) ≡ m.x
  unfolding dot
  along_x-is = ring (m.x ∷ m.y ∷ m.z ∷ []) (variable 0 ⊗ constant (pos 1) ⊕ variable 1 ⊗ constant (pos 0) ⊕ variable 2 ⊗ constant (pos 0)) (variable 0) refl

  along_y-is : dot m (unit_of along_y) ≡ m.y
  unfolding dot
  along_y-is = ring (m.x ∷ m.y ∷ m.z ∷ []) (variable 0 ⊗ constant (pos 0) ⊕ variable 1 ⊗ constant (pos 1) ⊕ variable 2 ⊗ constant (pos 0)) (variable 1) refl

  along_z-is : dot m (unit_of along_z) ≡ m.z
  unfolding dot
  along_z-is = ring (m.x ∷ m.y ∷ m.z ∷ []) (variable 0 ⊗ constant (pos 0) ⊕ variable 1 ⊗ constant (pos 0) ⊕ variable 2 ⊗ constant (pos 1)) (variable 2) refl

at_least : (a b : ℕ) → nat_le a b ≡ false → b ≤ a
at_least a b e = elim (cases_lt b a) [
  | inl l ↦ omega (arith, l)
  | inr l ↦ absurd (true≢false (sym (le-leb a b l) ∙ e))
]

pub largest-IsAtMost : (m : Vector) → IsLengthAtMost m (nat_abs (dot m (unit_of (largest_axis m))))
largest-IsAtMost m = by_tests (nat_le (nat_abs m.y) (nat_abs m.x)) (nat_le (nat_abs m.z) (nat_abs m.x)) (nat_le (nat_abs m.z) (nat_abs m.y)) refl refl refl
  where
    x_is : (k : ℕ) → nat_abs m.x ≡ k → nat_abs m.y ≤ k → nat_abs m.z ≤ k → IsLengthAtMost m k
    x_is k e p q = record { x_in = omega (arith, e); y_in = p; z_in = q }

    y_is : (k : ℕ) → nat_abs m.y ≡ k → nat_abs m.x ≤ k → nat_abs m.z ≤ k → IsLengthAtMost m k
    y_is k e p q = record { x_in = p; y_in = omega (arith, e); z_in = q }

    z_is : (k : ℕ) → nat_abs m.z ≡ k → nat_abs m.x ≤ k → nat_abs m.y ≤ k → IsLengthAtMost m k
    z_is k e p q = record { x_in = p; y_in = q; z_in = omega (arith, e) }

    at_x : nat_abs m.y ≤ nat_abs m.x → nat_abs m.z ≤ nat_abs m.x → IsLengthAtMost m (nat_abs (dot m (unit_of along_x)))
    at_x p q = subst (λ (z : ℤ). IsLengthAtMost m (nat_abs z)) (sym (along_x-is m)) (x_is (nat_abs m.x) refl p q)

    at_y : nat_abs m.x ≤ nat_abs m.y → nat_abs m.z ≤ nat_abs m.y → IsLengthAtMost m (nat_abs (dot m (unit_of along_y)))
    at_y p q = subst (λ (z : ℤ). IsLengthAtMost m (nat_abs z)) (sym (along_y-is m)) (y_is (nat_abs m.y) refl p q)

    at_z : nat_abs m.x ≤ nat_abs m.z → nat_abs m.y ≤ nat_abs m.z → IsLengthAtMost m (nat_abs (dot m (unit_of along_z)))
    at_z p q = subst (λ (z : ℤ). IsLengthAtMost m (nat_abs z)) (sym (along_z-is m)) (z_is (nat_abs m.z) refl p q)

    by_tests : (b c d : Bool) → nat_le (nat_abs m.y) (nat_abs m.x) ≡ b → nat_le (nat_abs m.z) (nat_abs m.x) ≡ c → nat_le (nat_abs m.z) (nat_abs m.y) ≡ d
        → IsLengthAtMost m (nat_abs (dot m (unit_of (if b && c then along_x else (if d then along_y else along_z)))))
    by_tests true true d p q r = at_x (leb-true _ _ p) (leb-true _ _ q)
    by_tests true false true p q r = at_y (le_trans (at_least _ _ q) (leb-true _ _ r)) (leb-true _ _ r)
    by_tests true false false p q r = at_z (at_least _ _ q) (at_least _ _ r)
    by_tests false c true p q r = at_y (at_least _ _ p) (leb-true _ _ r)
    by_tests false c false p q r = at_z (le_trans (at_least _ _ p) (at_least _ _ r)) (at_least _ _ r)

pub abs_turned : (s : Bool) (d a : ℤ) → a ≡ turned_z s (pos 0 -ℤ d) → pos 0 <ℤ a → pos (nat_abs d) ≡ a
abs_turned true (pos k) a e h = absurd (omega (arith, ints, e, h))
abs_turned true (negsuc k) a e h = omega (arith, ints, e, h)
abs_turned false (pos k) a e h = omega (arith, ints, e, h)
abs_turned false (negsuc k) a e h = absurd (omega (arith, ints, e, h))

pub abs_in : (z : ℤ) (k : ℕ) → nat_abs z ≤ k → ((pos 0 -ℤ pos k) ≤ℤ z) × (z ≤ℤ pos k)
abs_in (pos n) k h = (omega (arith, ints, h), omega (arith, ints, h))
abs_in (negsuc n) k h = (omega (arith, ints, h), omega (arith, ints, h))
