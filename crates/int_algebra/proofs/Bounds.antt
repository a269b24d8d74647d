-- Bounds of polynomials by computation: `within` bounds the absolute value of an expression from bounds of its variables, and `fits_within` proves from it that the value fits a signed type.
use Rattle.std.proofs.Common.{ℕ, ◌*◌, ◌+◌, ◌^◌, ◌≤◌, ◌<◌, suc, zero, List, [], ◌∷◌, ℤ, pos, ◌+ℤ◌, ◌-ℤ◌, ◌*ℤ◌, neg_ℤ, ◌≤ℤ◌, arith, mul-le-mul, SFits, to_z, le_trans}
use Rattle.std.proofs.lemmas.Int.{ints, unsigned_abs-mul, fits_signed_from_abs}
use lib.IntN.{nat_abs}
use Rattle.std.proofs.Common.{of_z, to_z-of_z, subst, sym}
use mir.Syntax.{Width}
use mir.Val.{hbits}
use Rattle.int_algebra.specs.Within.{IsWithin}
use Rattle.int_algebra.proofs.Ring.{Expression, constant, variable, ◌⊕◌, ◌⊖◌, ◌⊗◌, minus, value}
use Rattle.int_algebra.proofs.Polynomials.{value_at}

abbrev pub bound_at : List ℕ → ℕ → ℕ
bound_at [] i = 0
bound_at (n ∷ ns) zero = n
bound_at (n ∷ ns) (suc i) = bound_at ns i

abbrev pub bound_of : List ℕ → Expression → ℕ
bound_of ns (constant k) = nat_abs k
bound_of ns (variable i) = bound_at ns i
bound_of ns (a ⊕ b) = bound_of ns a + bound_of ns b
bound_of ns (a ⊖ b) = bound_of ns a + bound_of ns b
bound_of ns (a ⊗ b) = bound_of ns a * bound_of ns b
bound_of ns (minus a) = bound_of ns a

-- each value is within its bound: nested pairs, ended by `tt`
abbrev pub AreWithin : List ℕ → List ℤ → Type 0
AreWithin [] [] = Unit {0}
AreWithin [] (x ∷ xs) = ⊥
AreWithin (n ∷ ns) [] = ⊥
AreWithin (n ∷ ns) (x ∷ xs) = IsWithin n x × AreWithin ns xs

value_at-IsWithin : (ns : List ℕ) (xs : List ℤ) (i : ℕ) → AreWithin ns xs → IsWithin (bound_at ns i) (value_at xs i)
value_at-IsWithin [] [] i h = record { within = omega arith }
value_at-IsWithin [] (x ∷ xs) i h = absurd h
value_at-IsWithin (n ∷ ns) [] i h = absurd h
value_at-IsWithin (n ∷ ns) (x ∷ xs) zero h = h.0
value_at-IsWithin (n ∷ ns) (x ∷ xs) (suc i) h = value_at-IsWithin ns xs i h.1

pub sum-IsWithin : {m n : ℕ} {a b : ℤ} → IsWithin m a → IsWithin n b → IsWithin (m + n) (a +ℤ b)
sum-IsWithin h k = record { within = omega (arith, ints) }

pub difference-IsWithin : {m n : ℕ} {a b : ℤ} → IsWithin m a → IsWithin n b → IsWithin (m + n) (a -ℤ b)
difference-IsWithin h k = record { within = omega (arith, ints) }

pub neg-IsWithin : {n : ℕ} {a : ℤ} → IsWithin n a → IsWithin n (neg_ℤ a)
neg-IsWithin h = record { within = omega (arith, ints) }

pub product-IsWithin : {m n : ℕ} {a b : ℤ} → IsWithin m a → IsWithin n b → IsWithin (m * n) (a *ℤ b)
product-IsWithin {a} {b} h k = record { within = rw (unsigned_abs-mul a b) (mul-le-mul h.within k.within) }

pub within : (ns : List ℕ) (xs : List ℤ) → AreWithin ns xs → (e : Expression) → IsWithin (bound_of ns e) (value xs e)
within ns xs h (constant k) = record { within = omega arith }
within ns xs h (variable i) = value_at-IsWithin ns xs i h
within ns xs h (a ⊕ b) = sum-IsWithin (within ns xs h a) (within ns xs h b)
within ns xs h (a ⊖ b) = difference-IsWithin (within ns xs h a) (within ns xs h b)
within ns xs h (a ⊗ b) = product-IsWithin (within ns xs h a) (within ns xs h b)
within ns xs h (minus a) = neg-IsWithin (within ns xs h a)

pub fits_within : (w : Width) {n : ℕ} {z : ℤ} → IsWithin n z → n < 2 ^ hbits w → SFits w z
fits_within w {z} h lt = fits_signed_from_abs w z (omega (arith, h.within))

pub within_interval : (n : ℕ) (z : ℤ) → neg_ℤ (pos n) ≤ℤ z → z ≤ℤ pos n → IsWithin n z
within_interval n z low high = record { within = omega (arith, ints) }

pub within_natural : (n : ℕ) (z : ℤ) → pos 0 ≤ℤ z → z ≤ℤ pos n → IsWithin n z
within_natural n z low high = record { within = omega (arith, ints) }

-- an unsigned number that was cast to a signed type with room for it
pub within_cast : (w : Width) (n m : ℕ) → m ≤ n → m < 2 ^ hbits w → IsWithin n (to_z w m)
within_cast w n m le lt = record { within = omega (arith, ints) }

-- a larger bound
pub wider-IsWithin : {m : ℕ} (n : ℕ) {z : ℤ} → IsWithin m z → m ≤ n → IsWithin n z
wider-IsWithin n h le = record { within = le_trans h.within le }

-- the bound of a value that was kept at a width
pub kept-IsWithin : (w : Width) {n : ℕ} {z : ℤ} → IsWithin n z → n < 2 ^ hbits w → IsWithin n (to_z w (of_z w z))
kept-IsWithin w h lt = subst (IsWithin _) (sym (to_z-of_z (fits_within w h lt))) h
