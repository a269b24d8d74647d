-- Bounds of sums and products of vectors, and of lengths.
use Rattle.std.proofs.Common.{ℕ, ◌+◌, ◌*◌, ◌≤◌, [], ◌∷◌, ℤ, pos, ◌-ℤ◌, ◌*ℤ◌, ◌≤ℤ◌, arith, refl}
use Rattle.std.proofs.lemmas.Int.{ints}
use Rattle.int_algebra.specs.Within.{IsWithin}
use Rattle.int_algebra.proofs.Ring.{constant, variable, ◌⊗◌}
use Rattle.int_algebra.proofs.Orders.{natural-NonNegative, at_most, ◌≼◌, given, ◌⊞◌, ◌⊠◌}
use Rattle.int_algebra.proofs.Bounds.{AreWithin, sum-IsWithin, product-IsWithin, difference-IsWithin, wider-IsWithin, within_natural}
use Rattle.grid.specs.declared.shapes.Point.{Point}
use Rattle.grid.specs.Boxes.{IsUpTo, IsInBox}
use Rattle.grid.specs.Vectors.{Vector, dot, cross}
use Rattle.grid.proofs.ForCallers.{coordinates_then, length_, squares_, x_, zero_}
use Rattle.vectors.specs.Bounded.{IsVectorWithin, gap_of}

-- the components of two vectors, one after the other
pub two_within : {j k : ℕ} {m n : Vector} → IsVectorWithin j m → IsVectorWithin k n → AreWithin (j ∷ j ∷ j ∷ k ∷ k ∷ k ∷ []) (coordinates_then (m ∷ n ∷ []) [])
two_within h i = (h.x_in, (h.y_in, (h.z_in, (i.x_in, (i.y_in, (i.z_in, tt))))))

-- and those of two points
pub points_within : {j k : ℕ} {p q : Point} → IsInBox j p → IsInBox k q → AreWithin (j ∷ j ∷ j ∷ k ∷ k ∷ k ∷ []) (p.x ∷ p.y ∷ p.z ∷ q.x ∷ q.y ∷ q.z ∷ [])
points_within {p} {q} h i =
    (within_natural _ p.x h.x_in.low h.x_in.high, (within_natural _ p.y h.y_in.low h.y_in.high, (within_natural _ p.z h.z_in.low h.z_in.high, (within_natural _ q.x i.x_in.low i.x_in.high, (within_natural _ q.y i.y_in.low i.y_in.high, (within_natural _ q.z i.z_in.low i.z_in.high, tt))))))

pub wider-IsVectorWithin : {k : ℕ} (n : ℕ) {m : Vector} → IsVectorWithin k m → k ≤ n → IsVectorWithin n m
wider-IsVectorWithin n h le =
    record { x_in = wider-IsWithin n h.x_in le; y_in = wider-IsWithin n h.y_in le; z_in = wider-IsWithin n h.z_in le }

pub dot-IsWithin : {j k : ℕ} (l : ℕ) {m n : Vector} → IsVectorWithin j m → IsVectorWithin k n → j * k + j * k + j * k ≤ l → IsWithin l (dot m n)
unfolding dot
dot-IsWithin l h i le =
    wider-IsWithin l (sum-IsWithin (sum-IsWithin (product-IsWithin h.x_in i.x_in) (product-IsWithin h.y_in i.y_in)) (product-IsWithin h.z_in i.z_in)) le

pub cross-IsVectorWithin : {j k : ℕ} (l : ℕ) {m n : Vector} → IsVectorWithin j m → IsVectorWithin k n → j * k + j * k ≤ l → IsVectorWithin l (cross m n)
cross-IsVectorWithin l h i le = record {
  x_in = wider-IsWithin l (difference-IsWithin (product-IsWithin h.y_in i.z_in) (product-IsWithin h.z_in i.y_in)) le;
  y_in = wider-IsWithin l (difference-IsWithin (product-IsWithin h.z_in i.x_in) (product-IsWithin h.x_in i.z_in)) le;
  z_in = wider-IsWithin l (difference-IsWithin (product-IsWithin h.x_in i.y_in) (product-IsWithin h.y_in i.x_in)) le;
}

pub length-NonNegative : (m : Vector) → pos 0 ≤ℤ dot m m
unfolding dot
length-NonNegative m = at_most (coordinates_then (m ∷ []) []) [] zero_ (length_ x_) (squares_ x_) refl tt

-- numbers from 0 to n are at most n apart
pub apart-IsWithin : (n : ℕ) (a b : ℤ) → IsUpTo n a → IsUpTo n b → IsWithin n (a -ℤ b)
apart-IsWithin n a b h k = record { within = omega (arith, ints, h.low, h.high, k.low, k.high) }

scaled-IsUpTo : (s n : ℕ) (t z : ℤ) → IsUpTo s t → IsUpTo n z → IsUpTo (s * n) (t *ℤ z)
scaled-IsUpTo s n t z h k = record {
  low = at_most (t ∷ z ∷ []) ((constant (pos 0) ≼ variable 0) ∷ (constant (pos 0) ≼ variable 1) ∷ []) (constant (pos 0)) (variable 0 ⊗ variable 1) (given 0 ⊠ given 1) refl (h.low, (k.low, tt));
  high = at_most (t ∷ z ∷ pos s ∷ pos n ∷ []) ((variable 0 ≼ variable 2) ∷ (constant (pos 0) ≼ variable 3) ∷ (constant (pos 0) ≼ variable 0) ∷ (variable 1 ≼ variable 3) ∷ []) (variable 0 ⊗ variable 1) (variable 2 ⊗ variable 3) (given 0 ⊠ given 1 ⊞ given 2 ⊠ given 3) refl (h.high, (natural-NonNegative n, (h.low, (k.high, tt))));
}

pub gap_of-IsVectorWithin : (s n : ℕ) (t : ℤ) (p a : Point) → IsInBox (s * n) p → IsUpTo s t → IsInBox n a → IsVectorWithin (s * n) (gap_of p t a)
unfolding gap_of
gap_of-IsVectorWithin s n t p a h i k =
    record { x_in = at p.x a.x h.x_in k.x_in; y_in = at p.y a.y h.y_in k.y_in; z_in = at p.z a.z h.z_in k.z_in }
  where
    at : (q z : ℤ) → IsUpTo (s * n) q → IsUpTo n z → IsWithin (s * n) (q -ℤ t *ℤ z)
    at q z f g = apart-IsWithin (s * n) q (t *ℤ z) f (scaled-IsUpTo s n t z i g)

-- for `using`: a bound from a smaller one
pub ruleset wider = (wider-IsVectorWithin)
