-- A point as the mean of the corners of a triangle, weighted by its values to the sides.
use Rattle.std.proofs.Common.{◌≡◌, ℕ, Bool, true, false, if◌then◌else◌, List, [], ◌∷◌, ℤ, pos, ◌+ℤ◌, ◌-ℤ◌, ◌*ℤ◌, refl}
use Rattle.int_algebra.proofs.Ring.{Expression, constant, variable, ◌⊕◌, ◌⊖◌, ◌⊗◌, ring}
use Rattle.int_algebra.proofs.Corners as corners
use Rattle.int_algebra.proofs.Corners.{Corner, corner, less}
use Rattle.grid.proofs.ForCallers.{coordinates_then}
use Rattle.grid.specs.declared.shapes.Point.{Point}
use Rattle.grid.specs.Vectors.{Vector, difference, dot, cross, opposite}

-- ---- weights of a point, by its values to the sides
abbrev pub chosen : Bool → Vector → Vector
chosen b m = if b then m else opposite m

abbrev chosen_ : Bool → Corner → Corner
chosen_ true m = m
chosen_ false m = let o = constant (pos 0) in record { x = o ⊖ m.x; y = o ⊖ m.y; z = o ⊖ m.z }

abbrev pub vector : Point → Vector
vector p = record { x = p.x; y = p.y; z = p.z }

-- across the side from a to b
abbrev pub across : (u : Vector) (a b : Point) → Vector
across u a b = cross (difference b a) u

-- the value of p to that side
abbrev pub value_to : Bool → (u : Vector) (a b p : Point) → ℤ
value_to s u a b p = dot (chosen s (across u a b)) (difference p a)

abbrev value_to_ : Bool → (i j k : ℕ) → Expression
value_to_ s i j k = corners.dot (chosen_ s (corners.cross (less (corner j) (corner i)) (corner 4))) (less (corner k) (corner i))

abbrev height_ : Expression
height_ = corners.dot (corners.cross (less (corner 1) (corner 0)) (less (corner 2) (corner 0))) (less (corner 3) (corner 0))

abbrev turned_ : Bool → Expression → Expression
turned_ true e = e
turned_ false e = constant (pos 0) ⊖ e

abbrev pub turned_z : Bool → ℤ → ℤ
turned_z true e = e
turned_z false e = pos 0 -ℤ e

module _ (u : Vector) (a b c p : Point) where
  abbrev all : List ℤ
  all = coordinates_then (vector a ∷ vector b ∷ vector c ∷ vector p ∷ u ∷ []) []

  abbrev pub height : ℤ
  height = dot (cross (difference b a) (difference c a)) (difference p a)

  -- the third corner has the same value to each side
  pub second-same : value_to true u b c a ≡ value_to true u a b c
  unfolding dot
  second-same = ring all (value_to_ true 1 2 0) (value_to_ true 0 1 2) refl

  pub third-same : value_to true u c a b ≡ value_to true u a b c
  unfolding dot
  third-same = ring all (value_to_ true 2 0 1) (value_to_ true 0 1 2) refl

  pub values-sum : (s : Bool) → value_to s u a b p +ℤ value_to s u b c p +ℤ value_to s u c a p ≡ value_to s u a b c
  unfolding dot
  values-sum true = ring all (value_to_ true 0 1 3 ⊕ value_to_ true 1 2 3 ⊕ value_to_ true 2 0 3) (value_to_ true 0 1 2) refl
  values-sum false = ring all (value_to_ false 0 1 3 ⊕ value_to_ false 1 2 3 ⊕ value_to_ false 2 0 3) (value_to_ false 0 1 2) refl

  -- that value is the normal's component along u, or its negative
  pub value-along : (s : Bool) → value_to s u a b c ≡ turned_z s (pos 0 -ℤ dot (cross (difference b a) (difference c a)) u)
  unfolding dot
  value-along true = ring all (value_to_ true 0 1 2) (constant (pos 0) ⊖ corners.dot (corners.cross (less (corner 1) (corner 0)) (less (corner 2) (corner 0))) (corner 4)) refl
  value-along false = ring all (value_to_ false 0 1 2) (constant (pos 0) ⊖ (constant (pos 0) ⊖ corners.dot (corners.cross (less (corner 1) (corner 0)) (less (corner 2) (corner 0))) (corner 4))) refl

  -- a point is the mean of the corners with its values as weights, up to its height over the plane along u
  pub mean-x : (s : Bool) → (value_to s u a b p +ℤ value_to s u b c p +ℤ value_to s u c a p) *ℤ p.x +ℤ height *ℤ turned_z s u.x ≡ value_to s u a b p *ℤ c.x +ℤ value_to s u b c p *ℤ a.x +ℤ value_to s u c a p *ℤ b.x
  unfolding dot
  mean-x true = ring all ((value_to_ true 0 1 3 ⊕ value_to_ true 1 2 3 ⊕ value_to_ true 2 0 3) ⊗ variable 9 ⊕ height_ ⊗ turned_ true (variable 12)) (value_to_ true 0 1 3 ⊗ variable 6 ⊕ value_to_ true 1 2 3 ⊗ variable 0 ⊕ value_to_ true 2 0 3 ⊗ variable 3) refl
  mean-x false = ring all ((value_to_ false 0 1 3 ⊕ value_to_ false 1 2 3 ⊕ value_to_ false 2 0 3) ⊗ variable 9 ⊕ height_ ⊗ turned_ false (variable 12)) (value_to_ false 0 1 3 ⊗ variable 6 ⊕ value_to_ false 1 2 3 ⊗ variable 0 ⊕ value_to_ false 2 0 3 ⊗ variable 3) refl

  pub mean-y : (s : Bool) → (value_to s u a b p +ℤ value_to s u b c p +ℤ value_to s u c a p) *ℤ p.y +ℤ height *ℤ turned_z s u.y ≡ value_to s u a b p *ℤ c.y +ℤ value_to s u b c p *ℤ a.y +ℤ value_to s u c a p *ℤ b.y
  unfolding dot
  mean-y true = ring all ((value_to_ true 0 1 3 ⊕ value_to_ true 1 2 3 ⊕ value_to_ true 2 0 3) ⊗ variable 10 ⊕ height_ ⊗ turned_ true (variable 13)) (value_to_ true 0 1 3 ⊗ variable 7 ⊕ value_to_ true 1 2 3 ⊗ variable 1 ⊕ value_to_ true 2 0 3 ⊗ variable 4) refl
  mean-y false = ring all ((value_to_ false 0 1 3 ⊕ value_to_ false 1 2 3 ⊕ value_to_ false 2 0 3) ⊗ variable 10 ⊕ height_ ⊗ turned_ false (variable 13)) (value_to_ false 0 1 3 ⊗ variable 7 ⊕ value_to_ false 1 2 3 ⊗ variable 1 ⊕ value_to_ false 2 0 3 ⊗ variable 4) refl

  pub mean-z : (s : Bool) → (value_to s u a b p +ℤ value_to s u b c p +ℤ value_to s u c a p) *ℤ p.z +ℤ height *ℤ turned_z s u.z ≡ value_to s u a b p *ℤ c.z +ℤ value_to s u b c p *ℤ a.z +ℤ value_to s u c a p *ℤ b.z
  unfolding dot
  mean-z true = ring all ((value_to_ true 0 1 3 ⊕ value_to_ true 1 2 3 ⊕ value_to_ true 2 0 3) ⊗ variable 11 ⊕ height_ ⊗ turned_ true (variable 14)) (value_to_ true 0 1 3 ⊗ variable 8 ⊕ value_to_ true 1 2 3 ⊗ variable 2 ⊕ value_to_ true 2 0 3 ⊗ variable 5) refl
  mean-z false = ring all ((value_to_ false 0 1 3 ⊕ value_to_ false 1 2 3 ⊕ value_to_ false 2 0 3) ⊗ variable 11 ⊕ height_ ⊗ turned_ false (variable 14)) (value_to_ false 0 1 3 ⊗ variable 8 ⊕ value_to_ false 1 2 3 ⊗ variable 2 ⊕ value_to_ false 2 0 3 ⊗ variable 5) refl
