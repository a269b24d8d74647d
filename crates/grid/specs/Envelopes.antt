-- The triangles of an envelope that three points are near to.
use Rattle.std.specs.Prelude.{ℕ, ◌<◌, List, [], ◌∷◌, length, slice_index_or}
use Rattle.grid.specs.declared.shapes.Point.{Point}
use Rattle.grid.specs.declared.shapes.Tri.{Tri}
use Rattle.grid.specs.Determinants.{origin}
use Rattle.grid.specs.Near.{Near}

-- all three points, at the scale 2 ^ k, are at distance at most e from the triangle
pub record AreNear (a b c : Point) (k : ℕ) (tri : Tri) (e : ℕ) : Type 0 where
  pub a_near : Near a k tri e
  pub b_near : Near b k tri e
  pub c_near : Near c k tri e

-- the triangle of a number
abbrev pub triangle_at : List Tri → ℕ → Tri
triangle_at triangles t = slice_index_or triangles t (record { 0 = origin ∷ origin ∷ origin ∷ [] })

-- t is the number of a triangle that all three points are near to
pub record IsNearTo (triangles : List Tri) (a b c : Point) (k e t : ℕ) : Type 0 where
  pub in_range : t < length triangles
  pub near : AreNear a b c k (triangle_at triangles t) e

-- t is the least such number
pub record IsLeastNear (triangles : List Tri) (a b c : Point) (k e t : ℕ) : Type 0 where
  pub is_near : IsNearTo triangles a b c k e t
  pub least : (s : ℕ) → s < t → ¬ IsNearTo triangles a b c k e s

-- there is no such number
abbrev pub HasNoneNear : List Tri → Point → Point → Point → ℕ → ℕ → Type 0
HasNoneNear triangles a b c k e = (t : ℕ) → ¬ IsNearTo triangles a b c k e t
