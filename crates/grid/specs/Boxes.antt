-- The box and its six sides, and points and triangles in it.
use Rattle.std.specs.Prelude.{◌≡◌, ℕ, Bool, true, if◌then◌else◌, ℤ, pos, ◌≤ℤ◌, List, slice_index_or}
use Rattle.grid.specs.declared.shapes.Point.{Point}
use Rattle.grid.specs.declared.shapes.Tri.{Tri}
use Rattle.grid.specs.Simplices.{has}
use Rattle.grid.specs.Determinants.{origin, point_at}

-- the three directions of the grid
pub data Axis : Type 0 where
  along_x : Axis
  along_y : Axis
  along_z : Axis

-- the coordinate of a point along an axis
abbrev pub coordinate : Axis → Point → ℤ
coordinate along_x p = p.x
coordinate along_y p = p.y
coordinate along_z p = p.z

-- a side of the box: across an axis, at 0 or at the far end
pub record Side : Type 0 where
  pub axis : Axis
  pub is_far : Bool

-- the point lies on that side of the box from 0 to length_of
abbrev pub IsOn : ℕ → Side → Point → Type 0
IsOn length_of s p = coordinate s.axis p ≡ (if s.is_far then pos length_of else pos 0)

-- the corners lie on one side of the box
pub record IsOnOneSide (points : List Point) (length_of : ℕ) (f : List ℕ) : Type 0 where
  pub side : Side
  pub corners : (c : ℕ) → has f c ≡ true → IsOn length_of side (point_at points c)

-- a coordinate from 0 to n
pub record IsUpTo (n : ℕ) (z : ℤ) : Type 0 where
  pub low : pos 0 ≤ℤ z
  pub high : z ≤ℤ pos n

-- a point in the box from 0 to n
pub record IsInBox (n : ℕ) (p : Point) : Type 0 where
  pub x_in : IsUpTo n p.x
  pub y_in : IsUpTo n p.y
  pub z_in : IsUpTo n p.z

-- three points in the box from 0 to n
pub record AreInBox (n : ℕ) (a b c : Point) : Type 0 where
  pub a_in : IsInBox n a
  pub b_in : IsInBox n b
  pub c_in : IsInBox n c

-- the corner i of a triangle
abbrev pub corner_of : Tri → ℕ → Point
corner_of tri i = slice_index_or tri.0 i origin

-- a triangle whose corners are in the box from 0 to n
abbrev pub IsTriInBox : ℕ → Tri → Type 0
IsTriInBox n tri = AreInBox n (corner_of tri 0) (corner_of tri 1) (corner_of tri 2)
