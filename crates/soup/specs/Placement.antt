-- The box round an input soup, and the soup's triangles in it.
use Rattle.std.specs.Prelude.{ℕ, zero, suc, ◌+◌, ◌-◌, ◌*◌, ◌/◌, ◌^◌, ◌≤◌, max, nat_le, if◌then◌else◌, ℤ, pos, ◌+ℤ◌, ◌-ℤ◌, ◌≤ℤ◌, unsigned_abs, List, [], ◌∷◌, map, fold, slice_index_or, slice_index, All}
use Rattle.std.specs.Int.{int_min, int_max}
use Rattle.int_algebra.specs.Within.{IsWithin}
use Rattle.grid.specs.declared.shapes.Point.{Point}
use Rattle.grid.specs.declared.shapes.Tri.{Tri}
use Rattle.grid.specs.Boxes.{corner_of, IsTriInBox}
use Rattle.grid.specs.Limits.{IsSide}
use Rattle.soup.specs.declared.raw.Raw.{Raw}
use Rattle.soup.specs.declared.raw.Soup.{Soup}

-- ---- extent
-- the coordinate of a vertex along the axis 0, 1 or 2
abbrev pub along : ℕ → List ℤ → ℤ
along axis v = slice_index_or v axis (pos 0)

-- the least coordinate of the vertices along an axis, used or not, and 0 where there are none
unfoldable pub least : ℕ → List (List ℤ) → ℤ
least axis [] = pos 0
least axis (v ∷ vs) = fold int_min (along axis v) (map (along axis) vs)

-- the greatest coordinate of the vertices along an axis, and 0 where there are none
unfoldable pub greatest : ℕ → List (List ℤ) → ℤ
greatest axis [] = pos 0
greatest axis (v ∷ vs) = fold int_max (along axis v) (map (along axis) vs)

-- how far the vertices spread along an axis
abbrev pub spread : ℕ → List (List ℤ) → ℕ
spread axis vs = unsigned_abs (greatest axis vs -ℤ least axis vs)

-- the largest spread over the axes
abbrev pub extent : Raw → ℕ
extent raw = max (max (spread 0 raw.vertices) (spread 1 raw.vertices)) (spread 2 raw.vertices)

-- ---- the box
-- the extent with room for the envelope and two steps at either end
abbrev pub room : Raw → (epsilon : ℕ) → ℕ
room raw epsilon = extent raw + 2 * epsilon + 4

-- the least power of two that is at least n, from 2 ^ k to 2 ^ (k + more)
unfoldable pub power_from : (more k n : ℕ) → ℕ
power_from zero k n = 2 ^ k
power_from (suc more) k n = if nat_le n (2 ^ k) then 2 ^ k else power_from more (k + 1) n

-- the side of the box: the least power of two, from 16 to 2 ^ 18, that has the room and is at least four times the cells
abbrev pub side : Raw → (epsilon cells : ℕ) → ℕ
side raw epsilon cells = power_from 14 4 (max (room raw epsilon) (4 * cells))

-- where a box of that side begins along an axis, before the shift: the vertices lie in its middle, floored
abbrev pub start_along : ℕ → List (List ℤ) → (length_of : ℕ) → ℤ
start_along axis [] length_of = pos 0
start_along axis vs length_of = least axis vs -ℤ pos ((length_of - spread axis vs) / 2)

-- the input coordinates of the origin of a box of that side
abbrev pub start : List (List ℤ) → (length_of : ℕ) → List ℤ
start vs length_of = start_along 0 vs length_of ∷ start_along 1 vs length_of ∷ start_along 2 vs length_of ∷ []

-- the input coordinates of the grid's origin
abbrev pub shift : Raw → (epsilon cells : ℕ) → List ℤ
shift raw epsilon cells = start raw.vertices (side raw epsilon cells)

-- ---- the placed triangles
-- a vertex as a point of the grid
abbrev pub placed_point : (moved : List ℤ) → List ℤ → Point
placed_point moved v = record { x = along 0 v -ℤ along 0 moved; y = along 1 v -ℤ along 1 moved; z = along 2 v -ℤ along 2 moved }

-- corner i of a triangle as a point of the grid
abbrev pub placed_corner : (moved : List ℤ) → List (List ℤ) → List ℕ → ℕ → Point
placed_corner moved vs f i = placed_point moved (slice_index_or vs (slice_index f i) [])

-- a triangle by its corners as points of the grid
abbrev pub placed_triangle : (moved : List ℤ) → List (List ℤ) → List ℕ → Tri
placed_triangle moved vs f = record { 0 = placed_corner moved vs f 0 ∷ placed_corner moved vs f 1 ∷ placed_corner moved vs f 2 ∷ [] }

-- the soup in a box of that side
abbrev pub placed_in : (length_of : ℕ) → Raw → Soup
placed_in length_of raw = record {
  triangles = map (placed_triangle (start raw.vertices length_of) raw.vertices) raw.faces;
  side = pos length_of;
  shift = start raw.vertices length_of;
}

-- the soup in its box
unfoldable pub placed : Raw → (epsilon cells : ℕ) → Soup
placed raw epsilon cells = placed_in (side raw epsilon cells) raw

-- ---- what holds of it
-- a power of two that has the room and is at least four times the cells, and no lower one from 16 on is
pub record IsLeastSide (raw : Raw) (epsilon cells : ℕ) (length_of : ℤ) : Type 0 where
  pub is_side : IsSide length_of
  pub has_room : pos (room raw epsilon) ≤ℤ length_of
  pub cells_fit : pos (4 * cells) ≤ℤ length_of
  pub least : (k : ℕ) → 4 ≤ k → room raw epsilon ≤ 2 ^ k → 4 * cells ≤ 2 ^ k → length_of ≤ℤ pos (2 ^ k)

-- a number at least so far inside 0 and n
pub record IsInside (margin n : ℕ) (z : ℤ) : Type 0 where
  pub low : pos margin ≤ℤ z
  pub high : (z +ℤ pos margin) ≤ℤ pos n

-- a point whose coordinates are
pub record IsPointInside (margin n : ℕ) (p : Point) : Type 0 where
  pub x_inside : IsInside margin n p.x
  pub y_inside : IsInside margin n p.y
  pub z_inside : IsInside margin n p.z

-- a triangle whose corners are
pub record IsTriInside (margin n : ℕ) (t : Tri) : Type 0 where
  pub a_inside : IsPointInside margin n (corner_of t 0)
  pub b_inside : IsPointInside margin n (corner_of t 1)
  pub c_inside : IsPointInside margin n (corner_of t 2)

-- the triangles lie in the box, with room for the envelope and two steps round them
pub record IsInItsBox (epsilon length_of : ℕ) (soup : Soup) : Type 0 where
  pub in_box : All (IsTriInBox length_of) soup.triangles
  pub inside : All (IsTriInside (epsilon + 2) length_of) soup.triangles
  pub shift_few : All (IsWithin (2 * 10 ^ 9)) soup.shift
