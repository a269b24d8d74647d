-- Planes, the sides of a triangle, snapped signs and crossing points.
use Rattle.std.specs.Prelude.{◌≡◌, ℕ, ◌+◌, ◌*◌, ◌%◌, ◌^◌, ◌&&◌, nat_le, nat_abs, if◌then◌else◌, ℤ, pos, ◌+ℤ◌, ◌*ℤ◌}
use Rattle.std.specs.Int.Signed.{lt_z}
use Rattle.std.specs.Int.{int_signum, int_div_euclid}
use Rattle.grid.specs.declared.shapes.Point.{Point}
use Rattle.grid.specs.declared.shapes.Tri.{Tri}
use Rattle.grid.specs.Boxes.{Axis, along_x, along_y, along_z, corner_of}
use Rattle.grid.specs.Vectors.{Vector, difference, dot, cross, opposite, no_vector}

-- a plane, and the distance up to which a point is snapped to it
pub record Plane : Type 0 where
  pub normal : Vector
  pub origin : Point
  pub snap : ℕ

-- the normal of a triangle
abbrev pub normal_of : Tri → Vector
normal_of t = cross (difference (corner_of t 1) (corner_of t 0)) (difference (corner_of t 2) (corner_of t 0))

-- a triangle whose normal is zero
abbrev pub IsDegenerate : Tri → Type 0
IsDegenerate t = normal_of t ≡ no_vector

-- the plane of a triangle
abbrev pub plane_of : Tri → Plane
plane_of t = record { normal = normal_of t; origin = corner_of t 0; snap = 1 }

-- the value of a point: how far it lies from the plane, times the length of the normal
unfoldable pub value_of : Plane → Point → ℤ
value_of m p = dot m.normal (difference p m.origin)

-- 0 within the snapping distance, else the sign of the value
unfoldable pub snap_sign : Plane → Point → ℤ
snap_sign m p =
    if lt_z (pos (m.snap ^ 2) *ℤ dot m.normal m.normal) (value_of m p *ℤ value_of m p) then int_signum (value_of m p) else pos 0

-- ---- the sides of a triangle
-- the vector of length 1 along an axis
abbrev pub unit_of : Axis → Vector
unit_of along_x = record { x = pos 1; y = pos 0; z = pos 0 }
unit_of along_y = record { x = pos 0; y = pos 1; z = pos 0 }
unit_of along_z = record { x = pos 0; y = pos 0; z = pos 1 }

-- the axis of the largest component in absolute value, the first on ties
abbrev pub largest_axis : Vector → Axis
largest_axis m =
    if nat_le (nat_abs m.y) (nat_abs m.x) && nat_le (nat_abs m.z) (nat_abs m.x)
    then along_x
    else if nat_le (nat_abs m.z) (nat_abs m.y) then along_y else along_z

-- the vector along side i across that axis
abbrev pub side_across : Tri → ℕ → Vector
side_across t i = cross (difference (corner_of t ((i + 1) % 3)) (corner_of t i)) (unit_of (largest_axis (normal_of t)))

-- turned so that the third corner has a positive value
abbrev pub side_normal : Tri → ℕ → Vector
side_normal t i =
    if lt_z (pos 0) (dot (side_across t i) (difference (corner_of t ((i + 2) % 3)) (corner_of t i)))
    then side_across t i
    else opposite (side_across t i)

-- the plane through the corners i and i + 1 that is parallel to an axis
abbrev pub side_plane : Tri → ℕ → Plane
side_plane t i = record { normal = side_normal t i; origin = corner_of t i; snap = 1 }

-- ---- crossing points
-- the mean of u and v with the weights g and f, rounded, a half going up
abbrev pub rounded_mean : (u v : ℤ) (f g : ℕ) → ℤ
rounded_mean u v f g =
    int_div_euclid (pos 2 *ℤ ((u *ℤ pos g) +ℤ (v *ℤ pos f)) +ℤ pos (f + g)) (pos (2 * (f + g)))

-- the point of the segment from u to v that has the value 0, rounded
unfoldable pub crossing : Plane → Point → Point → Point
crossing m u v =
    let f = nat_abs (value_of m u) in
    let g = nat_abs (value_of m v) in
    record { x = rounded_mean u.x v.x f g; y = rounded_mean u.y v.y f g; z = rounded_mean u.z v.z f g }
