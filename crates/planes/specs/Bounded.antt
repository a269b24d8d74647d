-- Planes of the code, and the bounds of their numbers, so that all that is computed from them fits.
use Rattle.std.specs.Prelude.{◌≡◌, ℕ, ◌^◌, ◌≤◌, nat_abs, ℤ, pos, ◌*ℤ◌}
use Rattle.grid.specs.declared.shapes.Point.{Point}
use Rattle.grid.specs.Boxes.{IsInBox}
use Rattle.grid.specs.Vectors.{dot}
use Rattle.grid.specs.Planes.{Plane}
use Rattle.grid.specs.Limits.{largest_side, most_epsilon}
use Rattle.vectors.specs.declared.vector.Vector.{Vector}
use Rattle.planes.specs.Roots.{root}
use Rattle.vectors.specs.Bounded.{IsVectorWithin, vector_of}

-- the normal, the origin and the snapping distance that a plane of the code may have
pub record IsBounded (m : Plane) : Type 0 where
  pub normal_in : IsVectorWithin (2 ^ 37) m.normal
  pub origin_in : IsInBox largest_side m.origin
  pub snap_low : 1 ≤ m.snap
  pub snap_high : m.snap ≤ most_epsilon

-- the square of the snapping distance, times that of the normal's length
abbrev pub sq_reach_of : Plane → ℤ
sq_reach_of m = pos (m.snap ^ 2) *ℤ dot m.normal m.normal

-- the largest value of a point that is snapped
abbrev pub reach_of : Plane → ℕ
reach_of m = root (nat_abs (sq_reach_of m))

-- a plane of the code, with the reach that it keeps
pub record IsKept (m : Plane) (reach : ℕ) : Type 0 where
  pub bounded : IsBounded m
  pub reach_is : reach ≡ reach_of m

abbrev pub plane_with : Vector → Point → ℕ → Plane
plane_with normal origin snap = record { normal = vector_of normal; origin = origin; snap = snap }
