-- The sides of a triangle as the code finds them.
use Rattle.std.specs.Prelude.{pos, if◌then◌else◌}
use Rattle.std.specs.Int.Signed.{lt_z}
use Rattle.grid.specs.declared.shapes.Point.{Point}
use Rattle.grid.specs.Vectors.{Vector, difference, dot, cross, opposite}
use Rattle.grid.specs.Planes.{Plane}

-- a vector, or its opposite where it does not point to the side of d
abbrev pub turned : Vector → Vector → Vector
turned m d = if lt_z (pos 0) (dot m d) then m else opposite m

-- the plane through u and v along an axis, turned to w
unfoldable pub side_of : (u v w : Point) (axis : Vector) → Plane
side_of u v w axis =
    record { normal = turned (cross (difference v u) axis) (difference w u); origin = u; snap = 1 }
