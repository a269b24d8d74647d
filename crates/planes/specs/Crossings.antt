-- Where a segment crosses a plane.
use Rattle.std.specs.Prelude.{ℕ, pos, ◌*ℤ◌, ◌<ℤ◌}
use Rattle.grid.specs.declared.shapes.Point.{Point}
use Rattle.grid.specs.Planes.{Plane, value_of, rounded_mean}

-- the values of two points have opposite signs
abbrev pub HaveOppositeSigns : Plane → Point → Point → Type 0
HaveOppositeSigns m u v = (value_of m u *ℤ value_of m v) <ℤ pos 0

-- the mean of two points with the weights g and f, each coordinate rounded
unfoldable pub mean_of : (u v : Point) (f g : ℕ) → Point
mean_of u v f g =
    record { x = rounded_mean u.x v.x f g; y = rounded_mean u.y v.y f g; z = rounded_mean u.z v.z f g }
