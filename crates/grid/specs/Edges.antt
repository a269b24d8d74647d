-- Differences of points as the code holds them.
use Rattle.std.specs.Prelude.{◌≡◌, ◌^◌, ◌-ℤ◌}
use Rattle.int_algebra.specs.Within.{IsWithin}
use Rattle.grid.specs.declared.shapes.Point.{Point}
use Rattle.grid.specs.declared.determinants.Edge.{Edge}

-- the way from a to b
pub record IsBetween (a b : Point) (e : Edge) : Type 0 where
  pub x : e.x ≡ b.x -ℤ a.x
  pub y : e.y ≡ b.y -ℤ a.y
  pub z : e.z ≡ b.z -ℤ a.z

-- no longer than the box along each axis
pub record IsShort (e : Edge) : Type 0 where
  pub x_in : IsWithin (2 ^ 19) e.x
  pub y_in : IsWithin (2 ^ 19) e.y
  pub z_in : IsWithin (2 ^ 19) e.z
