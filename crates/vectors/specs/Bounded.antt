-- Vectors of the code, and bounds of their components.
use Rattle.std.specs.Prelude.{ℕ, ℤ, ◌-ℤ◌, ◌*ℤ◌}
use Rattle.int_algebra.specs.Within.{IsWithin}
use Rattle.grid.specs.declared.shapes.Point.{Point}
use Rattle.grid.specs.Vectors.{Vector}
use Rattle.vectors.specs.declared.vector.Vector as code

-- a vector of the code as one of the definitions
abbrev pub vector_of : code.Vector → Vector
vector_of m = record { x = m.x; y = m.y; z = m.z }

-- a vector whose components are from -n to n
pub record IsVectorWithin (n : ℕ) (m : Vector) : Type 0 where
  pub x_in : IsWithin n m.x
  pub y_in : IsWithin n m.y
  pub z_in : IsWithin n m.z

-- p - t a
unfoldable pub gap_of : Point → ℤ → Point → Vector
gap_of p t a = record { x = p.x -ℤ t *ℤ a.x; y = p.y -ℤ t *ℤ a.y; z = p.z -ℤ t *ℤ a.z }
