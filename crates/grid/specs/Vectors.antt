-- Vectors of whole numbers.
use Rattle.std.specs.Prelude.{ℤ, pos, ◌+ℤ◌, ◌-ℤ◌, ◌*ℤ◌, List, [], ◌∷◌}
use Rattle.grid.specs.declared.shapes.Point.{Point}

-- a vector by its components
pub record Vector : Type 0 where
  pub x : ℤ
  pub y : ℤ
  pub z : ℤ

-- the vector 0, 0, 0
abbrev pub no_vector : Vector
no_vector = record { x = pos 0; y = pos 0; z = pos 0 }

-- a - b
abbrev pub difference : Point → Point → Vector
difference a b = record { x = a.x -ℤ b.x; y = a.y -ℤ b.y; z = a.z -ℤ b.z }

-- the scalar product
unfoldable pub dot : Vector → Vector → ℤ
dot m n = (m.x *ℤ n.x) +ℤ (m.y *ℤ n.y) +ℤ (m.z *ℤ n.z)

-- the vector product
abbrev pub cross : Vector → Vector → Vector
cross m n = record { x = (m.y *ℤ n.z) -ℤ (m.z *ℤ n.y); y = (m.z *ℤ n.x) -ℤ (m.x *ℤ n.z); z = (m.x *ℤ n.y) -ℤ (m.y *ℤ n.x) }

-- the vector with all signs changed
abbrev pub opposite : Vector → Vector
opposite m = record { x = pos 0 -ℤ m.x; y = pos 0 -ℤ m.y; z = pos 0 -ℤ m.z }

-- the components in a row, as an array holds them
abbrev pub components : Vector → List ℤ
components m = m.x ∷ m.y ∷ m.z ∷ []

-- ---- sums of vectors
-- m - n
unfoldable pub minus : Vector → Vector → Vector
minus m n = record { x = m.x -ℤ n.x; y = m.y -ℤ n.y; z = m.z -ℤ n.z }

-- k m
unfoldable pub scaled : ℤ → Vector → Vector
scaled k m = record { x = k *ℤ m.x; y = k *ℤ m.y; z = k *ℤ m.z }

-- v m + w n
unfoldable pub sum_of_two : (v w : ℤ) → (m n : Vector) → Vector
sum_of_two v w m n = record { x = v *ℤ m.x +ℤ w *ℤ n.x; y = v *ℤ m.y +ℤ w *ℤ n.y; z = v *ℤ m.z +ℤ w *ℤ n.z }

-- u l + v m + w n
unfoldable pub sum_of_three : (u v w : ℤ) → (l m n : Vector) → Vector
sum_of_three u v w l m n = record {
  x = u *ℤ l.x +ℤ v *ℤ m.x +ℤ w *ℤ n.x;
  y = u *ℤ l.y +ℤ v *ℤ m.y +ℤ w *ℤ n.y;
  z = u *ℤ l.z +ℤ v *ℤ m.z +ℤ w *ℤ n.z;
}
