-- The sides of the box on which a point lies, as the bits of a number.
use Rattle.std.specs.Prelude.{ℕ, ◌+◌, ◌*◌, Bool, if◌then◌else◌, ℤ, pos, List, [], ◌∷◌}
use Rattle.std.specs.Ordering.{int_eq}
use Rattle.grid.specs.declared.shapes.Point.{Point}
use Rattle.grid.specs.Boxes.{Axis, along_x, along_y, along_z, Side}

-- the number of a side's bit: 0 to 5 for x=0, x=L, y=0, y=L, z=0, z=L
abbrev pub first_bit : Axis → ℕ
first_bit along_x = 0
first_bit along_y = 2
first_bit along_z = 4

abbrev pub bit_of : Side → ℕ
bit_of s = first_bit s.axis + (if s.is_far then 1 else 0)

-- the number with these bits, the lowest first
abbrev pub number_of : List Bool → ℕ
number_of [] = 0
number_of (b ∷ bs) = (if b then 1 else 0) + 2 * number_of bs

-- the bits of the sides of the box from 0 to l on which a point lies
abbrev pub side_bits : ℤ → Point → ℕ
side_bits l p =
    number_of (int_eq p.x (pos 0) ∷ int_eq p.x l ∷ int_eq p.y (pos 0) ∷ int_eq p.y l ∷ int_eq p.z (pos 0) ∷ int_eq p.z l ∷ [])
