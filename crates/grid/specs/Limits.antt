-- The limits of what is meshed: the box, the cells along an axis, the input, and what is made.
use Rattle.std.specs.Prelude.{◌≡◌, ℕ, ◌^◌, ◌≤◌, ℤ, pos}

-- the largest side of the box, thus the largest coordinate of a point
abbrev pub largest_side : ℕ
largest_side = 2 ^ 18

-- the largest epsilon, in grid steps
abbrev pub most_epsilon : ℕ
most_epsilon = 4095

-- the most vertices and the most triangles of an input
abbrev pub most_input : ℕ
most_input = 2 ^ 20

-- the most points that a mesh may have
abbrev pub most_points : ℕ
most_points = 2 ^ 20

-- the most tetrahedra that may ever be made
abbrev pub most_made : ℕ
most_made = 2 ^ 22

-- 1, 2, 4, 8, 16 or 32
pub record IsCells (cells : ℕ) : Type 0 where
  pub power : ℕ
  pub power_most : power ≤ 5
  pub is : cells ≡ 2 ^ power

-- a power of two from 16 to the largest side
pub record IsSide (side : ℤ) : Type 0 where
  pub power : ℕ
  pub power_least : 4 ≤ power
  pub power_most : power ≤ 18
  pub is : side ≡ pos (2 ^ power)
