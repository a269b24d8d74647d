-- The limits of an input soup.
use Rattle.std.specs.Prelude.{ℕ, ◌<◌, ◌≤◌, ◌^◌, ℤ, pos, List, length, slice_index, slice_index_or, All}
use Rattle.grid.specs.Limits.{most_input}
use Rattle.int_algebra.specs.Within.{IsWithin}
use Rattle.soup.specs.declared.raw.Raw.{Raw}

-- the largest absolute value of an input coordinate
abbrev pub largest_coordinate : ℕ
largest_coordinate = 10 ^ 9

-- a vertex whose coordinates are at most 10 ^ 9 in absolute value
pub record IsVertex (v : List ℤ) : Type 0 where
  pub x_in : IsWithin largest_coordinate (slice_index_or v 0 (pos 0))
  pub y_in : IsWithin largest_coordinate (slice_index_or v 1 (pos 0))
  pub z_in : IsWithin largest_coordinate (slice_index_or v 2 (pos 0))

-- a triangle whose corners are numbers below n
pub record IsFaceBelow (n : ℕ) (f : List ℕ) : Type 0 where
  pub a_in : slice_index f 0 < n
  pub b_in : slice_index f 1 < n
  pub c_in : slice_index f 2 < n

-- at most 2 ^ 20 vertices and triangles, coordinates within the limit, and corners that are vertices
pub record IsRaw (raw : Raw) : Type 0 where
  pub vertices_few : length raw.vertices ≤ most_input
  pub faces_few : length raw.faces ≤ most_input
  pub coordinates : All IsVertex raw.vertices
  pub corners : All (IsFaceBelow (length raw.vertices)) raw.faces
