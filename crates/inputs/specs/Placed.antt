-- What holds of a soup in its box.
use Rattle.std.specs.Prelude.{◌≡◌, ◌*◌, ◌^◌, ◌≤◌, ℕ, pos, ◌≤ℤ◌, unsigned_abs, length, All}
use Rattle.grid.specs.Boxes.{IsTriInBox}
use Rattle.grid.specs.Limits.{IsSide, largest_side, most_input}
use Rattle.soup.specs.declared.raw.Raw.{Raw}
use Rattle.soup.specs.declared.raw.Soup.{Soup}
use Rattle.soup.specs.Limits.{IsRaw}
use Rattle.soup.specs.Placement.{room, placed}

-- the box has one of its sides and room for the cells, the shift is a number of a file, and at most 2^20 triangles lie in the grid
pub record IsPlacedFor (cells : ℕ) (soup : Soup) : Type 0 where
  pub side : IsSide soup.side
  pub room : pos (4 * cells) ≤ℤ soup.side
  pub shift : All (λ s. unsigned_abs s ≤ 2 * 10 ^ 9) soup.shift
  pub few : length soup.triangles ≤ most_input
  pub inside : All (IsTriInBox largest_side) soup.triangles

-- a soup within the limits of one, that a box has room for, in its box
pub record IsBoxed (epsilon cells : ℕ) (soup : Soup) : Type 0 where
  pub raw : Raw
  pub raw_is : IsRaw raw
  pub has_room : room raw epsilon ≤ largest_side
  pub soup_is : soup ≡ placed raw epsilon cells
