-- The extent of a soup, and the ranges of its vertices.
use Rattle.std.specs.Prelude.{◌≡◌, ℕ, ◌*◌, ◌≤◌, List, ℤ}
use Rattle.int_algebra.specs.Within.{IsWithin}
use Rattle.soup.specs.declared.raw.Raw.{Raw}
use Rattle.soup.specs.declared.measure.Measure.{Measure}
use Rattle.soup.specs.declared.range.Range.{Range}
use Rattle.soup.specs.Limits.{largest_coordinate}
use Rattle.soup.specs.Placement.{least, greatest, extent}

-- the range of the vertices along an axis, within the limit
pub record IsRangeOf (axis : ℕ) (vs : List (List ℤ)) (r : Range) : Type 0 where
  pub least_is : r.least ≡ least axis vs
  pub greatest_is : r.greatest ≡ greatest axis vs
  pub least_in : IsWithin largest_coordinate r.least

-- the ranges of the vertices, and the extent
pub record IsMeasureOf (raw : Raw) (m : Measure) : Type 0 where
  pub x : IsRangeOf 0 raw.vertices m.x
  pub y : IsRangeOf 1 raw.vertices m.y
  pub z : IsRangeOf 2 raw.vertices m.z
  pub extent_is : m.extent ≡ extent raw
  pub extent_few : m.extent ≤ 2 * largest_coordinate
