-- The bounding box of a triangle.
use Rattle.std.specs.Prelude.{Bool, ◌&&◌, ℤ, int_le, ◌≤ℤ◌, List, map, All}
use Rattle.std.specs.List.{list_any, Contains}
use Rattle.grid.specs.declared.shapes.Point.{Point}

-- the least and the greatest of the numbers
pub record AreEnds (lo hi : ℤ) (values : List ℤ) : Type 0 where
  pub lo_among : Contains values lo
  pub hi_among : Contains values hi
  pub lo_least : All (λ v. lo ≤ℤ v) values
  pub hi_greatest : All (λ v. v ≤ℤ hi) values

-- the box from lo to hi is the bounding box of the points
pub record AreBounds (lo hi : Point) (ps : List Point) : Type 0 where
  pub x_ends : AreEnds lo.x hi.x (map (λ p. p.x) ps)
  pub y_ends : AreEnds lo.y hi.y (map (λ p. p.y) ps)
  pub z_ends : AreEnds lo.z hi.z (map (λ p. p.z) ps)

-- some point has a coordinate of at most hi, and some one of at least lo
abbrev pub overlaps : (Point → ℤ) → ℤ → ℤ → List Point → Bool
overlaps f lo hi ps = list_any (λ p. int_le (f p) hi) ps && list_any (λ p. int_le lo (f p)) ps

-- the bounding box of the points meets the box from lo to hi
abbrev pub is_met : Point → Point → List Point → Bool
is_met lo hi ps = overlaps (λ p. p.x) lo.x hi.x ps && overlaps (λ p. p.y) lo.y hi.y ps && overlaps (λ p. p.z) lo.z hi.z ps
