-- Bounding boxes, and whether they meet a box.
use Rattle.std.specs.Prelude.{◌≡◌, ◌<◌, ℤ, int_le, Bool, ◌&&◌, List, length, map}
use Rattle.std.specs.List.{list_any}
use Rattle.grid.specs.declared.shapes.Point.{Point}
use Rattle.grid.specs.Determinants.{point_at}
use Rattle.tet_slots.specs.declared.slot.Slot.{Slot}
use Rattle.tet_slots.specs.declared.extents.Extent.{Extent}
use Rattle.tet_slots.specs.declared.extents.Extents.{Extents}
use Rattle.tet_slots.specs.declared.bins.Entry.{Entry}
use Rattle.tet_slots.specs.Slots.{slot_at}

-- the extent is from the least to the greatest of the values
pub record IsExtent (e : Extent) (values : List ℤ) : Type 0 where
  pub low : (x : ℤ) → int_le e.low x ≡ list_any (λ v. int_le v x) values
  pub high : (x : ℤ) → int_le x e.high ≡ list_any (λ v. int_le x v) values

-- the box is the bounding box of the points
pub record AreExtents (e : Extents) (ps : List Point) : Type 0 where
  pub x_is : IsExtent e.x (map (λ p. p.x) ps)
  pub y_is : IsExtent e.y (map (λ p. p.y) ps)
  pub z_is : IsExtent e.z (map (λ p. p.z) ps)

-- some number from lo to hi is in the extent
unfoldable pub meets_extent : ℤ → ℤ → Extent → Bool
meets_extent lo hi e = int_le lo hi && (int_le e.low hi && int_le lo e.high)

-- the box meets the one from lo to hi, where touching counts
unfoldable pub meets_extents : Point → Point → Extents → Bool
meets_extents lo hi e = meets_extent lo.x hi.x e.x && meets_extent lo.y hi.y e.y && meets_extent lo.z hi.z e.z

-- the entry's slot is there, and the box is that of its tetrahedron
pub record IsEntryOf (points : List Point) (slots : List Slot) (e : Entry) : Type 0 where
  pub there : e.slot < length slots
  pub box : AreExtents e.extents (map (point_at points) (slot_at slots e.slot).tet.0)
