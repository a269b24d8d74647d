-- Extents, and the boxes that they meet.
use Rattle.std.proofs.Common.{◌≡◌, ℕ, ℤ, Bool, true, false, ◌&&◌, ◌||◌, int_le, List, map, length, get_or, pos, sym, ◌∙◌, ap, ap₂, arith}
use Rattle.std.specs.List.{list_any}
use Rattle.std.proofs.lemmas.Bool.{and_right, and_from}
use Rattle.std.proofs.lemmas.Int.{ints}
use Rattle.std.proofs.lemmas.List.Folds.{list_any_at}
use mathlib.Core.Bool.{or-false}
use Rattle.grid.specs.declared.shapes.Point.{Point}
use Rattle.tet_slots.specs.declared.extents.Extent.{Extent}
use Rattle.tet_slots.specs.declared.extents.Extents.{Extents}
use Rattle.tet_slots.specs.declared.bins.Entry.{Entry}
use Rattle.tet_slots.specs.declared.slot.Slot.{Slot}
use Rattle.tet_slots.specs.Slots.{slot_at}
use Rattle.tet_slots.specs.Quests.{passes}
use Rattle.grid.specs.Determinants.{point_at}
use Rattle.tet_slots.specs.Extents.{IsExtent, IsEntryOf, AreExtents, meets_extent, meets_extents}
use Rattle.tet_slots.specs.Searches.{overlaps, meets_box}
use Rattle.tet_slots.specs.Places.{offset}
use Rattle.tet_slots.proofs.PlaceLemmas.{LieWithin, four-is, offset-mono}

-- a test of four values
any-four : (t : ℤ → Bool) (xs : List ℤ) → length xs ≡ 4 → (t (get_or xs 0 (pos 0)) || (t (get_or xs 1 (pos 0)) || (t (get_or xs 2 (pos 0)) || t (get_or xs 3 (pos 0))))) ≡ list_any t xs
any-four t xs four =
    let v : ℕ → Bool = λ i. t (get_or xs i (pos 0)) in
    ap (λ (b : Bool). v 0 || (v 1 || (v 2 || b))) (sym (or-false (v 3))) ∙ ap (list_any t) (sym (four-is xs four))

-- the extent of four values, from that of the last two on
pub IsExtent-four : (e : Extent) (xs : List ℤ) (l m h g : ℤ) → length xs ≡ 4
    → ((x : ℤ) → int_le l x ≡ (int_le (get_or xs 2 (pos 0)) x || int_le (get_or xs 3 (pos 0)) x)) → ((x : ℤ) → int_le m x ≡ (int_le (get_or xs 1 (pos 0)) x || int_le l x)) → ((x : ℤ) → int_le e.low x ≡ (int_le (get_or xs 0 (pos 0)) x || int_le m x))
    → ((x : ℤ) → int_le x h ≡ (int_le x (get_or xs 2 (pos 0)) || int_le x (get_or xs 3 (pos 0)))) → ((x : ℤ) → int_le x g ≡ (int_le x (get_or xs 1 (pos 0)) || int_le x h)) → ((x : ℤ) → int_le x e.high ≡ (int_le x (get_or xs 0 (pos 0)) || int_le x g))
    → IsExtent e xs
IsExtent-four e xs l m h g four p q r s t u =
    let v : ℕ → ℤ = λ i. get_or xs i (pos 0) in
    record {
      low = λ x. r x ∙ (ap (λ (b : Bool). int_le (v 0) x || b) (q x ∙ ap (λ (b : Bool). int_le (v 1) x || b) (p x)) ∙ any-four (λ v. int_le v x) xs four);
      high = λ x. u x ∙ (ap (λ (b : Bool). int_le x (v 0) || b) (t x ∙ ap (λ (b : Bool). int_le x (v 1) || b) (s x)) ∙ any-four (λ v. int_le x v) xs four);
    }

le-itself : (v : ℤ) → int_le v v ≡ true
le-itself v = grind (arith, ints)

-- coordinates lie within their extent
pub LieWithin-extent : (axis : Point → ℤ) (e : Extent) (ps : List Point) → IsExtent e (map axis ps) → LieWithin axis (offset e.low) (offset e.high) ps
LieWithin-extent axis e ps h = (
  λ k d l. let v = get_or (map axis ps) k d in offset-mono e.low v (h.low v ∙ list_any_at (λ w. int_le w v) (map axis ps) k d l (le-itself v)),
  λ k d l. let v = get_or (map axis ps) k d in offset-mono v e.high (h.high v ∙ list_any_at (λ w. int_le v w) (map axis ps) k d l (le-itself v)),
)

met-along : (lo hi : ℤ) (e : Extent) (values : List ℤ) → IsExtent e values → meets_extent lo hi e ≡ overlaps lo hi values
unfolding meets_extent overlaps
met-along lo hi e values h = ap₂ (λ (s t : Bool). int_le lo hi && (s && t)) (h.low hi) (h.high lo)

-- the bounding box answers for the points
pub meets_extents-is : (lo hi : Point) (e : Extents) (ps : List Point) → AreExtents e ps → meets_extents lo hi e ≡ meets_box lo hi ps
unfolding meets_extents meets_box
meets_extents-is lo hi e ps h =
    ap₂ (λ (s t : Bool). s && t) (ap₂ (λ (s t : Bool). s && t) (met-along lo.x hi.x e.x (map (λ p. p.x) ps) h.x_is) (met-along lo.y hi.y e.y (map (λ p. p.y) ps) h.y_is)) (met-along lo.z hi.z e.z (map (λ p. p.z) ps) h.z_is)

module _ (points : List Point) (slots : List Slot) (lo hi : Point) (e : Entry) (h : IsEntryOf points slots e) where
  -- whether an entry's slot passes, by the box of the entry
  passes-by_box : passes points slots lo hi e.slot ≡ ((slot_at slots e.slot).live && meets_extents lo hi e.extents)
  passes-by_box = ap (λ (t : Bool). (slot_at slots e.slot).live && t) (sym (meets_extents-is lo hi e.extents (map (point_at points) (slot_at slots e.slot).tet.0) h.box))

  pub passes-apart : meets_extents lo hi e.extents ≡ false → passes points slots lo hi e.slot ≡ false
  passes-apart apart = passes-by_box ∙ and_right (slot_at slots e.slot).live (meets_extents lo hi e.extents) apart

  pub passes-met : (slot_at slots e.slot).live ≡ true → meets_extents lo hi e.extents ≡ true → passes points slots lo hi e.slot ≡ true
  passes-met live met = passes-by_box ∙ and_from (slot_at slots e.slot).live (meets_extents lo hi e.extents) live met
