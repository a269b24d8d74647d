-- What the changes of a store keep and make.
use Rattle.std.specs.Prelude.{◌≡◌, ℕ, ◌<◌, ◌≤◌, Bool, true, false, not, ◌&&◌, List, [], ◌∷◌, ◌++◌, length, map, take}
use Rattle.std.specs.List.{flat_map, filter, list_any}
use Rattle.grid.specs.declared.shapes.Face.{Face}
use Rattle.grid.specs.declared.shapes.Point.{Point}
use Rattle.grid.specs.Simplices.{rising, same_triple}
use Rattle.mesh_types.specs.declared.cut.Cut.{Cut}
use Rattle.mesh_types.specs.Refines.{sub_all, is_touched}
use Rattle.tet_slots.specs.declared.slot.Slot.{Slot}
use Rattle.tet_slots.specs.Slots.{slot_at, with_live}
use Rattle.tracked.specs.Keys.{put, is_in}
use Rattle.mesh_store.specs.Parts.{Parts, StoreView, live_slot, live_tets, tracked_in}

-- the transaction goes on: what was there at its begin stays, and the side
pub record IsSameTransaction (old new : StoreView) : Type 0 where
  pub begin : new.at_begin ≡ old.at_begin
  pub side : new.side ≡ old.side

-- the points and the tetrahedra of the slots that were there stay; slots are only killed, and new ones are added after the last
pub record IsGrown (old new : Parts) : Type 0 where
  pub points : take (length old.points) new.points ≡ old.points
  pub longer : length old.slots ≤ length new.slots
  pub tets : (i : ℕ) → i < length old.slots → (slot_at new.slots i).tet ≡ (slot_at old.slots i).tet
  pub killed : (i : ℕ) → i < length old.slots → (slot_at old.slots i).live ≡ false → (slot_at new.slots i).live ≡ false

-- the slots that were added are live
pub record AddedAreLive (old new : Parts) : Type 0 where
  pub live : (i : ℕ) → length old.slots ≤ i → i < length new.slots → (slot_at new.slots i).live ≡ true

-- the points, the slots and their live flags stay
pub record HasSameSlots (old new : Parts) : Type 0 where
  pub points : new.points ≡ old.points
  pub slots : new.slots ≡ old.slots

-- ---- what the private steps make
abbrev pub with_parts : StoreView → Parts → StoreView
with_parts v m = record { parts = m; at_begin = v.at_begin; side = v.side }

abbrev pub point_made : Point → Parts → Parts
point_made p m = record m { points = m.points ++ p ∷ [] }

abbrev pub tet_made : List ℕ → Parts → Parts
tet_made x m = record m { slots = m.slots ++ live_slot x ∷ [] }

abbrev pub tets_made : List (List ℕ) → Parts → Parts
tets_made xs m = record m { slots = m.slots ++ map live_slot xs }

abbrev pub slot_killed : ℕ → Parts → Parts
slot_killed i m = record m { slots = with_live false i m.slots }

abbrev pub face_put : Face → Bool → Parts → Parts
face_put f b m = record m { keys = put f b m.keys }

-- the face of these corners
abbrev pub face_of : List ℕ → Face
face_of t = record { 0 = t }

-- the triples are put in, one after another
abbrev pub all_put : List (List ℕ) → Parts → Parts
all_put [] m = m
all_put (t ∷ ts) m = all_put ts (face_put (face_of t) true m)

-- the points of the cuts are made
abbrev pub points_made : List Cut → Parts → Parts
points_made cuts m = record m { points = m.points ++ map (λ e. e.at) cuts }

-- a live slot whose tetrahedron passes is killed
abbrev pub killed_if : (List ℕ → Bool) → Slot → Slot
killed_if passes s = record { tet = s.tet; live = s.live && not (passes s.tet.0) }

-- a live slot that a cut touches
abbrev pub is_split : List Cut → Slot → Bool
is_split cuts s = s.live && is_touched cuts s.tet.0

-- the pieces of the live slots that a cut touches, in order
abbrev pub slot_pieces : List Cut → ℕ → List Slot → List (List ℕ)
slot_pieces cuts k slots = flat_map (sub_all k cuts) (filter (is_touched cuts) (live_tets slots))

-- the touched slots are killed, and their pieces are made after the last
abbrev pub slots_split : List Cut → ℕ → List Slot → List Slot
slots_split cuts k slots = map (killed_if (is_touched cuts)) slots ++ map live_slot (slot_pieces cuts k slots)

-- the pieces of tracked triples
abbrev pub triple_pieces : List Cut → ℕ → List (List ℕ) → List (List ℕ)
triple_pieces cuts k triples = map rising (flat_map (sub_all k cuts) triples)

-- the slots and the tracked triples are split
pub record IsSplit (cuts : List Cut) (k : ℕ) (old new : Parts) : Type 0 where
  pub points : new.points ≡ old.points
  pub slots : new.slots ≡ slots_split cuts k old.slots
  pub faces : (t : List ℕ) → is_in (face_of t) new.keys ≡ list_any (same_triple t) (triple_pieces cuts k (tracked_in old.keys))

-- the points of the cuts are made, and the slots and the tracked triples are split
pub record IsRefined (cuts : List Cut) (old new : Parts) : Type 0 where
  pub points : new.points ≡ old.points ++ map (λ e. e.at) cuts
  pub slots : new.slots ≡ slots_split cuts (length old.points) old.slots
  pub faces : (t : List ℕ) → is_in (face_of t) new.keys ≡ list_any (same_triple t) (triple_pieces cuts (length old.points) (tracked_in old.keys))
