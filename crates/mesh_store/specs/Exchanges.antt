-- The step that all local operations share: slots are killed, tetrahedra are made, tracked faces are taken out and others are put in.
use Rattle.std.specs.Prelude.{◌≡◌, ℕ, ◌<◌, Bool, true, false, not, ◌&&◌, ◌||◌, Some, List, [], ◌∷◌, ◌++◌, length, map}
use Rattle.std.specs.List.{filter, list_any}
use Rattle.grid.specs.Simplices.{has, replaced, reversed, rising, same_triple}
use Rattle.mesh_types.specs.Results.{has_face}
use Rattle.tet_slots.specs.declared.slot.Slot.{Slot}
use Rattle.tet_slots.specs.Slots.{slot_at, with_live}
use Rattle.tracked.specs.Keys.{Keys, state_of, put, is_in}
use Rattle.mesh_store.specs.Parts.{Parts, live_slot, live_tets, tracked_in}
use Rattle.mesh_store.specs.Changes.{face_of, face_put, all_put, killed_if, tets_made}

-- ---- the steps
-- these slots are killed, one after another
abbrev pub all_killed : List ℕ → List Slot → List Slot
all_killed [] slots = slots
all_killed (i ∷ is) slots = all_killed is (with_live false i slots)

-- each of them is there and live in its turn
abbrev pub CanKill : List ℕ → List Slot → Type 0
CanKill [] slots = Unit {0}
CanKill (i ∷ is) slots = (i < length slots) × ((slot_at slots i).live ≡ true) × CanKill is (with_live false i slots)

abbrev pub slots_killed : List ℕ → Parts → Parts
slots_killed gone m = record m { slots = all_killed gone m.slots }

-- these triples are taken out, one after another
abbrev pub all_taken : List (List ℕ) → Parts → Parts
all_taken [] m = m
all_taken (t ∷ ts) m = all_taken ts (face_put (face_of t) false m)

-- each of them is in, in its turn
abbrev pub CanTake : List (List ℕ) → Keys → Type 0
CanTake [] keys = Unit {0}
CanTake (t ∷ ts) keys = (state_of (face_of t) keys ≡ Some true) × CanTake ts (put (face_of t) false keys)

-- slots are killed, tetrahedra are made after the last, triples are taken out and then others are put in
abbrev pub exchanged : (gone : List ℕ) → (fresh out into : List (List ℕ)) → Parts → Parts
exchanged gone fresh out into m = all_put into (all_taken out (tets_made fresh (slots_killed gone m)))

-- ---- a point in place of another
-- the tetrahedra that have u and not v, with v in place of u
abbrev pub moved_tets : ℕ → ℕ → List (List ℕ) → List (List ℕ)
moved_tets u v tets = map (replaced u v) (filter (λ x. has x u && not (has x v)) tets)

-- the triples that have not both, with v in place of u
abbrev pub moved_triples : ℕ → ℕ → List (List ℕ) → List (List ℕ)
moved_triples u v triples = map (λ t. rising (replaced u v t)) (filter (λ t. not (has t u && has t v)) triples)

-- v stands in place of u in the tetrahedra and the tracked triples that have u, and those that have both are gone
pub record IsMoved (u v : ℕ) (old new : Parts) : Type 0 where
  pub points : new.points ≡ old.points
  pub slots : new.slots ≡ map (killed_if (λ x. has x u)) old.slots ++ map live_slot (moved_tets u v (live_tets old.slots))
  pub faces : (t : List ℕ) → is_in (face_of t) new.keys ≡ list_any (same_triple t) (moved_triples u v (tracked_in old.keys))

-- ---- the lists of a change
-- the tetrahedron of a slot
abbrev pub tet_in : List Slot → ℕ → List ℕ
tet_in slots i = (slot_at slots i).tet.0

-- those that have not v, with v in place of u
abbrev pub put_in : ℕ → ℕ → List (List ℕ) → List (List ℕ)
put_in u v xs = map (replaced u v) (filter (λ x. not (has x v)) xs)

-- those that have u
abbrev pub at_corner : ℕ → List (List ℕ) → List (List ℕ)
at_corner u xs = filter (λ x. has x u) xs

-- x has the face, in either orientation
abbrev pub has_either : List ℕ → List ℕ → Bool
has_either f x = has_face f x || has_face (reversed f) x
