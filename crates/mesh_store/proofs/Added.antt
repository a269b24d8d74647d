-- Slots that a change adds are live.
use Rattle.std.proofs.Common.{◌≡◌, ℕ, zero, suc, ◌<◌, ◌≤◌, true, List, [], ◌∷◌, ◌++◌, map, length, ap, subst, refl, ◌∙◌, arith}
use Rattle.std.proofs.lemmas.List.{length-map}
use Rattle.tet_slots.specs.declared.slot.Slot.{Slot}
use Rattle.tet_slots.specs.Slots.{slot_at}
use Rattle.mesh_store.specs.Parts.{Parts, live_slot, live_tets}
use Rattle.mesh_store.specs.Changes.{AddedAreLive, IsRefined, killed_if, slot_pieces}
use Rattle.mesh_store.specs.Exchanges.{IsMoved, all_killed, exchanged, moved_tets}
use Rattle.grid.specs.Simplices.{has}
use Rattle.mesh_types.specs.declared.cut.Cut.{Cut}
use Rattle.mesh_types.specs.Refines.{is_touched}
use Rattle.mesh_store.proofs.Killing.{all_killed-length, exchanged-slots}

live-after : (kept : List Slot) (xs : List (List ℕ)) (i : ℕ) → length kept ≤ i → i < length (kept ++ map live_slot xs) → (slot_at (kept ++ map live_slot xs) i).live ≡ true
live-after [] [] i l h = absurd (omega (arith, h))
live-after [] (x ∷ xs) zero l h = refl
live-after [] (x ∷ xs) (suc i) l h = live-after [] xs i (omega arith) (omega (arith, h))
live-after (s ∷ kept) xs zero l h = absurd (omega (arith, l))
live-after (s ∷ kept) xs (suc i) l h = live-after kept xs i (omega (arith, l)) (omega (arith, h))

-- slots that were there, and then live ones
added-live : (old new : Parts) (kept : List Slot) (xs : List (List ℕ)) → length kept ≡ length old.slots → new.slots ≡ kept ++ map live_slot xs → AddedAreLive old new
added-live old new kept xs n e = record {
  live = λ i l h. ap (λ (ss : List Slot). (slot_at ss i).live) e ∙ live-after kept xs i (omega (arith, l, n)) (subst (λ (ss : List Slot). i < length ss) e h);
}

pub none-added : (m : Parts) → AddedAreLive m m
none-added m = record { live = λ i l h. absurd (omega (arith, l, h)) }

pub added-refined : (cuts : List Cut) (old new : Parts) → IsRefined cuts old new → AddedAreLive old new
added-refined cuts old new r =
    added-live old new (map (killed_if (is_touched cuts)) old.slots) (slot_pieces cuts (length old.points) old.slots) (length-map old.slots (killed_if (is_touched cuts))) r.slots

pub added-moved : (u v : ℕ) (old new : Parts) → IsMoved u v old new → AddedAreLive old new
added-moved u v old new r =
    added-live old new (map (killed_if (λ x. has x u)) old.slots) (moved_tets u v (live_tets old.slots)) (length-map old.slots (killed_if (λ x. has x u))) r.slots

pub added-exchanged : (gone : List ℕ) (fresh out into : List (List ℕ)) (m : Parts) → AddedAreLive m (exchanged gone fresh out into m)
added-exchanged gone fresh out into m =
    added-live m (exchanged gone fresh out into m) (all_killed gone m.slots) fresh (all_killed-length gone m.slots) (exchanged-slots gone fresh out into m)
