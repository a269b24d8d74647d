-- Which faces are tracked after the step.
use Rattle.std.proofs.Common.{◌≡◌, ℕ, ℤ, ◌<◌, Bool, true, false, ◌&&◌, ◌||◌, not, List, [], ◌∷◌, length, refl, sym, ◌∙◌, ap, subst}
use Rattle.std.specs.List.{AllByRecursion as Each}
use Rattle.std.proofs.lemmas.Bool.{or_left, or_right}
use Rattle.grid.specs.Views.{triples_of}
use Rattle.grid.specs.Simplices.{same_triple}
use Rattle.mesh_types.proofs.ForCallers.{is_among, equal_to, is_among-in_order_once}
use Rattle.tet_slots.specs.declared.slot.Slot.{Slot}
use Rattle.tet_slots.specs.Slots.{with_live}
use Rattle.tet_slots.proofs.ForCallers.{killed-length}
use Rattle.tracked.specs.Keys.{is_in, faces_in}
use Rattle.tracked.proofs.ForCallers.{is_in-among}
use Rattle.mesh_store.specs.Parts.{Parts, tracked_in}
use Rattle.mesh_store.specs.Sound.{IsSoundStore}
use Rattle.mesh_store.specs.Changes.{face_of, tets_made}
use Rattle.mesh_store.specs.Exchanges.{CanKill, all_taken, exchanged, slots_killed}
use Rattle.mesh_store.proofs.KeySets.{is_in-all_put}
use Rattle.mesh_store.proofs.Moves.{is_in-all_taken}

-- the numbers of slots that can be killed are there
pub CanKill-there : (is : List ℕ) (slots : List Slot) → CanKill is slots → Each (λ i. i < length slots) is
CanKill-there [] slots h = tt
CanKill-there (i ∷ is) slots h = (h.0, subst (λ n. Each (λ j. j < n) is) (killed-length slots false i) (CanKill-there is (with_live false i slots) h.2))

-- the tracked triples are in
pub is_in-tracked : (side : ℤ) (m : Parts) → IsSoundStore side m → (x : List ℕ) → is_in (face_of x) m.keys ≡ is_among x (tracked_in m.keys)
is_in-tracked side m h x = is_in-among (face_of x) m.keys h.distinct ∙ sym (is_among-in_order_once x (triples_of (faces_in m.keys)))

pub tracked-in : (side : ℤ) (m : Parts) → IsSoundStore side m → Each (λ t. is_in (face_of t) m.keys ≡ true) (tracked_in m.keys)
tracked-in side m h = each-in (tracked_in m.keys) (λ t e. is_in-tracked side m h t ∙ e)
  where
    each-in : (ts : List (List ℕ)) → ((t : List ℕ) → is_among t ts ≡ true → is_in (face_of t) m.keys ≡ true) → Each (λ t. is_in (face_of t) m.keys ≡ true) ts
    each-in [] g = tt
    each-in (t ∷ ts) g = (g t (or_left (same_triple t t) (is_among t ts) (equal_to t t refl)), each-in ts (λ s e. g s (or_right (same_triple s t) (is_among s ts) e)))

-- the faces that were put in, and those that were in and not taken out
pub exchanged-in : (side : ℤ) (m : Parts) → IsSoundStore side m → (gone : List ℕ) (fresh out into : List (List ℕ)) (x : List ℕ)
    → is_in (face_of x) (exchanged gone fresh out into m).keys ≡ (is_among x into || (is_among x (tracked_in m.keys) && not (is_among x out)))
exchanged-in side m sound gone fresh out into x =
    let left : Parts = tets_made fresh (slots_killed gone m) in
    is_in-all_put x into (all_taken out left)
    ∙ ap (λ (b : Bool). is_among x into || b) (is_in-all_taken x out left ∙ ap (λ (b : Bool). b && not (is_among x out)) (is_in-tracked side m sound x))
