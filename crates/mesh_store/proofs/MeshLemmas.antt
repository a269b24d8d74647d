-- What refining and tracking make of the mesh.
use Rattle.std.proofs.Common.{◌≡◌, ℕ, ℤ, ◌+◌, ◌<◌, ◌≤◌, Bool, true, false, ◌||◌, cond, List, [], ◌∷◌, ◌++◌, map, length, take, refl, sym, ◌∙◌, ap, arith, length-append}
use Rattle.std.specs.List.{AllByRecursion as Each}
use Rattle.std.proofs.lemmas.List.{length-map, take_at}
use Rattle.std.proofs.lemmas.List.Elements.{All-from_recursion, recursion_from_All}
use Rattle.std.proofs.lemmas.List.Folds.{list_any-append}
use Rattle.grid.specs.Meshes.{IsTriple, IsWellFormed, IsWithinLimits}
use Rattle.grid.specs.Simplices.{IsTet, same_triple}
use Rattle.grid.specs.Views.{triples_of}
use Rattle.grid.specs.Limits.{most_points, most_made}
use Rattle.mesh_types.specs.declared.cut.Cut.{Cut}
use Rattle.mesh_types.specs.CutLists.{AreCuts}
use Rattle.mesh_types.specs.Refines.{in_order, refine}
use Rattle.mesh_types.specs.Tracking.{in_order_once, with_tracked}
use Rattle.mesh_types.proofs.ForCallers.{is_among, ordered_same, in_order_once-Ordered, is_among-in_order_once, is_among-in_order, refine-well_formed}
use Rattle.tet_slots.specs.declared.slot.Slot.{Slot}
use Rattle.tet_slots.specs.Slots.{slot_at}
use Rattle.tracked.specs.Keys.{faces_in}
use Rattle.tracked.proofs.ForCallers.{is_in-among}
use Rattle.mesh_store.specs.Parts.{Parts, live_tets, tracked_in, mesh_in}
use Rattle.mesh_store.specs.Sound.{IsSoundStore}
use Rattle.mesh_store.specs.Changes.{HasSameSlots, IsGrown, IsRefined, all_put, face_of, face_put, slots_split, triple_pieces}
use Rattle.mesh_store.proofs.KeySets.{is_in-all_put, tracked-triples}
use Rattle.mesh_store.proofs.PieceLemmas.{edges_of}
use Rattle.mesh_store.proofs.LiveSlots.{split-length, split-live, split-tet, split-killed}

-- ---- sound parts stand for a well-formed mesh
each-live : (n : ℕ) (x : List ℕ) (xs : List (List ℕ)) (b : Bool) → IsTet n x → Each (IsTet n) xs → Each (IsTet n) (cond b (x ∷ xs) xs)
each-live n x xs true h g = (h, g)
each-live n x xs false h g = g

pub live-tets : (n : ℕ) (slots : List Slot) → Each (λ (s : Slot). IsTet n s.tet.0) slots → Each (IsTet n) (live_tets slots)
live-tets n [] h = tt
live-tets n (s ∷ slots) h = each-live n s.tet.0 (live_tets slots) s.live h.0 (live-tets n slots h.1)

few-live : (n : ℕ) (x : List ℕ) (xs : List (List ℕ)) (b : Bool) → length xs ≤ n → length (cond b (x ∷ xs) xs) ≤ n + 1
few-live n x xs true h = omega arith
few-live n x xs false h = omega arith

live-few : (slots : List Slot) → length (live_tets slots) ≤ length slots
live-few [] = omega arith
live-few (s ∷ slots) = let more = few-live (length slots) s.tet.0 (live_tets slots) s.live (live-few slots) in omega arith

pub well_formed : (side : ℤ) (m : Parts) → IsSoundStore side m → IsWellFormed (mesh_in m)
well_formed side m h = record {
  tets_are = All-from_recursion (IsTet (length m.points)) (live_tets m.slots) (live-tets (length m.points) m.slots (recursion_from_All (λ (s : Slot). IsTet (length m.points) s.tet.0) m.slots h.tets_are));
  triples_are = All-from_recursion (IsTriple (length m.points)) (tracked_in m.keys) (tracked-triples (length m.points) m.keys h.triples_are);
  ordered = in_order_once-Ordered (triples_of (faces_in m.keys));
  made_is = live-few m.slots;
}

pub within : (side : ℤ) (m : Parts) → IsSoundStore side m → IsWithinLimits (mesh_in m)
within side m h = record { points_few = h.points_few; made_few = h.slots_few }

-- ---- refining
tracked-refined : (side : ℤ) (cuts : List Cut) (old new : Parts) → AreCuts (length old.points) cuts → IsSoundStore side old → IsSoundStore side new → IsRefined cuts old new → tracked_in new.keys ≡ (refine (mesh_in old) cuts).tracked
unfolding refine
tracked-refined side cuts old new are before after r =
    let well : IsWellFormed (refine (mesh_in old) cuts) = refine-well_formed (mesh_in old) cuts (edges_of (length old.points) cuts are) (well_formed side old before) in
    ordered_same (tracked_in new.keys) (in_order (triple_pieces cuts (length old.points) (tracked_in old.keys))) (in_order_once-Ordered (triples_of (faces_in new.keys))) well.ordered (λ t.
    is_among-in_order_once t (triples_of (faces_in new.keys))
    ∙ (sym (is_in-among (face_of t) new.keys after.distinct) ∙ (r.faces t ∙ sym (is_among-in_order t (triple_pieces cuts (length old.points) (tracked_in old.keys))))))

pub mesh-refined : (side : ℤ) (cuts : List Cut) (old new : Parts) → AreCuts (length old.points) cuts → IsSoundStore side old → IsSoundStore side new → IsRefined cuts old new → mesh_in new ≡ refine (mesh_in old) cuts
unfolding refine
mesh-refined side cuts old new are before after r = λ i. record {
  points = r.points i;
  tets = (ap live_tets r.slots ∙ split-live cuts (length old.points) old.slots) i;
  tracked = tracked-refined side cuts old new are before after r i;
  made = (ap length r.slots ∙ split-length cuts (length old.points) old.slots) i;
}

pub grown-refined : (cuts : List Cut) (old new : Parts) → IsRefined cuts old new → IsGrown old new
grown-refined cuts old new r = record {
  points = ap (take (length old.points)) r.points ∙ take_at old.points (map (λ e. e.at) cuts) (length old.points) refl;
  longer = omega (arith, ap length r.slots, split-length cuts (length old.points) old.slots);
  tets = λ i h. ap (λ (ss : List Slot). (slot_at ss i).tet) r.slots ∙ split-tet cuts (length old.points) old.slots i h;
  killed = λ i h dead. ap (λ (ss : List Slot). (slot_at ss i).live) r.slots ∙ split-killed cuts (length old.points) old.slots i h dead;
}

-- ---- beyond the limits
pub beyond-points : (cuts : List Cut) (m : Parts) → most_points < length m.points + length cuts → IsWithinLimits (refine (mesh_in m) cuts) → ⊥
unfolding refine
beyond-points cuts m h w =
    let few = w.points_few in
    absurd (omega (arith, h, few, length-append m.points (map (λ (e : Cut). e.at) cuts), length-map cuts (λ (e : Cut). e.at)))

pub beyond-slots : (cuts : List Cut) (m : Parts) → most_made < length (slots_split cuts (length m.points) m.slots) → IsWithinLimits (refine (mesh_in m) cuts) → ⊥
unfolding refine
beyond-slots cuts m h w =
    let few = w.made_few in
    absurd (omega (arith, h, few, split-length cuts (length m.points) m.slots))

-- ---- tracking
pub all_put-same : (ts : List (List ℕ)) (m : Parts) → HasSameSlots m (all_put ts m)
all_put-same [] m = record { points = refl; slots = refl }
all_put-same (t ∷ ts) m = let rest = all_put-same ts (face_put (face_of t) true m) in record { points = rest.points; slots = rest.slots }

or_comm : (a b : Bool) → (a || b) ≡ (b || a)
or_comm true true = refl
or_comm true false = refl
or_comm false true = refl
or_comm false false = refl

pub mesh-tracked : (side : ℤ) (ts : List (List ℕ)) (old : Parts) → IsSoundStore side old → IsSoundStore side (all_put ts old) → mesh_in (all_put ts old) ≡ with_tracked (mesh_in old) ts
unfolding with_tracked
mesh-tracked side ts old before after =
    let same = all_put-same ts old in
    λ i. record {
      points = same.points i;
      tets = ap live_tets same.slots i;
      tracked = ordered_same (tracked_in (all_put ts old).keys) (in_order_once (tracked_in old.keys ++ ts)) (in_order_once-Ordered (triples_of (faces_in (all_put ts old).keys))) (in_order_once-Ordered (tracked_in old.keys ++ ts)) (λ t.
          is_among-in_order_once t (triples_of (faces_in (all_put ts old).keys))
          ∙ (sym (is_in-among (face_of t) (all_put ts old).keys after.distinct)
          ∙ (is_in-all_put t ts old
          ∙ (ap (λ (b : Bool). is_among t ts || b) (is_in-among (face_of t) old.keys before.distinct ∙ sym (is_among-in_order_once t (triples_of (faces_in old.keys))))
          ∙ (or_comm (is_among t ts) (is_among t (tracked_in old.keys))
          ∙ (sym (list_any-append (same_triple t) (tracked_in old.keys) ts) ∙ sym (is_among-in_order_once t (tracked_in old.keys ++ ts)))))))) i;
      made = ap length same.slots i;
    }
