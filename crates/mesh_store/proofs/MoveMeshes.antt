-- What shifts and collapses make of the mesh.
use Rattle.std.proofs.Common.{◌≡◌, ℕ, ℤ, ◌+◌, ◌<◌, ◌≤◌, Bool, true, false, ◌&&◌, not, List, [], ◌∷◌, ◌++◌, map, filter, length, take, refl, sym, ◌∙◌, ap, inl, inr, arith, append-nil, length-append}
use Rattle.std.specs.List.{AllByRecursion as Each}
use Rattle.std.proofs.lemmas.Bool.{cases_Bool, false_from_ne_true}
use Rattle.std.proofs.lemmas.List.{length-map, length_push, take_at}
use Rattle.std.proofs.lemmas.List.Elements.{recursion_from_All}
use Rattle.grid.specs.declared.shapes.Point.{Point}
use Rattle.grid.specs.Meshes.{IsTriple, IsWithinLimits}
use Rattle.grid.specs.Simplices.{IsTet, has, replaced, rising}
use Rattle.grid.specs.Views.{triples_of}
use Rattle.grid.specs.Limits.{most_points, most_made}
use Rattle.mesh_types.specs.Results.{shift, collapse}
use Rattle.mesh_types.specs.Tracking.{in_order_once}
use Rattle.grid.proofs.ForCallers.{Each-weaker}
use Rattle.mesh_types.proofs.ForCallers.{ordered_same, in_order_once-Ordered, is_among-in_order_once, below_each}
use Rattle.tet_slots.specs.declared.slot.Slot.{Slot}
use Rattle.tet_slots.proofs.ForCallers.{IsTet-unused}
use Rattle.tracked.specs.Keys.{faces_in}
use Rattle.mesh_store.specs.Parts.{Parts, live_slot, live_tets, tracked_in, mesh_in}
use Rattle.mesh_store.specs.Sound.{IsSoundStore}
use Rattle.mesh_store.specs.Changes.{IsGrown, point_made, killed_if}
use Rattle.mesh_store.specs.Exchanges.{IsMoved, moved_tets, moved_triples}
use Rattle.mesh_store.proofs.KeySets.{tracked-triples}
use Rattle.mesh_store.proofs.MeshLemmas.{live-tets}
use Rattle.mesh_store.proofs.Exchanged.{is_in-tracked}
use Rattle.mesh_store.proofs.LiveSlots.{live-append, live-made, live-killed}

-- ---- tests that agree
pub filter-same : (p q : List ℕ → Bool) (xs : List (List ℕ)) → Each (λ x. p x ≡ q x) xs → filter p xs ≡ filter q xs
filter-same p q [] h = refl
filter-same p q (x ∷ xs) h = elim (cases_Bool (q x)) [
  | inl e ↦ rw (h.0 ∙ e, e) (ap (λ (ys : List (List ℕ)). x ∷ ys) (filter-same p q xs h.1))
  | inr e ↦ rw (h.0 ∙ e, e) (filter-same p q xs h.1)
]

filter-all : (p : List ℕ → Bool) (xs : List (List ℕ)) → Each (λ x. p x ≡ true) xs → filter p xs ≡ xs
filter-all p [] h = refl
filter-all p (x ∷ xs) h = rw h.0 (ap (λ (ys : List (List ℕ)). x ∷ ys) (filter-all p xs h.1))

-- ---- any point in place of another
pub live-moved : (u v : ℕ) (old new : Parts) → IsMoved u v old new → live_tets new.slots ≡ filter (λ x. not (has x u)) (live_tets old.slots) ++ moved_tets u v (live_tets old.slots)
live-moved u v old new r =
    ap live_tets r.slots
    ∙ (live-append (map (killed_if (λ x. has x u)) old.slots) (map live_slot (moved_tets u v (live_tets old.slots)))
    ∙ (ap (λ (xs : List (List ℕ)). xs ++ live_tets (map live_slot (moved_tets u v (live_tets old.slots)))) (live-killed (λ x. has x u) old.slots)
    ∙ ap (λ (xs : List (List ℕ)). filter (λ x. not (has x u)) (live_tets old.slots) ++ xs) (live-made (moved_tets u v (live_tets old.slots)))))

pub tracked-moved : (side : ℤ) (u v : ℕ) (old new : Parts) → IsSoundStore side new → IsMoved u v old new → tracked_in new.keys ≡ in_order_once (moved_triples u v (tracked_in old.keys))
tracked-moved side u v old new sound r =
    ordered_same (tracked_in new.keys) (in_order_once (moved_triples u v (tracked_in old.keys))) (in_order_once-Ordered (triples_of (faces_in new.keys))) (in_order_once-Ordered (moved_triples u v (tracked_in old.keys)))
    (λ t. sym (is_in-tracked side new sound t) ∙ (r.faces t ∙ sym (is_among-in_order_once t (moved_triples u v (tracked_in old.keys)))))

pub made-moved : (u v : ℕ) (old new : Parts) → IsMoved u v old new → length new.slots ≡ length old.slots + length (moved_tets u v (live_tets old.slots))
made-moved u v old new r =
    omega (arith, ap length r.slots, length-append (map (killed_if (λ x. has x u)) old.slots) (map live_slot (moved_tets u v (live_tets old.slots))), length-map old.slots (killed_if (λ x. has x u)), length-map (moved_tets u v (live_tets old.slots)) live_slot)

-- ---- collapses
pub mesh-collapsed : (side : ℤ) (u v : ℕ) (old new : Parts) → IsSoundStore side new → IsMoved u v old new → mesh_in new ≡ (collapse (mesh_in old) u v).mesh
unfolding collapse
mesh-collapsed side u v old new sound r = λ i. record {
  points = (r.points ∙ sym (append-nil old.points)) i;
  tets = live-moved u v old new r i;
  tracked = tracked-moved side u v old new sound r i;
  made = made-moved u v old new r i;
}

pub beyond-collapsed : (u v : ℕ) (m : Parts) → most_made < length m.slots + length (moved_tets u v (live_tets m.slots)) → IsWithinLimits (collapse (mesh_in m) u v).mesh → ⊥
unfolding collapse
beyond-collapsed u v m h w = let few = w.made_few in absurd (omega (arith, h, few))

-- ---- shifts
module _ (side : ℤ) (u : ℕ) (at : Point) (old : Parts) (before : IsSoundStore side old) where
  abbrev k : ℕ
  k = length old.points

  tets-lack : Each (λ x. (has x u && not (has x k)) ≡ has x u) (live_tets old.slots)
  tets-lack = Each-weaker (IsTet k) (λ x. (has x u && not (has x k)) ≡ has x u) (λ x t. ap (λ (b : Bool). has x u && not b) (IsTet-unused k x t) ∙ and_true (has x u)) (live_tets old.slots) (live-tets k old.slots (recursion_from_All (λ (s : Slot). IsTet k s.tet.0) old.slots before.tets_are))
    where
      and_true : (b : Bool) → (b && true) ≡ b
      and_true true = refl
      and_true false = refl

  triples-lack : Each (λ t. not (has t u && has t k) ≡ true) (tracked_in old.keys)
  triples-lack = Each-weaker (IsTriple k) (λ t. not (has t u && has t k) ≡ true) (λ t r. ap (λ (b : Bool). not (has t u && b)) (lacks t r) ∙ and_false (has t u)) (tracked_in old.keys) (tracked-triples k old.keys before.triples_are)
    where
      never : (n : ℕ) → n < n → ⊥
      never n h = omega arith

      lacks : (t : List ℕ) → IsTriple k t → has t k ≡ false
      lacks t r = false_from_ne_true (has t k) (λ e. never k (below_each k t (recursion_from_All (λ c. c < k) t r.in_range) k e))

      and_false : (b : Bool) → not (b && false) ≡ true
      and_false true = refl
      and_false false = refl

  pub tets-shifted : moved_tets u k (live_tets old.slots) ≡ map (replaced u k) (filter (λ x. has x u) (live_tets old.slots))
  tets-shifted = ap (map (replaced u k)) (filter-same (λ x. has x u && not (has x k)) (λ x. has x u) (live_tets old.slots) tets-lack)

  triples-shifted : moved_triples u k (tracked_in old.keys) ≡ map (λ t. rising (replaced u k t)) (tracked_in old.keys)
  triples-shifted = ap (map (λ t. rising (replaced u k t))) (filter-all (λ t. not (has t u && has t k)) (tracked_in old.keys) triples-lack)

  pub mesh-shifted : (new : Parts) → IsSoundStore side new → IsMoved u k (point_made at old) new → mesh_in new ≡ (shift (mesh_in old) u at).mesh
  unfolding shift
  mesh-shifted new sound r = λ i. record {
    points = r.points i;
    tets = (live-moved u k (point_made at old) new r ∙ ap (λ (xs : List (List ℕ)). filter (λ x. not (has x u)) (live_tets old.slots) ++ xs) tets-shifted) i;
    tracked = (tracked-moved side u k (point_made at old) new sound r ∙ ap in_order_once triples-shifted) i;
    made = (made-moved u k (point_made at old) new r ∙ ap (λ (xs : List (List ℕ)). length old.slots + length xs) tets-shifted) i;
  }

  pub beyond-point : most_points ≤ k → IsWithinLimits (shift (mesh_in old) u at).mesh → ⊥
  unfolding shift
  beyond-point h w = let few = w.points_few in absurd (omega (arith, h, few, length_push old.points at))

  pub beyond-shifted : most_made < length old.slots + length (moved_tets u k (live_tets old.slots)) → IsWithinLimits (shift (mesh_in old) u at).mesh → ⊥
  unfolding shift
  beyond-shifted h w = let few = w.made_few in absurd (omega (arith, h, few, ap length tets-shifted))

pub grown-made : (at : Point) (old new : Parts) → new.points ≡ old.points ++ at ∷ [] → IsGrown (point_made at old) new → IsGrown old new
grown-made at old new e g = record {
  points = ap (take (length old.points)) e ∙ take_at old.points (at ∷ []) (length old.points) refl;
  longer = g.longer;
  tets = g.tets;
  killed = g.killed;
}
