-- Refining as a step: what the step wants, and what it makes.
use Rattle.std.proofs.Common.{◌≡◌, ℕ, ℤ, ◌+◌, Bool, true, false, ◌||◌, not, ◌&&◌, List, [], ◌∷◌, ◌++◌, map, filter, length, refl, sym, ◌∙◌, ap, subst, All}
use Rattle.std.specs.List.{flat_map, AllByRecursion as Each}
use Rattle.std.proofs.lemmas.List.Elements.{All-from_recursion, recursion_from_All}
use Rattle.std.proofs.lemmas.List.Folds.{list_any-append}
use mathlib.Core.Bool.{or_assoc}
use Rattle.grid.specs.declared.shapes.Face.{Face}
use Rattle.grid.specs.Meshes.{IsTriple}
use Rattle.grid.specs.Simplices.{IsTet, rising, same_triple}
use Rattle.grid.specs.Views.{triples_of}
use Rattle.mesh_types.specs.declared.cut.Cut.{Cut}
use Rattle.mesh_types.specs.CutLists.{AreCuts}
use Rattle.mesh_types.specs.Refines.{sub_all, is_touched}
use Rattle.grid.proofs.ForCallers.{Each-both, Each-of_flat_map}
use Rattle.mesh_types.proofs.ForCallers.{Each-filter, Each-passed, is_among, in_order_once-Ordered}
use Rattle.tet_slots.specs.declared.slot.Slot.{Slot}
use Rattle.tet_slots.specs.Searches.{numbers_of}
use Rattle.tracked.specs.Keys.{faces_in}
use Rattle.mesh_store.specs.Parts.{Parts, live_slot, live_tets, tracked_in}
use Rattle.mesh_store.specs.Sound.{IsSoundStore}
use Rattle.mesh_store.specs.Changes.{is_split, IsSplit, slot_pieces, triple_pieces, killed_if}
use Rattle.mesh_store.specs.Exchanges.{all_killed, CanKill, CanTake, exchanged, tet_in}
use Rattle.mesh_store.proofs.Exchanged.{exchanged-in, tracked-in}
use Rattle.mesh_store.proofs.FacePieces.{pieces-append, whole}
use Rattle.mesh_store.proofs.KeySets.{tracked-triples}
use Rattle.mesh_store.proofs.Killing.{CanKill-numbers, all_killed-numbers, tets-numbers, exchanged-points, exchanged-slots}
use Rattle.mesh_store.proofs.MeshLemmas.{live-tets}
use Rattle.mesh_store.proofs.Moves.{CanTake-filter, among-filter, left-over}
use Rattle.mesh_store.proofs.PieceLemmas.{numbered-IsTet, numbered-IsTriple, All-unmap}

-- ---- the triples after it
module _ (cuts : List Cut) (k : ℕ) (x : List ℕ) where
  abbrev split : List (List ℕ) → Bool
  split ts = is_among x (triple_pieces cuts k (filter (is_touched cuts) ts))

  abbrev others : List (List ℕ) → Bool
  others ts = is_among x (filter (λ t. not (is_touched cuts t)) ts)

  among-first : (t : List ℕ) (ts : List (List ℕ)) → is_among x (triple_pieces cuts k (t ∷ ts)) ≡ (is_among x (triple_pieces cuts k (t ∷ [])) || is_among x (triple_pieces cuts k ts))
  among-first t ts = ap (is_among x) (pieces-append cuts k (t ∷ []) ts) ∙ list_any-append (same_triple x) (triple_pieces cuts k (t ∷ [])) (triple_pieces cuts k ts)

  pieces-at : (t : List ℕ) (ts : List (List ℕ)) (b : Bool) → is_touched cuts t ≡ b → IsTriple k t → is_among x (triple_pieces cuts k ts) ≡ (split ts || others ts) → is_among x (triple_pieces cuts k (t ∷ ts)) ≡ (split (t ∷ ts) || others (t ∷ ts))
  pieces-at t ts true e r h =
      among-first t ts
      ∙ (ap (λ (b : Bool). is_among x (triple_pieces cuts k (t ∷ [])) || b) h
      ∙ (sym (or_assoc (is_among x (triple_pieces cuts k (t ∷ []))) (split ts) (others ts))
      ∙ (ap (λ (b : Bool). b || others ts) (sym (among-first t (filter (is_touched cuts) ts))) ∙ rw e refl)))
  pieces-at t ts false e r h =
      among-first t ts
      ∙ (ap (λ (b : Bool). is_among x (triple_pieces cuts k (t ∷ [])) || b) h
      ∙ (ap (λ (ys : List (List ℕ)). is_among x ys || (split ts || others ts)) (whole cuts k t r e)
      ∙ (one (same_triple x t) (split ts) (others ts) ∙ rw e refl)))
    where
      one : (e a b : Bool) → ((e || false) || (a || b)) ≡ (a || (e || b))
      one true true b = refl
      one true false b = refl
      one false a b = refl

  among-pieces : (ts : List (List ℕ)) → Each (IsTriple k) ts → is_among x (triple_pieces cuts k ts) ≡ (split ts || others ts)
  among-pieces [] h = refl
  among-pieces (t ∷ ts) h = pieces-at t ts (is_touched cuts t) refl h.0 (among-pieces ts h.1)

  -- the triples that were there and not taken out, and those that were put in
  pub among-split : (ts : List (List ℕ)) → Each (IsTriple k) ts → (split ts || (is_among x ts && not (is_among x (filter (is_touched cuts) ts)))) ≡ is_among x (triple_pieces cuts k ts)
  among-split ts h =
      ap (λ (b : Bool). split ts || (is_among x ts && not b)) (among-filter (is_touched cuts) x ts)
      ∙ (ap (λ (b : Bool). split ts || b) (left-over (is_among x ts) (is_touched cuts x) ∙ sym (among-filter (λ t. not (is_touched cuts t)) x ts)) ∙ sym (among-pieces ts h))

-- ---- the lists of the change
pub record IsPlannedSplit (cuts : List Cut) (k : ℕ) (old : Parts) (gone : List ℕ) (fresh out into : List (List ℕ)) : Type 0 where
  pub gone_are : gone ≡ numbers_of (is_split cuts) 0 old.slots
  pub fresh_are : fresh ≡ flat_map (sub_all k cuts) (map (tet_in old.slots) gone)
  pub out_are : out ≡ filter (is_touched cuts) (tracked_in old.keys)
  pub into_are : into ≡ map rising (flat_map (sub_all k cuts) out)

pub split-can_kill : (cuts : List Cut) (slots : List Slot) → CanKill (numbers_of (is_split cuts) 0 slots) slots
split-can_kill cuts slots = CanKill-numbers (is_split cuts) (is_touched cuts) (λ s. refl) [] slots

Each-mapped : {X Y : Type 0} (P : Y → Type 0) (f : X → Y) (xs : List X) → Each (λ x. P (f x)) xs → Each P (map f xs)
Each-mapped P f [] h = tt
Each-mapped P f (x ∷ xs) h = (h.0, Each-mapped P f xs h.1)

module _ (cuts : List Cut) (k : ℕ) (old : Parts) (gone : List ℕ) (fresh out into : List (List ℕ)) (p : IsPlannedSplit cuts k old gone fresh out into) where
  pub split-fresh : fresh ≡ slot_pieces cuts k old.slots
  split-fresh =
      p.fresh_are
      ∙ (ap (λ (is : List ℕ). flat_map (sub_all k cuts) (map (tet_in old.slots) is)) p.gone_are
      ∙ ap (flat_map (sub_all k cuts)) (tets-numbers (is_split cuts) (is_touched cuts) (λ s. refl) [] old.slots))

  into-all : into ≡ triple_pieces cuts k (filter (is_touched cuts) (tracked_in old.keys))
  into-all = p.into_are ∙ ap (λ (ts : List (List ℕ)). map rising (flat_map (sub_all k cuts) ts)) p.out_are

  module _ (numbered : k + length cuts ≡ length old.points) where
    pub split-corners : All (λ (s : Slot). IsTet k s.tet.0) old.slots → All (IsTet (length old.points)) fresh
    split-corners tets =
        let touched : List (List ℕ) = filter (is_touched cuts) (live_tets old.slots) in
        subst (All (IsTet (length old.points))) (sym split-fresh)
        (All-from_recursion (IsTet (length old.points)) (slot_pieces cuts k old.slots)
        (Each-of_flat_map (λ x. (is_touched cuts x ≡ true) × IsTet k x) (IsTet (length old.points)) (sub_all k cuts)
        (λ x h. recursion_from_All (IsTet (length old.points)) (sub_all k cuts x) (numbered-IsTet k (length old.points) cuts x numbered h.0 h.1)) touched
        (Each-both (λ x. is_touched cuts x ≡ true) (IsTet k) touched (Each-passed (is_touched cuts) (live_tets old.slots))
        (Each-filter (IsTet k) (is_touched cuts) (live_tets old.slots) (live-tets k old.slots (recursion_from_All (λ (s : Slot). IsTet k s.tet.0) old.slots tets))))))

    pub split-triples : AreCuts k cuts → All (λ (f : Face × Bool). IsTriple k f.0.0) old.keys → All (IsTriple (length old.points)) into
    split-triples are triples =
        let n = length old.points in
        let touched : List (List ℕ) = filter (is_touched cuts) (tracked_in old.keys) in
        subst (All (IsTriple n)) (sym into-all)
        (All-from_recursion (IsTriple n) (triple_pieces cuts k touched)
        (Each-mapped (IsTriple n) rising (flat_map (sub_all k cuts) touched)
        (Each-of_flat_map (IsTriple k) (λ t. IsTriple n (rising t)) (sub_all k cuts)
        (λ t h. recursion_from_All (λ y. IsTriple n (rising y)) (sub_all k cuts t) (All-unmap (IsTriple n) rising (sub_all k cuts t) (numbered-IsTriple k n cuts t numbered are h))) touched
        (Each-filter (IsTriple k) (is_touched cuts) (tracked_in old.keys) (tracked-triples k old.keys triples)))))

  module _ (side : ℤ) (sound : IsSoundStore side old) where
    pub split-can_take : CanTake out old.keys
    split-can_take =
        subst (λ (ts : List (List ℕ)). CanTake ts old.keys) (sym p.out_are)
        (CanTake-filter (is_touched cuts) (tracked_in old.keys) old.keys (in_order_once-Ordered (triples_of (faces_in old.keys))) (tracked-in side old sound))

    pub split-parts : All (λ (f : Face × Bool). IsTriple k f.0.0) old.keys → IsSplit cuts k old (exchanged gone fresh out into old)
    split-parts triples = record {
      points = exchanged-points gone fresh out into old;
      slots = exchanged-slots gone fresh out into old
          ∙ (ap (λ (is : List ℕ). all_killed is old.slots ++ map live_slot fresh) p.gone_are
          ∙ (ap (λ (ss : List Slot). ss ++ map live_slot fresh) (all_killed-numbers (is_split cuts) (is_touched cuts) (λ s. refl) [] old.slots)
          ∙ ap (λ (xs : List (List ℕ)). map (killed_if (is_touched cuts)) old.slots ++ map live_slot xs) split-fresh));
      faces = λ x. exchanged-in side old sound gone fresh out into x
          ∙ (ap (λ (ts : List (List ℕ)). is_among x ts || (is_among x (tracked_in old.keys) && not (is_among x out))) into-all
          ∙ (ap (λ (ts : List (List ℕ)). is_among x (triple_pieces cuts k (filter (is_touched cuts) (tracked_in old.keys))) || (is_among x (tracked_in old.keys) && not (is_among x ts))) p.out_are
          ∙ among-split cuts k x (tracked_in old.keys) (tracked-triples k old.keys triples)));
    }
