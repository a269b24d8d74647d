-- What is counted among the tetrahedra at a point is counted among all.
use Rattle.std.proofs.Common.{◌≡◌, ℕ, ◌+◌, Bool, true, false, ◌&&◌, cond, List, [], ◌∷◌, map, count_by, refl, sym, ap, ◌∙◌, inl, inr, arith}
use Rattle.std.specs.List.{flat_map, filter}
use Rattle.std.proofs.lemmas.Bool.{cases_Bool, and_parts, true≢false}
use Rattle.std.proofs.lemmas.List.Sums.{sum_by-append}
use Rattle.grid.specs.Simplices.{has, faces, count, is_rotation}
use Rattle.grid.proofs.ForCallers.{count_by-cons_yes, count_by-cons_no}
use Rattle.tet_slots.specs.declared.slot.Slot.{Slot}
use Rattle.tet_slots.specs.Searches.{numbers_of, has_corner}
use Rattle.tet_slots.specs.Slots.{slot_at}
use Rattle.mesh_store.specs.Parts.{live_tets}
use Rattle.mesh_store.proofs.ForCallers.{tets-numbers}
use Rattle.mesh_types.specs.Tries.{tets_at_point, tets_at_edge}
use Rattle.mesh_types.proofs.ForCallers.{no-face}

-- ---- counts over what a weaker test leaves
kept-by : {X : Type 0} (p q : X → Bool) (x : X) (xs ys : List X) → (p x ≡ true → q x ≡ true) → count_by p ys ≡ count_by p xs → (b : Bool) → q x ≡ b → count_by p (cond b (x ∷ ys) ys) ≡ count_by p (x ∷ xs)
kept-by p q x xs ys h r true e = elim (cases_Bool (p x)) [
  | inl f ↦ count_by-cons_yes p x ys f ∙ (ap (λ n. 1 + n) r ∙ sym (count_by-cons_yes p x xs f))
  | inr f ↦ count_by-cons_no p x ys f ∙ (ap (λ n. 0 + n) r ∙ sym (count_by-cons_no p x xs f))
]
kept-by p q x xs ys h r false e = elim (cases_Bool (p x)) [
  | inl f ↦ absurd (true≢false (sym (h f) ∙ e))
  | inr f ↦ omega (arith, r, count_by-cons_no p x xs f)
]

pub count-filter : {X : Type 0} (p q : X → Bool) (xs : List X) → ((x : X) → p x ≡ true → q x ≡ true) → count_by p (filter q xs) ≡ count_by p xs
count-filter p q [] h = refl
count-filter p q (x ∷ xs) h = kept-by p q x xs (filter q xs) (h x) (count-filter p q xs h) (q x) refl

flat-by : {X Y : Type 0} (f : X → List Y) (r : Y → Bool) (x : X) (xs ys : List X) → (b : Bool) → (b ≡ false → count_by r (f x) ≡ 0) → count_by r (flat_map f ys) ≡ count_by r (flat_map f xs) → count_by r (flat_map f (cond b (x ∷ ys) ys)) ≡ count_by r (flat_map f (x ∷ xs))
flat-by f r x xs ys true z e = omega (arith, e, sum_by-append (λ y. cond (r y) 1 0) (f x) (flat_map f ys), sum_by-append (λ y. cond (r y) 1 0) (f x) (flat_map f xs))
flat-by f r x xs ys false z e = omega (arith, e, z refl, sum_by-append (λ y. cond (r y) 1 0) (f x) (flat_map f xs))

pub count-flat_filter : {X Y : Type 0} (f : X → List Y) (r : Y → Bool) (q : X → Bool) (xs : List X) → ((x : X) → q x ≡ false → count_by r (f x) ≡ 0) → count_by r (flat_map f (filter q xs)) ≡ count_by r (flat_map f xs)
count-flat_filter f r q [] h = refl
count-flat_filter f r q (x ∷ xs) h = flat-by f r x xs (filter q xs) (q x) (h x) (count-flat_filter f r q xs h)

-- ---- counts over the tetrahedra that have u
pub star-count : (f : List ℕ) (u : ℕ) (tets : List (List ℕ)) → has f u ≡ true → count f (filter (λ x. has x u) tets) ≡ count f tets
star-count f u tets h = count-flat_filter faces (λ g. is_rotation f g) (λ x. has x u) tets (no-face f u h)

pub star-edge : (u v : ℕ) (tets : List (List ℕ)) → tets_at_edge (filter (λ x. has x u) tets) u v ≡ tets_at_edge tets u v
star-edge u v tets = count-filter (λ x. has x u && has x v) (λ x. has x u) tets (λ x e. (and_parts (has x u) (has x v) e).0)

pub star-point : (u : ℕ) (tets : List (List ℕ)) → tets_at_point (filter (λ x. has x u) tets) u ≡ tets_at_point tets u
star-point u tets = count-filter (λ x. has x u) (λ x. has x u) tets (λ x e. e)

-- ---- the slots that are listed at u
module _ (slots : List Slot) where
  -- the tetrahedra of the live slots of a list
  abbrev pub tets_among : List ℕ → List (List ℕ)
  tets_among list = live_tets (map (slot_at slots) list)

  tets-live : (list : List ℕ) → tets_among list ≡ map (λ i. (slot_at slots i).tet.0) (filter (λ i. (slot_at slots i).live) list)
  tets-live [] = refl
  tets-live (i ∷ list) = by (slot_at slots i).live (tets-live list)
    where
      by : (l : Bool) → tets_among list ≡ map (λ i. (slot_at slots i).tet.0) (filter (λ i. (slot_at slots i).live) list) → cond l ((slot_at slots i).tet.0 ∷ tets_among list) (tets_among list) ≡ map (λ i. (slot_at slots i).tet.0) (cond l (i ∷ filter (λ i. (slot_at slots i).live) list) (filter (λ i. (slot_at slots i).live) list))
      by true h = ap (λ (ts : List (List ℕ)). (slot_at slots i).tet.0 ∷ ts) h
      by false h = h

  listed-tets : (u : ℕ) (list : List ℕ) → filter (λ i. (slot_at slots i).live) list ≡ numbers_of (has_corner u) 0 slots → tets_among list ≡ filter (λ x. has x u) (live_tets slots)
  listed-tets u list h = tets-live list ∙ (ap (map (λ i. (slot_at slots i).tet.0)) h ∙ tets-numbers (has_corner u) (λ x. has x u) (λ s. refl) [] slots)

  pub listed-edge : (u v : ℕ) (list : List ℕ) → filter (λ i. (slot_at slots i).live) list ≡ numbers_of (has_corner u) 0 slots → tets_at_edge (tets_among list) u v ≡ tets_at_edge (live_tets slots) u v
  listed-edge u v list h = ap (λ (ts : List (List ℕ)). tets_at_edge ts u v) (listed-tets u list h) ∙ star-edge u v (live_tets slots)

  pub listed-point : (u : ℕ) (list : List ℕ) → filter (λ i. (slot_at slots i).live) list ≡ numbers_of (has_corner u) 0 slots → tets_at_point (tets_among list) u ≡ tets_at_point (live_tets slots) u
  listed-point u list h = ap (λ (ts : List (List ℕ)). tets_at_point ts u) (listed-tets u list h) ∙ star-point u (live_tets slots)

  pub listed-face : (f : List ℕ) (u : ℕ) (list : List ℕ) → has f u ≡ true → filter (λ i. (slot_at slots i).live) list ≡ numbers_of (has_corner u) 0 slots → count f (tets_among list) ≡ count f (live_tets slots)
  listed-face f u list g h = ap (count f) (listed-tets u list h) ∙ star-count f u (live_tets slots) g
