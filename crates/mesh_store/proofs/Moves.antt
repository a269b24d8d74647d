-- A point in place of another: what is taken out, what is put in, and what stays well formed.
use Rattle.std.proofs.Common.{◌≡◌, ℕ, ◌<◌, Bool, true, false, ◌&&◌, ◌||◌, not, cond, List, [], ◌∷◌, map, filter, refl, sym, ◌∙◌, ap, inl, inr}
use Rattle.std.specs.List.{AllByRecursion as Each}
use Rattle.std.proofs.lemmas.Bool.{cases_Bool, and_parts, not-true}
use mathlib.Core.Bool.{or_assoc}
use Rattle.grid.specs.Meshes.{IsTriple, Ordered, is_below}
use Rattle.grid.specs.Simplices.{IsTet, has, replaced, rising, same_triple}
use Rattle.mesh_types.proofs.ForCallers.{IsTet-from, replaced_none, cornered-put, triple-put, cornered_of, is_among, equal_from, triple_of, rising-IsTriple}
use Rattle.tracked.specs.Keys.{Keys, is_in, put}
use Rattle.mesh_store.specs.Parts.{Parts}
use Rattle.mesh_store.specs.Changes.{face_of, face_put}
use Rattle.mesh_store.specs.Exchanges.{CanTake, all_taken, at_corner, put_in, moved_tets, moved_triples}
use Rattle.mesh_store.proofs.FacePieces.{rising-risen}
use Rattle.mesh_store.proofs.KeySets.{is_in-put, state-in}
use Rattle.mesh_store.proofs.FirstMesh.{differ}

-- ---- tests in turn
filter-at : (p q : List ℕ → Bool) (x : List ℕ) (xs : List (List ℕ)) (a b : Bool) → p x ≡ a → q x ≡ b → filter q (filter p xs) ≡ filter (λ y. p y && q y) xs → filter q (filter p (x ∷ xs)) ≡ filter (λ y. p y && q y) (x ∷ xs)
filter-at p q x xs true true e f h = rw (e, f) (ap (λ (ys : List (List ℕ)). x ∷ ys) h)
filter-at p q x xs true false e f h = rw (e, f) h
filter-at p q x xs false b e f h = rw e h

pub filter-filter : (p q : List ℕ → Bool) (xs : List (List ℕ)) → filter q (filter p xs) ≡ filter (λ y. p y && q y) xs
filter-filter p q [] = refl
filter-filter p q (x ∷ xs) = filter-at p q x xs (p x) (q x) refl refl (filter-filter p q xs)

pub put_in-at : (u v : ℕ) (xs : List (List ℕ)) → put_in u v (at_corner u xs) ≡ moved_tets u v xs
put_in-at u v xs = ap (map (replaced u v)) (filter-filter (λ x. has x u) (λ x. not (has x v)) xs)

-- ---- the new tetrahedra
pub tets-moved : (n u v : ℕ) (xs : List (List ℕ)) → v < n → Each (IsTet n) xs → Each (IsTet n) (moved_tets u v xs)
tets-moved n u v [] l h = tt
tets-moved n u v (x ∷ xs) l h = elim (cases_Bool (has x u && not (has x v))) [
  | inl e ↦ rw e (IsTet-from n (replaced u v x) (cornered-put u v n x (cornered_of n x h.0) (not-true (has x v) (and_parts (has x u) (not (has x v)) e).1) l), tets-moved n u v xs l h.1)
  | inr e ↦ rw e (tets-moved n u v xs l h.1)
]

-- ---- the triples that are taken out
is_taken : (e i a : Bool) → (cond e false i && not a) ≡ (i && not (e || a))
is_taken true true a = refl
is_taken true false a = refl
is_taken false i a = refl

and_true : (b : Bool) → b ≡ (b && true)
and_true true = refl
and_true false = refl

pub is_in-all_taken : (x : List ℕ) (ts : List (List ℕ)) (m : Parts) → is_in (face_of x) (all_taken ts m).keys ≡ (is_in (face_of x) m.keys && not (is_among x ts))
is_in-all_taken x [] m = and_true (is_in (face_of x) m.keys)
is_in-all_taken x (t ∷ ts) m =
    is_in-all_taken x ts (face_put (face_of t) false m)
    ∙ (ap (λ (b : Bool). b && not (is_among x ts)) (is_in-put (face_of t) (face_of x) false m.keys) ∙ is_taken (same_triple x t) (is_in (face_of x) m.keys) (is_among x ts))

stay-in : (t : List ℕ) (ts : List (List ℕ)) (keys : Keys) → Each (λ y. is_below t y ≡ true) ts → Each (λ y. is_in (face_of y) keys ≡ true) ts → Each (λ y. is_in (face_of y) (put (face_of t) false keys) ≡ true) ts
stay-in t [] keys o h = tt
stay-in t (y ∷ ts) keys o h = (is_in-put (face_of t) (face_of y) false keys ∙ (ap (λ (b : Bool). cond b false (is_in (face_of y) keys)) (differ t y o.0) ∙ h.0), stay-in t ts keys o.1 h.1)

pub CanTake-filter : (p : List ℕ → Bool) (ts : List (List ℕ)) (keys : Keys) → Ordered ts → Each (λ t. is_in (face_of t) keys ≡ true) ts → CanTake (filter p ts) keys
CanTake-filter p [] keys o h = tt
CanTake-filter p (t ∷ ts) keys o h = elim (cases_Bool (p t)) [
  | inl e ↦ rw e (state-in (face_of t) keys h.0, CanTake-filter p ts (put (face_of t) false keys) o.1 (stay-in t ts keys o.0 h.1))
  | inr e ↦ rw e (CanTake-filter p ts keys o.1 h.1)
]

-- ---- the triples that are put in
pub triples-moved : (n u v : ℕ) (ts : List (List ℕ)) → v < n → Each (IsTriple n) ts → Each (IsTriple n) (map rising (put_in u v ts))
triples-moved n u v [] l h = tt
triples-moved n u v (t ∷ ts) l h = elim (cases_Bool (has t v)) [
  | inl e ↦ rw e (triples-moved n u v ts l h.1)
  | inr e ↦ rw e (rising-IsTriple n (replaced u v t) (triple-put u v n t l (triple_of n t h.0) (rw e (apart (has t u)))), triples-moved n u v ts l h.1)
]
  where
    apart : (b : Bool) → not (b && false) ≡ true
    apart true = refl
    apart false = refl

-- ---- the triples after it
among-at : (e a p : Bool) → (e ≡ true → p ≡ true) → (e || (a && p)) ≡ ((e || a) && p)
among-at true a p h = sym (h refl)
among-at false a p h = refl

among-not : (e a p : Bool) → (e ≡ true → p ≡ false) → (a && p) ≡ ((e || a) && p)
among-not true true p h = refl
among-not true false p h = sym (h refl)
among-not false a p h = refl

pub among-filter : (p : List ℕ → Bool) (x : List ℕ) (ts : List (List ℕ)) → is_among x (filter p ts) ≡ (is_among x ts && p x)
among-filter p x [] = refl
among-filter p x (t ∷ ts) = elim (cases_Bool (p t)) [
  | inl e ↦ rw e (ap (λ (b : Bool). same_triple x t || b) (among-filter p x ts) ∙ among-at (same_triple x t) (is_among x ts) (p x) (λ f. ap p (equal_from x t f) ∙ e))
  | inr e ↦ rw e (among-filter p x ts ∙ among-not (same_triple x t) (is_among x ts) (p x) (λ f. ap p (equal_from x t f) ∙ e))
]

pub left-over : (a p : Bool) → (a && not (a && p)) ≡ (a && not p)
left-over true p = refl
left-over false p = refl

or_turn : (e a b : Bool) → (e || (a || b)) ≡ (a || (e || b))
or_turn true true b = refl
or_turn true false b = refl
or_turn false a b = refl

module _ (n u v : ℕ) (x : List ℕ) where
  abbrev changed : List (List ℕ) → Bool
  changed ts = is_among x (map rising (put_in u v (at_corner u ts)))

  abbrev others : List (List ℕ) → Bool
  others ts = is_among x (filter (λ t. not (has t u)) ts)

  moved-at : (t : List ℕ) (ts : List (List ℕ)) (a b : Bool) → has t u ≡ a → has t v ≡ b → IsTriple n t → is_among x (moved_triples u v ts) ≡ (changed ts || others ts) → is_among x (moved_triples u v (t ∷ ts)) ≡ (changed (t ∷ ts) || others (t ∷ ts))
  moved-at t ts true true e f r h = rw (e, f) h
  moved-at t ts true false e f r h = rw (e, f) (ap (λ (b : Bool). same_triple x (rising (replaced u v t)) || b) h ∙ sym (or_assoc (same_triple x (rising (replaced u v t))) (changed ts) (others ts)))
  moved-at t ts false b e f r h =
      let is : rising (replaced u v t) ≡ t = ap rising (replaced_none u v t e) ∙ rising-risen t r.rises in
      rw e (ap (λ (y : List ℕ). same_triple x y || is_among x (moved_triples u v ts)) is ∙ (ap (λ (b : Bool). same_triple x t || b) h ∙ or_turn (same_triple x t) (changed ts) (others ts)))

  among-moved : (ts : List (List ℕ)) → Each (IsTriple n) ts → is_among x (moved_triples u v ts) ≡ (changed ts || others ts)
  among-moved [] h = refl
  among-moved (t ∷ ts) h = moved-at t ts (has t u) (has t v) refl refl h.0 (among-moved ts h.1)

  -- the triples that were there and not taken out, and those that were put in
  pub among-exchanged : (ts : List (List ℕ)) → Each (IsTriple n) ts → (changed ts || (is_among x ts && not (is_among x (at_corner u ts)))) ≡ is_among x (moved_triples u v ts)
  among-exchanged ts h =
      ap (λ (b : Bool). changed ts || (is_among x ts && not b)) (among-filter (λ t. has t u) x ts)
      ∙ (ap (λ (b : Bool). changed ts || b) (left-over (is_among x ts) (has x u) ∙ sym (among-filter (λ t. not (has t u)) x ts)) ∙ sym (among-moved ts h))
