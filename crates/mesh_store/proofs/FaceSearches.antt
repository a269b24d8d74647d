-- The tracked faces at points, sorted and each once, as parts of the list of tracked faces.
use Rattle.std.proofs.Common.{arith, ◌≡◌, ℕ, zero, suc, ◌+◌, ◌<◌, ◌≤◌, Bool, true, false, ◌&&◌, ◌||◌, List, [], ◌∷◌, ◌++◌, length, get_or, drop, filter, refl, sym, ◌∙◌, ap, inl, inr}
use Rattle.std.specs.List.{list_any, Contains}
use Rattle.std.proofs.lemmas.Bool.{cases_Bool, or_cases, or_left, or_right, true≢false}
use Rattle.std.proofs.lemmas.List.{at_drop_more, at_drop_all, map-append}
use Rattle.std.proofs.lemmas.List.Folds.{list_any-append}
use mathlib.Core.Bool.{or_assoc, or-false}
use Rattle.grid.specs.declared.shapes.Face.{Face}
use Rattle.grid.specs.Meshes.{Ordered, is_below}
use Rattle.grid.specs.Simplices.{has, same_triple}
use Rattle.grid.specs.Views.{triples_of}
use Rattle.mesh_types.specs.declared.cut.Cut.{Cut}
use Rattle.mesh_types.specs.Refines.{is_touched}
use Rattle.mesh_types.proofs.ForCallers.{Each-filter, is_among, equal_from, equal_to, ordered_same, in_order_once-Ordered, is_among-in_order_once}
use Rattle.tracked.specs.Keys.{Keys, faces_at, faces_in}
use Rattle.mesh_store.specs.Changes.{face_of}
use Rattle.mesh_store.specs.Parts.{tracked_in}
use Rattle.mesh_store.proofs.Moves.{among-filter}

-- ---- membership as std's dedup and sort have it
pub Contains-among : (x : List ℕ) (fs : List Face) → is_among x (triples_of fs) ≡ true → Contains fs (face_of x)
Contains-among x [] e = absurd (true≢false (sym e))
Contains-among x (f ∷ fs) e = elim (or_cases (same_triple x f.0) (is_among x (triples_of fs)) e) [
  | inl h ↦ (0, omega arith, ap face_of (sym (equal_from x f.0 h)))
  | inr h ↦ let r = Contains-among x fs h in (suc r.0, next r.0 (length fs) r.1, r.2)
]
  where
    next : (n m : ℕ) → n < m → suc n < suc m
    next n m h = omega arith

pub among-Contains : (x : List ℕ) (fs : List Face) → Contains fs (face_of x) → is_among x (triples_of fs) ≡ true
among-Contains x fs h = at fs h.0 h.1 h.2
  where
    less : (n m : ℕ) → suc n < suc m → n < m
    less n m h = omega arith

    at : (fs : List Face) (k : ℕ) → k < length fs → get_or fs k (face_of x) ≡ face_of x → is_among x (triples_of fs) ≡ true
    at [] k l e = absurd (omega arith)
    at (f ∷ fs) zero l e = or_left (same_triple x f.0) (is_among x (triples_of fs)) (equal_to x f.0 (sym (ap (λ (g : Face). g.0) e)))
    at (f ∷ fs) (suc k) l e = or_right (same_triple x f.0) (is_among x (triples_of fs)) (at fs k (less k (length fs) l) e)

-- ---- what a test lets pass
pub triples-filter : (p : List ℕ → Bool) (fs : List Face) → triples_of (filter (λ f. p f.0) fs) ≡ filter p (triples_of fs)
triples-filter p [] = refl
triples-filter p (f ∷ fs) = elim (cases_Bool (p f.0)) [
  | inl e ↦ rw e (ap (λ (ts : List (List ℕ)). f.0 ∷ ts) (triples-filter p fs))
  | inr e ↦ rw e (triples-filter p fs)
]

among-chosen : (p : List ℕ → Bool) (x : List ℕ) (fs : List Face) → is_among x (triples_of (filter (λ f. p f.0) fs)) ≡ (is_among x (triples_of fs) && p x)
among-chosen p x fs = ap (is_among x) (triples-filter p fs) ∙ among-filter p x (triples_of fs)

Ordered-filter : (p : List ℕ → Bool) (ts : List (List ℕ)) → Ordered ts → Ordered (filter p ts)
Ordered-filter p [] h = tt
Ordered-filter p (t ∷ ts) h = elim (cases_Bool (p t)) [
  | inl e ↦ rw e (Each-filter (λ y. is_below t y ≡ true) p ts h.0, Ordered-filter p ts h.1)
  | inr e ↦ rw e (Ordered-filter p ts h.1)
]

-- a rising list of the tracked faces that pass
pub chosen-is : (p : List ℕ → Bool) (keys : Keys) (fs : List Face) → Ordered (triples_of fs) → ((x : List ℕ) → is_among x (triples_of fs) ≡ (is_among x (triples_of (faces_in keys)) && p x)) → triples_of fs ≡ filter p (tracked_in keys)
chosen-is p keys fs ordered same =
    ordered_same (triples_of fs) (filter p (tracked_in keys)) ordered (Ordered-filter p (tracked_in keys) (in_order_once-Ordered (triples_of (faces_in keys)))) (λ x.
    same x ∙ sym (among-filter p x (tracked_in keys) ∙ ap (λ (b : Bool). b && p x) (is_among-in_order_once x (triples_of (faces_in keys)))))

pub at-corner-is : (u : ℕ) (keys : Keys) (found risen : List Face) → found ≡ faces_at keys u → Ordered (triples_of risen) → ((x : List ℕ) → is_among x (triples_of risen) ≡ is_among x (triples_of found)) → triples_of risen ≡ filter (λ t. has t u) (tracked_in keys)
at-corner-is u keys found risen is ordered same =
    chosen-is (λ t. has t u) keys risen ordered (λ x. same x ∙ (ap (λ (fs : List Face). is_among x (triples_of fs)) is ∙ among-chosen (λ t. has t u) x (faces_in keys)))

-- ---- edge after edge
-- the tracked faces with both ends of a cut
abbrev faces_at_edge : Keys → Cut → List Face
faces_at_edge keys e = filter (λ f. has f.0 e.v) (faces_at keys e.u)

abbrev is_at_edges : Keys → List Cut → List ℕ → Bool
is_at_edges keys cuts x = list_any (λ e. is_among x (triples_of (faces_at_edge keys e))) cuts

-- the faces so far, and those at the edges that are left, are those at all edges
abbrev pub FoundTo : Keys → List Cut → ℕ → List Face → Type 0
FoundTo keys cuts n fs = (x : List ℕ) → (is_among x (triples_of fs) || is_at_edges keys (drop n cuts) x) ≡ is_at_edges keys cuts x

module _ (keys : Keys) (cuts : List Cut) where
  pub goes_on : (n : ℕ) (d : Cut) (fs at more new : List Face) → n < length cuts → at ≡ faces_at keys (get_or cuts n d).u → more ≡ at → new ≡ fs ++ filter (λ f. has f.0 (get_or cuts n d).v) more → FoundTo keys cuts n fs → FoundTo keys cuts (n + 1) new
  goes_on n d fs at more new l e same f h x =
      let cut : Cut = get_or cuts n d in
      ap (λ (gs : List Face). is_among x (triples_of gs) || is_at_edges keys (drop (n + 1) cuts) x) (f ∙ ap (λ (gs : List Face). fs ++ filter (λ g. has g.0 cut.v) gs) (same ∙ e))
      ∙ (ap (λ (b : Bool). b || is_at_edges keys (drop (n + 1) cuts) x) (ap (is_among x) (map-append (λ g. g.0) fs (faces_at_edge keys cut)) ∙ list_any-append (same_triple x) (triples_of fs) (triples_of (faces_at_edge keys cut)))
      ∙ (or_assoc (is_among x (triples_of fs)) (is_among x (triples_of (faces_at_edge keys cut))) (is_at_edges keys (drop (n + 1) cuts) x)
      ∙ (sym (at_drop_more (λ (es : List Cut). is_among x (triples_of fs) || is_at_edges keys es x) cuts n d l) ∙ h x)))

  at-edges : (es : List Cut) (x : List ℕ) → is_at_edges keys es x ≡ (is_among x (triples_of (faces_in keys)) && is_touched es x)
  at-edges [] x = sym (and_false (is_among x (triples_of (faces_in keys))))
    where
      and_false : (b : Bool) → (b && false) ≡ false
      and_false true = refl
      and_false false = refl
  at-edges (e ∷ es) x =
      let in_keys = is_among x (triples_of (faces_in keys)) in
      ap (λ (b : Bool). b || is_at_edges keys es x) (among-chosen (λ t. has t e.v) x (faces_at keys e.u) ∙ ap (λ (b : Bool). b && has x e.v) (among-chosen (λ t. has t e.u) x (faces_in keys)))
      ∙ (ap (λ (b : Bool). ((in_keys && has x e.u) && has x e.v) || b) (at-edges es x) ∙ spread in_keys (has x e.u) (has x e.v) (is_touched es x))
    where
      spread : (l a b c : Bool) → (((l && a) && b) || (l && c)) ≡ (l && ((a && b) || c))
      spread true a b c = refl
      spread false a b c = refl

  pub found-all : (n : ℕ) (fs risen : List Face) → length cuts ≤ n → FoundTo keys cuts n fs → Ordered (triples_of risen) → ((x : List ℕ) → is_among x (triples_of risen) ≡ is_among x (triples_of fs)) → triples_of risen ≡ filter (is_touched cuts) (tracked_in keys)
  found-all n fs risen l h ordered same =
      chosen-is (is_touched cuts) keys risen ordered (λ x. same x
      ∙ (sym (or-false (is_among x (triples_of fs)))
      ∙ (sym (at_drop_all (λ (es : List Cut). is_among x (triples_of fs) || is_at_edges keys es x) cuts n l) ∙ (h x ∙ at-edges cuts x))))
