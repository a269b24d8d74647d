-- Sets of triples, one triple after the other.
use Rattle.std.proofs.Common.{◌≡◌, ℕ, ◌+◌, ◌<◌, Bool, true, false, cond, List, [], ◌∷◌, ◌++◌, length, take, get_or, map, slice_index_or, refl, ap, sym, subst, ◌∙◌, inl, inr, arith, append_assoc}
use Rattle.std.proofs.lemmas.List.{map-append, take_more, append-nil}
use Rattle.std.proofs.lemmas.List.Concat.{flat_map-append}
use Rattle.std.proofs.lemmas.List.Elements.{Contains-append_left, Contains-append_right, Contains-append_cases}
use Rattle.std.proofs.lemmas.Map.Views.{Contains-from_any, list_any-from_Contains}
use Rattle.std.proofs.lemmas.Cmp.{nat_list_eq_equiv}
use Rattle.std.specs.Cmp.{IsEquivalence}
use Rattle.grid.specs.declared.shapes.Tet.{Tet}
use Rattle.grid.specs.Views.{corners_of, triples_of}
use Rattle.std.specs.List.{Contains, list_any}
use Rattle.std.specs.Str.{bytes_eq}
use Rattle.std.proofs.lemmas.Slice.Eq.{bytes_eq-Decides}
use Rattle.indexmap.specs.IndexSet.{insert_key}
use Rattle.grid.specs.declared.shapes.Face.{Face}
use Rattle.grid.specs.Simplices.{all_faces, faces, rising}
use Rattle.cert_check.specs.Searches.{AreTriplesOf}

abbrev pub same_key : Face → Face → Bool
same_key f g = bytes_eq f.0 g.0

pub same_face : (f g : Face) → same_key f g ≡ true → f ≡ g
same_face f g e = let same = (bytes_eq-Decides f.0 g.0).0 e in ap (λ (l : List ℕ). record { 0 = l }) same

single : {X : Type 0} (y x : X) → Contains (y ∷ []) x → y ≡ x
single y x h = let first : h.0 ≡ 0 = omega (arith, h.1) in subst (λ k. slice_index_or (y ∷ []) k x ≡ x) first h.2

single_in : {X : Type 0} (y x : X) → y ≡ x → Contains (y ∷ []) x
single_in y x e = (0, omega arith, e)

-- one more triple
pushed : (before : List (List ℕ)) (f : List ℕ) (old : List Face) (key : Face) → AreTriplesOf before old → key.0 ≡ rising f → AreTriplesOf (before ++ f ∷ []) (old ++ key ∷ [])
pushed before f old key h is = record {
  same = λ g.
      let more = map-append rising before (f ∷ []) in (
        λ c. subst (λ t. Contains t g.0) (sym more) (elim (Contains-append_cases old (key ∷ []) g c) [
          | inl there ↦ Contains-append_left (map rising before) (rising f ∷ []) g.0 ((h.same g).0 there)
          | inr last ↦ Contains-append_right (map rising before) (rising f ∷ []) g.0 (single_in (rising f) g.0 (sym is ∙ ap (λ (k : Face). k.0) (single key g last)))
        ]),
        λ c. elim (Contains-append_cases (map rising before) (rising f ∷ []) g.0 (subst (λ t. Contains t g.0) more c)) [
          | inl there ↦ Contains-append_left old (key ∷ []) g ((h.same g).1 there)
          | inr last ↦ Contains-append_right old (key ∷ []) g (single_in key g (ap (λ (l : List ℕ). record { 0 = l }) (is ∙ single (rising f) g.0 last)))
        ],
      );
}

-- a triple that was there
kept : (before : List (List ℕ)) (f : List ℕ) (old : List Face) (key : Face) → AreTriplesOf before old → key.0 ≡ rising f → Contains old key → AreTriplesOf (before ++ f ∷ []) old
kept before f old key h is there = record {
  same = λ g.
      let more = map-append rising before (f ∷ []) in (
        λ c. subst (λ t. Contains t g.0) (sym more) (Contains-append_left (map rising before) (rising f ∷ []) g.0 ((h.same g).0 c)),
        λ c. elim (Contains-append_cases (map rising before) (rising f ∷ []) g.0 (subst (λ t. Contains t g.0) more c)) [
          | inl c ↦ (h.same g).1 c
          | inr last ↦ subst (λ (k : Face). Contains old k) (ap (λ (l : List ℕ). record { 0 = l }) (is ∙ single (rising f) g.0 last)) there
        ],
      );
}

inserted : (b : Bool) (before : List (List ℕ)) (f : List ℕ) (old : List Face) (key : Face) → AreTriplesOf before old → key.0 ≡ rising f → (b ≡ true → Contains old key) → AreTriplesOf (before ++ f ∷ []) (cond b old (old ++ key ∷ []))
inserted true before f old key h is there = kept before f old key h is (there refl)
inserted false before f old key h is there = pushed before f old key h is

pub AreTriplesOf-insert : (before : List (List ℕ)) (f : List ℕ) (old : List Face) (key : Face) → AreTriplesOf before old → key.0 ≡ rising f → AreTriplesOf (before ++ f ∷ []) (insert_key same_key old key)
AreTriplesOf-insert before f old key h is =
    inserted (list_any (same_key key) old) before f old key h is (Contains-from_any same_face key old)

-- the triples of one more face of a list
pub AreTriplesOf-take : (before : List (List ℕ)) (faces : List Face) (i : ℕ) (d : Face) → i < length faces → (old : List Face) (key : Face) → AreTriplesOf (before ++ triples_of (take i faces)) old → key.0 ≡ rising (get_or faces i d).0 → AreTriplesOf (before ++ triples_of (take (i + 1) faces)) (insert_key same_key old key)
AreTriplesOf-take before faces i d lt old key h is =
    let f = get_or faces i d in
    let more : before ++ triples_of (take i faces) ++ f.0 ∷ [] ≡ before ++ triples_of (take (i + 1) faces) =
    append_assoc before (triples_of (take i faces)) (f.0 ∷ []) ∙ ap (λ t. before ++ t) (sym (ap triples_of (take_more faces i d lt) ∙ map-append (λ (g : Face). g.0) (take i faces) (f ∷ []))) in
    subst (λ fs. AreTriplesOf fs (insert_key same_key old key)) more (AreTriplesOf-insert (before ++ triples_of (take i faces)) f.0 old key h is)

-- the faces of one more tetrahedron
pub all_faces-take : (tets : List Tet) (i : ℕ) (d : Tet) → i < length tets → all_faces (corners_of (take i tets)) ++ faces (get_or tets i d).0 ≡ all_faces (corners_of (take (i + 1) tets))
all_faces-take tets i d lt =
    let x = get_or tets i d in
    sym (ap (λ ts. all_faces (corners_of ts)) (take_more tets i d lt) ∙ ap all_faces (map-append (λ (t : Tet). t.0) (take i tets) (x ∷ [])) ∙ flat_map-append faces (corners_of (take i tets)) (x.0 ∷ [])
    ∙ ap (λ fs. all_faces (corners_of (take i tets)) ++ fs) (append-nil (faces x.0)))

pub AreTriplesOf-nil : AreTriplesOf [] []
AreTriplesOf-nil = record { same = λ g. (λ c. absurd (omega (arith, c.1)), λ c. absurd (omega (arith, c.1))) }

-- ---- looking a triple up
equal_keys : IsEquivalence same_key
equal_keys = record { refl = λ f. nat_list_eq_equiv.refl f.0; symm = λ f g. nat_list_eq_equiv.symm f.0 g.0; congr = λ f g h. nat_list_eq_equiv.congr f.0 g.0 h.0 }

pub found_of : (fs : List (List ℕ)) (keys : List Face) (f : Face) → AreTriplesOf fs keys → list_any (same_key f) keys ≡ true → Contains (map rising fs) f.0
found_of fs keys f h e = (h.same f).0 (Contains-from_any same_face f keys e)

pub found_for : (fs : List (List ℕ)) (keys : List Face) (f : Face) → AreTriplesOf fs keys → Contains (map rising fs) f.0 → list_any (same_key f) keys ≡ true
found_for fs keys f h t = list_any-from_Contains equal_keys f keys ((h.same f).1 t)
