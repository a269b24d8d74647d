-- Tetrahedra that are outside are those that are reached from facet to facet.
use Rattle.std.proofs.Common.{◌≡◌, ℕ, zero, suc, ◌+◌, ◌*◌, ◌/◌, ◌%◌, ◌<◌, Bool, true, false, cond, Option, Some, None, List, [], ◌∷◌, ◌++◌, length, slice_index_or, count_by, refl, sym, ap, ◌∙◌, subst, inl, inr, arith}
use Rattle.std.specs.List.{Contains}
use Rattle.std.proofs.lemmas.Bool.{cases_Bool, false≢true}
use Rattle.std.proofs.lemmas.List.{get_or_default}
use Rattle.std.proofs.lemmas.List.Sums.{sum_by-append}
use Rattle.grid.specs.declared.shapes.Face.{Face}
use Rattle.grid.specs.Simplices.{all_faces, count, faces, is_rotation, reversed, rising}
use Rattle.grid.specs.Regions.{AreRegions, IsOpenTo, IsOutside, starts as starts_outside, goes_on as goes_on_outside}
use Rattle.grid.proofs.ForCallers.{count_by-cons_yes, count_by-cons_no}
use Rattle.flood.specs.HalfFaces.{AreFacets, AreOpen, ArePaired, facet_at, half_face, is_mate, tet_of, triple_at}
use Rattle.flood.specs.Chains.{IsLast}
use Rattle.flood.specs.Floods.{AreReachable, IsLoose, IsOn, IsReachable, starts, goes_on}
use Rattle.flood.proofs.ConditionLemmas.{same_facet}
use Rattle.flood.proofs.Turns.{AreMates, IsTriple, Turns, Turns-over, Turns-reversed, Turns-sym, Turns-trans, mates_from, rising-Turns, rising-reversed}

-- ---- the faces of a tetrahedron
few_faces : (x : List ℕ) (m : ℕ) → m < length (faces x) → m < 4
few_faces [] m h = absurd (omega arith)
few_faces (a ∷ []) m h = absurd (omega arith)
few_faces (a ∷ b ∷ []) m h = absurd (omega arith)
few_faces (a ∷ b ∷ c ∷ []) m h = absurd (omega arith)
few_faces (a ∷ b ∷ c ∷ d ∷ []) m h = omega arith
few_faces (a ∷ b ∷ c ∷ d ∷ e ∷ x) m h = absurd (omega arith)

triple_of_four : (a b c d m : ℕ) → m < 4 → IsTriple (slice_index_or (faces (a ∷ b ∷ c ∷ d ∷ [])) m [])
triple_of_four a b c d zero h = record { a = a; b = c; c = b; is = refl }
triple_of_four a b c d (suc zero) h = record { a = a; b = b; c = d; is = refl }
triple_of_four a b c d (suc (suc zero)) h = record { a = a; b = d; c = c; is = refl }
triple_of_four a b c d (suc (suc (suc zero))) h = record { a = b; b = c; c = d; is = refl }
triple_of_four a b c d (suc (suc (suc (suc m)))) h = absurd (omega arith)

face-IsTriple : (x : List ℕ) (m : ℕ) → m < length (faces x) → IsTriple (slice_index_or (faces x) m [])
face-IsTriple [] m h = absurd (omega arith)
face-IsTriple (a ∷ []) m h = absurd (omega arith)
face-IsTriple (a ∷ b ∷ []) m h = absurd (omega arith)
face-IsTriple (a ∷ b ∷ c ∷ []) m h = absurd (omega arith)
face-IsTriple (a ∷ b ∷ c ∷ d ∷ []) m h = triple_of_four a b c d m h
face-IsTriple (a ∷ b ∷ c ∷ d ∷ e ∷ x) m h = absurd (omega arith)

-- ---- counts
count_by-append : (p : List ℕ → Bool) (xs ys : List (List ℕ)) → count_by p (xs ++ ys) ≡ count_by p xs + count_by p ys
count_by-append p xs ys = sum_by-append (λ x. cond (p x) 1 0) xs ys

count-here : (p : List ℕ → Bool) (xs : List (List ℕ)) (k : ℕ) → k < length xs → p (slice_index_or xs k []) ≡ true → 0 < count_by p xs
count-here p [] k h e = absurd (omega arith)
count-here p (x ∷ xs) zero h e = omega (arith, count_by-cons_yes p x xs e)
count-here p (x ∷ xs) (suc k) h e =
    let more = count-here p xs k (omega arith) e in
    elim (cases_Bool (p x)) [ inl t ↦ omega (arith, count_by-cons_yes p x xs t) | inr t ↦ omega (arith, count_by-cons_no p x xs t) ]

count-nowhere : (p : List ℕ → Bool) (xs : List (List ℕ)) → ((k : ℕ) → k < length xs → p (slice_index_or xs k []) ≡ false) → count_by p xs ≡ 0
count-nowhere p [] h = refl
count-nowhere p (x ∷ xs) h =
    let later = count-nowhere p xs (λ k below. h (suc k) (omega arith)) in
    omega (arith, count_by-cons_no p x xs (h 0 (omega arith)))

-- the face m of tetrahedron i
abbrev face_at : List (List ℕ) → ℕ → ℕ → List ℕ
face_at tets i m = slice_index_or (faces (slice_index_or tets i [])) m []

pub count-found : (f : List ℕ) (tets : List (List ℕ)) (i m : ℕ) → i < length tets → m < length (faces (slice_index_or tets i [])) → is_rotation f (face_at tets i m) ≡ true → 0 < count f tets
count-found f [] i m h k e = absurd (omega arith)
count-found f (x ∷ tets) zero m h k e =
    let here = count-here (is_rotation f) (faces x) m k e in
    omega (arith, count_by-append (is_rotation f) (faces x) (all_faces tets))
count-found f (x ∷ tets) (suc i) m h k e =
    let later = count-found f tets i m (omega arith) k e in
    omega (arith, count_by-append (is_rotation f) (faces x) (all_faces tets))

pub count-zero : (f : List ℕ) (tets : List (List ℕ)) → ((i m : ℕ) → i < length tets → m < length (faces (slice_index_or tets i [])) → is_rotation f (face_at tets i m) ≡ false) → count f tets ≡ 0
count-zero f [] h = refl
count-zero f (x ∷ tets) h =
    let here = count-nowhere (is_rotation f) (faces x) (λ m k. h 0 m (omega arith) k) in
    let later = count-zero f tets (λ i m below k. h (suc i) m (omega arith) k) in
    omega (arith, count_by-append (is_rotation f) (faces x) (all_faces tets))

-- ---- half-faces
-- face m of tetrahedron i is a half-face
record IsHalfFaceAt (tets : List (List ℕ)) (i m h : ℕ) : Type 0 where
  there : h < 4 * length tets
  is : half_face tets h ≡ face_at tets i m
  tet_is : h / 4 ≡ i

half_face_at : (tets : List (List ℕ)) (i m : ℕ) → i < length tets → m < length (faces (slice_index_or tets i [])) → IsHalfFaceAt tets i m (4 * i + m)
half_face_at tets i m below k =
    let few = few_faces (slice_index_or tets i []) m k in
    let tet : (4 * i + m) / 4 ≡ i = omega arith in
    let place : (4 * i + m) % 4 ≡ m = omega arith in
    record { there = omega arith; is = ap (λ j. slice_index_or (faces (slice_index_or tets j [])) ((4 * i + m) % 4) []) tet ∙ ap (face_at tets i) place; tet_is = tet }

-- the last half-face on a facet that has one
last_there : (facet_of : List ℕ) (c n : ℕ) (o : Option ℕ) → IsLast facet_of c n o → (h : ℕ) → h < n → facet_at facet_of h ≡ c → (p : ℕ) × (o ≡ Some p) × (p < n) × (facet_at facet_of p ≡ c)
last_there facet_of c n None is h below on = absurd (is h below on)
last_there facet_of c n (Some p) is h below on = (p, refl, is.below, is.on)

module _ (tets tracked : List (List ℕ)) (triples : List Face) (facet_of : List ℕ) (given : List (Option ℕ)) (is_open is_paired : List Bool) (facets : AreFacets tets (4 * length tets) triples facet_of) (lasts : (c : ℕ) → c < length triples → IsLast facet_of c (4 * length tets) (slice_index_or given c None)) (open_facets : AreOpen tracked (length tracked) triples is_open) (paired_facets : ArePaired tets facet_of (4 * length tets) given is_paired) where
  abbrev half : ℕ → List ℕ
  half h = half_face tets h

  abbrev facet : ℕ → ℕ
  facet h = facet_at facet_of h

  abbrev IsThere : ℕ → Type 0
  IsThere h = h < 4 * length tets

  triple : (h : ℕ) → IsThere h → IsTriple (half h)
  triple h below = face-IsTriple (tet_of tets h) (h % 4) (facets.there h below)

  of_tet : (h : ℕ) → IsThere h → Contains (faces (tet_of tets h)) (half h)
  of_tet h below = (h % 4, facets.there h below, get_or_default (faces (tet_of tets h)) (h % 4) (half h) [] (facets.there h below))

  in_tets : (h : ℕ) → IsThere h → Contains tets (tet_of tets h)
  in_tets h below = let i : h / 4 < length tets = omega arith in (h / 4, i, get_or_default tets (h / 4) (tet_of tets h) [] i)

  same_corners : (g h : ℕ) → IsThere g → IsThere h → facet g ≡ facet h → rising (half g) ≡ rising (half h)
  same_corners g h a b e = sym (facets.triple_is g a) ∙ ap (triple_at triples) e ∙ facets.triple_is h b

  one_facet : (g h : ℕ) → IsThere g → IsThere h → rising (half g) ≡ rising (half h) → facet g ≡ facet h
  one_facet g h a b e = same_facet triples (facet g) (facet h) facets.apart (facets.in_range g a) (facets.in_range h b) (facets.triple_is g a ∙ e ∙ sym (facets.triple_is h b))

  mates : (g h : ℕ) → IsThere g → IsThere h → facet g ≡ facet h → AreMates (half g) (half h)
  mates g h a b e = mates_from (half g) (half h) (triple g a) (triple h b) (same_corners g h a b e)

  -- a half-face that is the reverse of another lies on its facet
  facet_of_reverse : (g h : ℕ) → IsThere g → IsThere h → Turns (reversed (half g)) (half h) → facet h ≡ facet g
  facet_of_reverse g h a b t = one_facet h g b a (sym (rising-Turns (reversed (half g)) (half h) t) ∙ rising-reversed (half g) (triple g a))

  last_on : (h : ℕ) → IsThere h → (p : ℕ) × (slice_index_or given (facet h) None ≡ Some p) × (p < 4 * length tets) × (facet p ≡ facet h)
  last_on h below = last_there facet_of (facet h) (4 * length tets) (slice_index_or given (facet h) None) (lasts (facet h) (facets.in_range h below)) h below refl

  -- ---- loose faces
  mate_of : (h : ℕ) → IsThere h → slice_index_or is_paired (facet h) false ≡ true → (q : ℕ) × IsThere q × Turns (reversed (half h)) (half q)
  mate_of h below e =
      let m = paired_facets.paired (facet h) e in
      let p = last_on h below in
      let t : Turns (half m.mate) (reversed (half p.0)) = record { is = ap (is_mate tets m.mate) (sym p.1) ∙ m.reverse } in
      elim (mates h p.0 below p.2 (sym p.3)) [
        | inl s ↦ (m.mate, m.there, Turns-trans (reversed (half h)) (reversed (half p.0)) (half m.mate) (Turns-reversed (half h) (half p.0) s) (Turns-sym (half m.mate) (reversed (half p.0)) t))
        | inr s ↦ (p.0, p.2, Turns-over (half h) (half p.0) s)
      ]

  no_mate : (h : ℕ) → IsThere h → slice_index_or is_paired (facet h) false ≡ false → (g : ℕ) → IsThere g → Turns (reversed (half h)) (half g) → ⊥
  no_mate h below e g there t =
      let p = last_on h below in
      let at : facet g ≡ facet h = facet_of_reverse h g below there t in
      let none_h = sym (ap (is_mate tets h) p.1) ∙ paired_facets.unpaired h below e in
      let none_g = sym (ap (λ c. is_mate tets g (slice_index_or given c None)) at ∙ ap (is_mate tets g) p.1) ∙ paired_facets.unpaired g there (ap (λ c. slice_index_or is_paired c false) at ∙ e) in
      elim (mates h p.0 below p.2 (sym p.3)) [
        | inl s ↦
            let u = Turns-trans (half g) (reversed (half h)) (reversed (half p.0)) (Turns-sym (reversed (half h)) (half g) t) (Turns-reversed (half h) (half p.0) s) in
            false≢true (sym none_g ∙ u.is)
        | inr s ↦ false≢true (sym none_h ∙ s.is)
      ]

  loose_face : (h : ℕ) → IsThere h → slice_index_or is_paired (facet h) false ≡ false → count (reversed (half h)) tets ≡ 0
  loose_face h below e = count-zero (reversed (half h)) tets (λ i m i_there m_there.
      elim (cases_Bool (is_rotation (reversed (half h)) (face_at tets i m))) [
        | inl k ↦
            let g = half_face_at tets i m i_there m_there in
            absurd (no_mate h below e (4 * i + m) g.there (record { is = ap (is_rotation (reversed (half h))) g.is ∙ k }))
        | inr k ↦ k
      ])

  not_loose : (h : ℕ) → IsThere h → slice_index_or is_paired (facet h) false ≡ true → count (reversed (half h)) tets ≡ 0 → ⊥
  not_loose h below e none =
      let q = mate_of h below e in
      let there : q.0 / 4 < length tets = let b = q.1 in omega arith in
      let some = count-found (reversed (half h)) tets (q.0 / 4) (q.0 % 4) there (facets.there q.0 q.1) q.2.is in
      absurd (omega arith)

  -- ---- from facet to facet
  untracked : (h : ℕ) → IsThere h → slice_index_or is_open (facet h) false ≡ true → Contains tracked (rising (half h)) → ⊥
  untracked h below opened t =
      open_facets.opened (facet h) opened (record {
        place = t.0;
        there = t.1;
        is = get_or_default tracked t.0 [] (rising (half h)) t.1 ∙ t.2 ∙ sym (facets.triple_is h below);
      })

  tracked_one : (h : ℕ) → IsThere h → slice_index_or is_open (facet h) false ≡ false → Contains tracked (rising (half h))
  tracked_one h below shut =
      let among = open_facets.shut (facet h) (facets.in_range h below) shut in
      let is = among.is ∙ facets.triple_is h below in
      (among.place, among.there, get_or_default tracked among.place (rising (half h)) [] among.there ∙ is)

  open_to : (g h : ℕ) → IsThere g → IsThere h → Turns (reversed (half g)) (half h) → (Contains tracked (rising (half g)) → ⊥) → IsOpenTo tracked (tet_of tets g) (tet_of tets h)
  open_to g h a b t free = record { face = half g; mate = half h; of_x = of_tet g a; of_y = of_tet h b; reverse = t.is; untracked = free }

  passes : (g h : ℕ) → IsThere g → IsThere h → facet g ≡ facet h → slice_index_or is_open (facet g) false ≡ true → IsOutside tets tracked (tet_of tets g) → IsOutside tets tracked (tet_of tets h)
  passes g h a b e opened out =
      let free = untracked g a opened in
      elim (mates g h a b e) [
        | inr s ↦ goes_on_outside (tet_of tets g) (tet_of tets h) out (in_tets h b) (open_to g h a b (Turns-over (half g) (half h) s) free)
        | inl s ↦ elim (cases_Bool (slice_index_or is_paired (facet h) false)) [
          | inr loose ↦ starts_outside (tet_of tets h) (in_tets h b) (record { face = half h; of_x = of_tet h b; loose = loose_face h b loose })
          | inl paired ↦
              let q = mate_of h b paired in
              let there = q.1 in
              let from_g = Turns-trans (reversed (half g)) (reversed (half h)) (half q.0) (Turns-reversed (half g) (half h) s) q.2 in
              let from_q = Turns-over (half q.0) (half h) (Turns-sym (reversed (half h)) (half q.0) q.2) in
              let same = sym (rising-Turns (reversed (half g)) (half q.0) from_g) ∙ rising-reversed (half g) (triple g a) in
              let beyond = goes_on_outside (tet_of tets g) (tet_of tets q.0) out (in_tets q.0 there) (open_to g q.0 a there from_g free) in
              goes_on_outside (tet_of tets q.0) (tet_of tets h) beyond (in_tets h b) (open_to q.0 h there b from_q (λ t. free (subst (Contains tracked) same t)))
        ]
      ]

  abbrev Reachable : ℕ → Type 0
  Reachable i = IsReachable facet_of is_open (IsLoose facet_of is_paired) i

  abbrev Outside : List ℕ → Type 0
  Outside x = IsOutside tets tracked x

  on_there : (c i : ℕ) (on : IsOn facet_of c i) → IsThere on.half_face
  on_there c i on = let there = on.there in let one_each = facets.one_each in omega arith

  outside_from : (i : ℕ) → Reachable i → Outside (slice_index_or tets i [])
  outside_from i (starts k loose) =
      let on = loose.on in
      let h = on.half_face in
      let below = on_there loose.facet k on in
      let unpaired = ap (λ c. slice_index_or is_paired c false) on.facet_is ∙ loose.unpaired in
      subst (λ j. Outside (slice_index_or tets j [])) on.tet_is (starts_outside (tet_of tets h) (in_tets h below) (record { face = half h; of_x = of_tet h below; loose = loose_face h below unpaired }))
  outside_from j (goes_on i k c r beside on opened) =
      let g = beside.half_face in
      let h = on.half_face in
      let a = on_there c i beside in
      let b = on_there c k on in
      let before = subst (λ j. Outside (slice_index_or tets j [])) (sym beside.tet_is) (outside_from i r) in
      subst (λ j. Outside (slice_index_or tets j [])) on.tet_is (passes g h a b (beside.facet_is ∙ sym on.facet_is) (ap (λ c. slice_index_or is_open c false) beside.facet_is ∙ opened) before)

  place_of : (x : List ℕ) → Outside x → Contains tets x
  place_of x (starts_outside y c l) = c
  place_of x (goes_on_outside y z o c t) = c

  -- the half-face of a face of tetrahedron i
  record HasHalf (i : ℕ) (f : List ℕ) : Type 0 where
    h : ℕ
    there : IsThere h
    is : half h ≡ f
    on : IsOn facet_of (facet h) i

  half_of : (i : ℕ) (f : List ℕ) → i < length tets → Contains (faces (slice_index_or tets i [])) f → HasHalf i f
  half_of i f below c =
      let g = half_face_at tets i c.0 below c.1 in
      let one_each = facets.one_each in
      let there = g.there in
      record {
        h = 4 * i + c.0;
        there = there;
        is = g.is ∙ get_or_default (faces (slice_index_or tets i [])) c.0 [] f c.1 ∙ c.2;
        on = record { half_face = 4 * i + c.0; there = omega arith; facet_is = refl; tet_is = g.tet_is };
      }

  reachable_from : (x : List ℕ) → Outside x → (i : ℕ) → i < length tets → slice_index_or tets i [] ≡ x → Reachable i
  reachable_from x (starts_outside y c l) i below e =
      let P : List ℕ → Type 0 = λ z. Contains (faces z) l.face in
      let h = half_of i l.face below (subst P (sym e) l.of_x) in
      elim (cases_Bool (slice_index_or is_paired (facet h.h) false)) [
        | inl paired ↦ absurd (not_loose h.h h.there paired (ap (λ f. count (reversed f) tets) h.is ∙ l.loose))
        | inr unpaired ↦ starts i (record { facet = facet h.h; unpaired = unpaired; on = h.on })
      ]
  reachable_from x (goes_on_outside y z o c t) j below e =
      let at = place_of y o in
      let i_is : slice_index_or tets at.0 [] ≡ y = get_or_default tets at.0 [] y at.1 ∙ at.2 in
      let before = reachable_from y o at.0 at.1 i_is in
      let P : List ℕ → Type 0 = λ w. Contains (faces w) t.face in
      let Q : List ℕ → Type 0 = λ w. Contains (faces w) t.mate in
      let g = half_of at.0 t.face at.1 (subst P (sym i_is) t.of_x) in
      let h = half_of j t.mate below (subst Q (sym e) t.of_y) in
      let turns : Turns (reversed (half g.h)) (half h.h) = record { is = ap (λ f. is_rotation (reversed f) (half h.h)) g.is ∙ ap (is_rotation (reversed t.face)) h.is ∙ t.reverse } in
      let same : facet h.h ≡ facet g.h = facet_of_reverse g.h h.h g.there h.there turns in
      elim (cases_Bool (slice_index_or is_open (facet g.h) false)) [
        | inl opened ↦ goes_on at.0 j (facet g.h) before g.on (subst (λ d. IsOn facet_of d j) same h.on) opened
        | inr shut ↦ absurd (t.untracked (subst (Contains tracked) (ap rising g.is) (tracked_one g.h g.there shut)))
      ]

  pub AreRegions-from : (marks : List Bool) → length marks ≡ length tets → AreReachable facet_of is_open (IsLoose facet_of is_paired) marks → AreRegions tets tracked marks
  AreRegions-from marks one_each all = record {
    one_each = one_each;
    each = λ i below.
        let same = get_or_default marks i true false (omega arith) in
        (λ m. outside_from i (all.sound i (sym same ∙ m)), λ o. same ∙ all.complete i (reachable_from (slice_index_or tets i []) o i below refl));
  }
