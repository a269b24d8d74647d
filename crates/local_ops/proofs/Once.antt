-- Where no oriented face occurs twice, a split and a shift make none occur twice, nor does a collapse that lays no face on another.
use Rattle.std.proofs.Common.{◌≡◌, ◌≢◌, ℕ, ◌<◌, ◌≤◌, Bool, true, false, not, ◌&&◌, ◌||◌, cond, List, [], ◌∷◌, ◌++◌, map, length, pos, ◌+ℤ◌, ◌≤ℤ◌, refl, sym, ◌∙◌, ap, subst, inl, inr, arith}
use Rattle.std.specs.List.{filter, flat_map, list_all, AllByRecursion as Each}
use Rattle.std.specs.Prelude.{count_by, nat_lt}
use Rattle.std.proofs.lemmas.Bool.{cases_Bool, and_parts, ltb-false}
use Rattle.std.proofs.lemmas.Int.{ints}
use Rattle.std.proofs.lemmas.List.Concat.{flat_map_single}
use Rattle.std.proofs.lemmas.List.Elements.{recursion_from_All}
use Rattle.int_algebra.proofs.Laws.{linear}
use Rattle.grid.specs.declared.shapes.Point.{Point}
use Rattle.grid.specs.Determinants.{IsPositive}
use Rattle.grid.specs.Meshes.{Mesh, IsWellFormed}
use Rattle.grid.specs.Simplices.{has, put, replaced, sub, faces, all_faces, is_rotation, count}
use Rattle.mesh_types.specs.declared.tries.Try.TheVariants.{Split}
use Rattle.mesh_types.specs.Journals.{AllPositive, NoFaceTwice}
use Rattle.mesh_types.specs.Refines.{is_touched, sub_all, refine}
use Rattle.mesh_types.specs.Results.{middle_cut, split, shift, collapse}
use Rattle.mesh_types.specs.Tries.{is_candidate}
use Rattle.mesh_types.specs.Verdicts.{IsSingle}
use Rattle.grid.proofs.ForCallers.{Each-weaker, Each-both, Each-of_flat_map, has_none, has_none_from, replaced-back}
use Rattle.mesh_types.proofs.ForCallers.{Among, among-all, among-filter, Cornered, split_is, Each-passed, filter-parted, found, IsReady, number, count-number, faces-old, total-at_most, count-same, count-append, count-one, no-face, total-map, all_faces-replaced, replaced_none, Each-map, flat_map-none, count-rotation, rotations, filter-among, cornered_tets, once-split, bit, total, HaveSameSums, sums-parted, twins-none}
use Rattle.local_ops.specs.Apart.{is_apart, is_apart_from, shares_no_face}
use Rattle.local_ops.proofs.Ends.{split_ends}
use Rattle.local_ops.proofs.NewTets.{true-at}

-- ---- k in place of u, where nothing has k
module _ (u k : ℕ) where
  bit-less : (f g : List ℕ) → has g k ≡ false → bit (is_rotation f (replaced u k g)) ≤ℤ bit (is_rotation (replaced k u f) g)
  bit-less f g h = elim (cases_Bool (is_rotation f (replaced u k g))) [
    | inl e ↦ let back : is_rotation (replaced k u f) g ≡ true = subst (λ y. is_rotation (replaced k u f) y ≡ true) (replaced-back u k g h) (rotations.moves k u f (replaced u k g) e) in rw (e, back) (omega (arith, linear))
    | inr e ↦ rw e (elim (cases_Bool (is_rotation (replaced k u f) g)) [ inl d ↦ rw d (omega (arith, linear)) | inr d ↦ rw d (omega (arith, linear)) ])
  ]

  -- a face occurs at most as often as that which it came from
  pub count-replaced : (f : List ℕ) (ts : List (List ℕ)) → Each (λ g. has g k ≡ false) (all_faces ts) → count f (map (replaced u k) ts) ≤ count (replaced k u f) ts
  count-replaced f ts old =
      let all = count-number f (map (replaced u k) ts) ∙ (ap (number is_rotation f) (all_faces-replaced u k ts) ∙ total-map (λ g. bit (is_rotation f g)) (replaced u k) (all_faces ts)) in
      let less = total-at_most (λ g. bit (is_rotation f (replaced u k g))) (λ g. bit (is_rotation (replaced k u f) g)) (all_faces ts)
      (Each-weaker (λ g. has g k ≡ false) (λ g. bit (is_rotation f (replaced u k g)) ≤ℤ bit (is_rotation (replaced k u f) g)) (bit-less f) (all_faces ts) old) in
      let back = count-number (replaced k u f) ts in
      omega (arith, ints, all, less, back)

module _ (m : Mesh) (well : IsWellFormed m) (once : NoFaceTwice m) where
  abbrev n : ℕ
  n = length m.points

  faces_old : Each (λ g. has g n ≡ false) (all_faces m.tets)
  faces_old = Each-of_flat_map (Cornered n) (λ g. has g n ≡ false) faces (faces-old n) m.tets (cornered_tets m well)

  -- the tetrahedra with a new point in place of u, in the order of the result
  shifted-same : (u : ℕ) → HaveSameSums (map (replaced u n) m.tets) (filter (λ x. not (has x u)) m.tets ++ map (replaced u n) (filter (λ x. has x u) m.tets))
  shifted-same u f = ap (total f) (sym (flat_map_single (replaced u n) m.tets))
      ∙ (sums-parted (λ x. has x u) (λ x. replaced u n x ∷ []) (λ x e. ap (λ y. y ∷ []) (replaced_none u n x e)) m.tets f
      ∙ ap (λ t. total f (filter (λ x. not (has x u)) m.tets ++ t)) (flat_map_single (replaced u n) (filter (λ x. has x u) m.tets)))

  pub single-shift : (u : ℕ) (p : Point) → IsSingle (shift m u p)
  unfolding shift
  single-shift u p a b c some =
      let f : List ℕ = a ∷ b ∷ c ∷ [] in
      let same = count-same f (map (replaced u n) m.tets) (filter (λ x. not (has x u)) m.tets ++ map (replaced u n) (filter (λ x. has x u) m.tets)) (shifted-same u) in
      let less = count-replaced u n f m.tets faces_old in
      let one = once (put n u a) (put n u b) (put n u c) in
      omega (arith, ints, same, less, one)

  ready : (u v : ℕ) → is_candidate m.tets (Split u v) ≡ true → IsReady u v n m.tets
  ready u v c =
      let ends = split_ends m u v well c in
      let rise = (split_is m.tets u v c).0 in
      record { new = record { ends_differ = below u v rise; not_first = below u n ends.0; not_second = below v n ends.1 }; cornered = cornered_tets m well }
    where
      below : (a b : ℕ) → a < b → a ≢ b
      below a b l e = omega arith

  split-same : (u v : ℕ) → HaveSameSums (flat_map (sub u v n) m.tets) (split m u v).mesh.tets
  unfolding split refine
  split-same u v f =
      ap (total f) (sym (alike m.tets))
      ∙ sums-parted (is_touched (middle_cut m u v)) (sub_all n (middle_cut m u v)) untouched m.tets f
    where
      alike : (ts : List (List ℕ)) → flat_map (sub_all n (middle_cut m u v)) ts ≡ flat_map (sub u v n) ts
      alike [] = refl
      alike (x ∷ ts) = (λ i. flat_map-none (sub u v n x) i ++ alike ts i)

      untouched : (x : List ℕ) → is_touched (middle_cut m u v) x ≡ false → sub_all n (middle_cut m u v) x ≡ x ∷ []
      untouched x e = flat_map-none (sub u v n x) ∙ by (has x u && has x v) e
        where
          by : (b : Bool) → (b || false) ≡ false → cond b (replaced u n x ∷ replaced v n x ∷ []) (x ∷ []) ≡ x ∷ []
          by true e = cc e
          by false e = refl

  pub single-split : (u v : ℕ) → AllPositive m → is_candidate m.tets (Split u v) ≡ true → IsSingle (split m u v)
  single-split u v positive c a b d some =
      let f : List ℕ = a ∷ b ∷ d ∷ [] in
      let sound = Each-both (Cornered n) (λ x. IsPositive m.points x) m.tets (cornered_tets m well) (recursion_from_All (IsPositive m.points) m.tets positive) in
      let one = once-split u v n m.tets (ready u v c) once (twins-none n m.points m.tets sound once) a b d in
      let same = count-same f (flat_map (sub u v n) m.tets) (split m u v).mesh.tets (split-same u v) in
      omega (arith, ints, one, same)

-- ---- the collapse
lacks-faces : (k : ℕ) (x : List ℕ) → has x k ≡ false → Each (λ g. has g k ≡ false) (faces x)
lacks-faces k [] h = tt
lacks-faces k (a ∷ []) h = tt
lacks-faces k (a ∷ b ∷ []) h = tt
lacks-faces k (a ∷ b ∷ c ∷ []) h = tt
lacks-faces k (a ∷ b ∷ c ∷ d ∷ []) h =
    let p = has_none a (b ∷ c ∷ d ∷ []) k h in
    let q = has_none b (c ∷ d ∷ []) k p.1 in
    let r = has_none c (d ∷ []) k q.1 in
    let t = has_none d [] k r.1 in
    (three a c b p.0 r.0 q.0, (three a b d p.0 q.0 t.0, (three a d c p.0 t.0 r.0, (three b c d q.0 r.0 t.0, tt))))
  where
    three : (a b c : ℕ) → a ≢ k → b ≢ k → c ≢ k → has (a ∷ b ∷ c ∷ []) k ≡ false
    three a b c p q r = has_none_from a (b ∷ c ∷ []) k p (has_none_from b (c ∷ []) k q (has_none_from c [] k r refl))
lacks-faces k (a ∷ b ∷ c ∷ d ∷ e ∷ x) h = tt

-- fewer tetrahedra have a face less often
fewer : (f : List ℕ) (p q : List ℕ → Bool) → ((x : List ℕ) → p x ≡ true → q x ≡ true) → (xs : List (List ℕ)) → count f (filter p xs) ≤ count f (filter q xs)
fewer f p q h [] = omega arith
fewer f p q h (x ∷ xs) =
    let rest = fewer f p q h xs in
    let ps = count-append f (x ∷ []) (filter p xs) in
    let qs = count-append f (x ∷ []) (filter q xs) in
    elim (cases_Bool (p x)) [
      | inl e ↦ rw (e, h x e) (omega (arith, ints, rest, ps, qs))
      | inr e ↦ elim (cases_Bool (q x)) [
        | inl d ↦ rw (e, d) (omega (arith, ints, rest, qs))
        | inr d ↦ rw (e, d) rest
      ]
    ]

none-count : (f : List ℕ) (xs : List (List ℕ)) → Each (λ x. count f (x ∷ []) ≡ 0) xs → count f xs ≡ 0
none-count f [] h = refl
none-count f (x ∷ xs) h = let rest = none-count f xs h.1 in let all = count-append f (x ∷ []) xs in omega (arith, ints, rest, all, h.0)

module _ (m : Mesh) (once : NoFaceTwice m) (u v : ℕ) where
  abbrev stay : List (List ℕ)
  stay = filter (λ x. not (has x u)) m.tets

  abbrev gone : List (List ℕ)
  gone = filter (λ x. has x u) m.tets

  abbrev move : List (List ℕ)
  move = filter (λ x. has x u && not (has x v)) m.tets

  parted-count : (f : List ℕ) → pos (count f m.tets) ≡ pos (count f stay) +ℤ pos (count f gone)
  parted-count f = count-same f m.tets (stay ++ gone) (filter-parted (λ x. has x u) m.tets) ∙ count-append f stay gone

  moved-fewer : (f : List ℕ) → count f move ≤ count f gone
  moved-fewer f = fewer f (λ x. has x u && not (has x v)) (λ x. has x u) (λ x e. (and_parts (has x u) (not (has x v)) e).0) m.tets

  lacking : Each (λ g. has g v ≡ false) (all_faces move)
  lacking = Each-of_flat_map (λ x. (has x u && not (has x v)) ≡ true) (λ g. has g v ≡ false) faces (λ x e. lacks-faces v x (off (has x v) (and_parts (has x u) (not (has x v)) e).1)) move (Each-passed (λ x. has x u && not (has x v)) m.tets)
    where
      off : (b : Bool) → not b ≡ true → b ≡ false
      off true e = sym e
      off false e = refl

  module _ (apart : list_all (is_apart u v (filter (λ x. has x v) m.tets)) gone ≡ true) where
    -- a face that a moved tetrahedron takes on occurs in none that stays
    face-alone : (x g : List ℕ) → Among gone x → has x v ≡ false → Among (faces (replaced u v x)) g → (z : List ℕ) → Among (filter (λ x. has x v) m.tets) z → has z u ≡ false → nat_lt 0 (count_by (is_rotation g) (faces z)) ≡ false
    face-alone x g i off j z k no_u =
        let y = replaced u v x in
        let one = true-at (is_apart u v (filter (λ x. has x v) m.tets)) gone x apart i in
        let all : list_all (is_apart_from u y) (filter (λ x. has x v) m.tets) ≡ true = rw off at one in
        let from = true-at (is_apart_from u y) (filter (λ x. has x v) m.tets) z all k in
        let none : shares_no_face y z ≡ true = rw no_u at from in
        not-true (nat_lt 0 (count_by (is_rotation g) (faces z))) (true-at (λ f. not (nat_lt 0 (count_by (is_rotation f) (faces z)))) (faces y) g none j)
      where
        not-true : (b : Bool) → not b ≡ true → b ≡ false
        not-true true e = sym e
        not-true false e = refl

    abbrev IsAlone : List ℕ → Type 0
    IsAlone g = (z : List ℕ) → Among (filter (λ x. has x v) m.tets) z → has z u ≡ false → nat_lt 0 (count_by (is_rotation g) (faces z)) ≡ false

    alone-faces : Each IsAlone (all_faces (map (replaced u v) move))
    alone-faces = Each-of_flat_map (λ y. Each IsAlone (faces y)) IsAlone faces (λ y h. h) (map (replaced u v) move)
        (Each-map (λ x. Among m.tets x × ((has x u && not (has x v)) ≡ true)) (λ y. Each IsAlone (faces y)) (replaced u v) one move (filter-among (λ x. has x u && not (has x v)) m.tets))
      where
        off : (b : Bool) → not b ≡ true → b ≡ false
        off true e = sym e
        off false e = refl

        one : (x : List ℕ) → Among m.tets x × ((has x u && not (has x v)) ≡ true) → Each IsAlone (faces (replaced u v x))
        one x i =
            let e = and_parts (has x u) (not (has x v)) i.1 in
            Each-weaker (Among (faces (replaced u v x))) IsAlone (λ g j. face-alone x g (among-filter (λ x. has x u) m.tets x i.0 e.0) (off (has x v) e.1) j) (faces (replaced u v x)) (among-all (faces (replaced u v x)))

    stay-none : (a b c : ℕ) → has (a ∷ b ∷ c ∷ []) v ≡ true → 0 < count (a ∷ b ∷ c ∷ []) (map (replaced u v) move) → count (a ∷ b ∷ c ∷ []) stay ≡ 0
    stay-none a b c at_v some =
        let f : List ℕ = a ∷ b ∷ c ∷ [] in
        let g = found IsAlone (is_rotation f) (all_faces (map (replaced u v) move)) alone-faces some in
        none-count f stay (Each-weaker (λ x. Among m.tets x × (not (has x u) ≡ true)) (λ z. count f (z ∷ []) ≡ 0) (λ z i. one g.0 g.1 g.2 z i.0 i.1) stay (filter-among (λ x. not (has x u)) m.tets))
      where
        off : (b : Bool) → not b ≡ true → b ≡ false
        off true e = sym e
        off false e = refl

        one : (g : List ℕ) → IsAlone g → is_rotation (a ∷ b ∷ c ∷ []) g ≡ true → (z : List ℕ) → Among m.tets z → not (has z u) ≡ true → count (a ∷ b ∷ c ∷ []) (z ∷ []) ≡ 0
        one g alone turn z i e = elim (cases_Bool (has z v)) [
          | inr d ↦ count-one (a ∷ b ∷ c ∷ []) z ∙ no-face (a ∷ b ∷ c ∷ []) v at_v z d
          | inl d ↦
              let none = ltb-false 0 (count_by (is_rotation g) (faces z)) (alone z (among-filter (λ x. has x v) m.tets z i d) (off (has z u) e)) in
              let zero : count_by (is_rotation g) (faces z) ≡ 0 = omega (arith, none) in
              count-rotation a b c g (z ∷ []) turn ∙ (count-one g z ∙ zero)
        ]

    pub single-collapse : IsSingle (collapse m u v)
    unfolding collapse
    single-collapse a b c some =
        let f : List ℕ = a ∷ b ∷ c ∷ [] in
        let moved = map (replaced u v) move in
        let all = count-append f stay moved in
        let less = count-replaced u v f move lacking in
        elim (cases_Bool (has f v)) [
          | inl e ↦
              let zero = stay-none a b c e some in
              let back = replaced v u f in
              let parts = parted-count back in
              let few = moved-fewer back in
              let one = once (put v u a) (put v u b) (put v u c) in
              omega (arith, ints, all, less, zero, parts, few, one)
          | inr e ↦
              let same = ap (λ g. count g move) (replaced_none v u f e) in
              let parts = parted-count f in
              let few = moved-fewer f in
              let one = once a b c in
              omega (arith, ints, all, less, same, parts, few, one)
        ]
