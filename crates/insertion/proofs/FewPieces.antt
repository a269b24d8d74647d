-- How many pieces of a simplex the cuts between marked corners make, and the corners that stay in each piece.
use Rattle.std.proofs.Common.{◌≡◌, ◌≢◌, ℕ, zero, suc, ◌+◌, ◌*◌, ◌<◌, ◌≤◌, Bool, true, false, not, ◌&&◌, List, [], ◌∷◌, ◌++◌, length, count_by, sym, ap, ◌∙◌, subst, inl, inr, arith, length-append}
use Rattle.std.specs.List.{flat_map, filter, AllByRecursion as Each}
use Rattle.std.proofs.lemmas.Bool.{cases_Bool, and_parts, true≢false}
use Rattle.std.proofs.lemmas.List.Sums.{count_by-le-length}
use Rattle.grid.specs.Simplices.{has, put, replaced, sub}
use Rattle.mesh_types.specs.declared.cut.Cut.{Cut}
use Rattle.mesh_types.specs.Refines.{sub_all}
use Rattle.grid.proofs.ForCallers.{Each-of_flat_map, count_by-cons, count_by-cons_yes, count_by-cons_no, has_cases, put_cases, has-replaced_other}
use Rattle.mesh_types.proofs.ForCallers.{sub-touched, sub-untouched}

-- ---- marked corners
-- a cut between two different corners that are marked
pub record IsMarked (q : ℕ → Bool) (e : Cut) : Type 0 where
  pub first : q e.u ≡ true
  pub second : q e.v ≡ true
  pub differ : e.u ≢ e.v

some-marked : (q : ℕ → Bool) (c : ℕ) (x : List ℕ) → has x c ≡ true → q c ≡ true → 1 ≤ count_by q x
some-marked q c [] h m = absurd (true≢false (sym h))
some-marked q c (a ∷ x) h m = elim (has_cases a x c h) [
  | inl e ↦ omega (arith, count_by-cons_yes q a x (ap q e ∙ m))
  | inr e ↦ omega (arith, count_by-cons q a x, some-marked q c x e m)
]

pub some-unmarked : (q : ℕ → Bool) (c : ℕ) (x : List ℕ) → has x c ≡ true → q c ≡ false → suc (count_by q x) ≤ length x
some-unmarked q c [] h m = absurd (true≢false (sym h))
some-unmarked q c (a ∷ x) h m = elim (has_cases a x c h) [
  | inl e ↦ omega (arith, count_by-cons_no q a x (ap q e ∙ m), count_by-le-length q x)
  | inr e ↦ omega (arith, count_by-le-length q (a ∷ []), count_by-cons q a x, count_by-cons q a [], some-unmarked q c x e m)
]

-- a corner that is not marked in place of another
no-more : (q : ℕ → Bool) (u j : ℕ) (x : List ℕ) → q j ≡ false → count_by q (replaced u j x) ≤ count_by q x
no-more q u j [] m = omega arith
no-more q u j (a ∷ x) m = elim (put_cases u j a) [
  | inl e ↦ omega (arith, no-more q u j x m, count_by-cons_no q (put u j a) (replaced u j x) (ap q e.1 ∙ m), count_by-cons q a x)
  | inr e ↦ omega (arith, no-more q u j x m, ap (λ b. count_by q (b ∷ replaced u j x)) e.1, count_by-cons q a (replaced u j x), count_by-cons q a x)
]

fewer : (q : ℕ → Bool) (u j : ℕ) (x : List ℕ) → has x u ≡ true → q u ≡ true → q j ≡ false → suc (count_by q (replaced u j x)) ≤ count_by q x
fewer q u j [] h n m = absurd (true≢false (sym h))
fewer q u j (a ∷ x) h n m = elim (put_cases u j a) [
  | inl e ↦ omega (arith, no-more q u j x m, count_by-cons_no q (put u j a) (replaced u j x) (ap q e.1 ∙ m), count_by-cons_yes q a x (ap q e.0 ∙ n))
  | inr e ↦ elim (has_cases a x u h) [
    | inl f ↦ absurd (e.0 f)
    | inr f ↦ omega (arith, fewer q u j x f n m, ap (λ b. count_by q (b ∷ replaced u j x)) e.1, count_by-cons q a (replaced u j x), count_by-cons q a x)
  ]
]

-- ---- pieces
-- 1 doubled n times
abbrev pub doubled : ℕ → ℕ
doubled zero = 1
doubled (suc n) = doubled n + doubled n

doubled-some : (n : ℕ) → 1 ≤ doubled n
doubled-some zero = omega arith
doubled-some (suc n) = omega (arith, doubled-some n)

alone : (f : List ℕ → List (List ℕ)) (x : List ℕ) (n : ℕ) → length (f x) ≤ n → length (flat_map f (x ∷ [])) ≤ n
alone f x n h = omega (arith, h, length-append (f x) [])

together : (f : List ℕ → List (List ℕ)) (x y : List ℕ) (n : ℕ) → length (f x) ≤ n → length (f y) ≤ n → length (flat_map f (x ∷ y ∷ [])) ≤ n + n
together f x y n h g = omega (arith, h, g, length-append (f x) (f y ++ []), length-append (f y) [])

-- the points from k on are new, and not marked
module _ (q : ℕ → Bool) (k : ℕ) (new : (n : ℕ) → k ≤ n → q n ≡ false) where
  marked-other : (u c : ℕ) → q u ≡ true → q c ≡ false → c ≢ u
  marked-other u c m n e = true≢false (sym m ∙ (ap q (sym e) ∙ n))

  -- each piece has fewer marked corners
  left-fewer : (j : ℕ) (e : Cut) (x : List ℕ) → k ≤ j → IsMarked q e → (has x e.u && has x e.v) ≡ true → suc (count_by q (replaced e.u j x)) ≤ count_by q x
  left-fewer j e x le m h = fewer q e.u j x (and_parts (has x e.u) (has x e.v) h).0 m.first (new j le)

  right-fewer : (j : ℕ) (e : Cut) (x : List ℕ) → k ≤ j → IsMarked q e → (has x e.u && has x e.v) ≡ true → suc (count_by q (replaced e.v j x)) ≤ count_by q x
  right-fewer j e x le m h = fewer q e.v j x (and_parts (has x e.u) (has x e.v) h).1 m.second (new j le)

  -- a simplex with both ends of a cut has two marked corners
  two-marked : (j : ℕ) (e : Cut) (x : List ℕ) → k ≤ j → IsMarked q e → (has x e.u && has x e.v) ≡ true → 2 ≤ count_by q x
  two-marked j e x le m h =
      let other = has-replaced_other e.u j e.v x (λ f. m.differ (sym f)) (λ f. true≢false (sym m.second ∙ (ap q f ∙ new j le))) in
      omega (arith, left-fewer j e x le m h, some-marked q e.v (replaced e.u j x) (other ∙ (and_parts (has x e.u) (has x e.v) h).1) m.second)

  pub few-pieces : (j : ℕ) (es : List Cut) (x : List ℕ) (c : ℕ) → k ≤ j → Each (IsMarked q) es → count_by q x ≤ suc c → length (sub_all j es x) ≤ doubled c
  few-pieces j [] x c le m n = doubled-some c
  few-pieces j (e ∷ es) x zero le m n = elim (cases_Bool (has x e.u && has x e.v)) [
    | inl h ↦ let two = two-marked j e x le m.0 h in absurd (omega arith)
    | inr h ↦ subst (λ xs. length (flat_map (sub_all (j + 1) es) xs) ≤ 1) (sym (sub-untouched e.u e.v j x h)) (alone (sub_all (j + 1) es) x 1 (few-pieces (j + 1) es x zero (omega arith) m.1 n))
  ]
  few-pieces j (e ∷ es) x (suc c) le m n = elim (cases_Bool (has x e.u && has x e.v)) [
    | inl h ↦
        subst (λ xs. length (flat_map (sub_all (j + 1) es) xs) ≤ doubled (suc c)) (sym (sub-touched e.u e.v j x h))
        (together (sub_all (j + 1) es) (replaced e.u j x) (replaced e.v j x) (doubled c)
        (few-pieces (j + 1) es (replaced e.u j x) c (omega arith) m.1 (omega (arith, left-fewer j e x le m.0 h)))
        (few-pieces (j + 1) es (replaced e.v j x) c (omega arith) m.1 (omega (arith, right-fewer j e x le m.0 h))))
    | inr h ↦ subst (λ xs. length (flat_map (sub_all (j + 1) es) xs) ≤ doubled (suc c)) (sym (sub-untouched e.u e.v j x h)) (alone (sub_all (j + 1) es) x (doubled (suc c)) (few-pieces (j + 1) es x (suc c) (omega arith) m.1 n))
  ]

  -- a corner that is not marked stays in each piece
  stays-one : (j c u v : ℕ) (x : List ℕ) → c < j → q c ≡ false → q u ≡ true → q v ≡ true → has x c ≡ true → Each (λ y. has y c ≡ true) (sub u v j x)
  stays-one j c u v x lt n mu mv h = elim (cases_Bool (has x u && has x v)) [
    | inl e ↦
        let older : c ≢ j = omega arith in
        subst (Each (λ y. has y c ≡ true)) (sym (sub-touched u v j x e))
        (has-replaced_other u j c x (marked-other u c mu n) older ∙ h, (has-replaced_other v j c x (marked-other v c mv n) older ∙ h, tt))
    | inr e ↦ subst (Each (λ y. has y c ≡ true)) (sym (sub-untouched u v j x e)) (h, tt)
  ]

  pub stays : (j c : ℕ) (es : List Cut) (x : List ℕ) → c < j → q c ≡ false → Each (IsMarked q) es → has x c ≡ true → Each (λ y. has y c ≡ true) (sub_all j es x)
  stays j c [] x lt n m h = (h, tt)
  stays j c (e ∷ es) x lt n m h =
      Each-of_flat_map (λ y. has y c ≡ true) (λ y. has y c ≡ true) (sub_all (j + 1) es) (λ y g. stays (j + 1) c es y (omega arith) n m.1 g) (sub e.u e.v j x)
      (stays-one j c e.u e.v x lt n m.0.first m.0.second h)

-- ---- the tetrahedra of a mesh
-- only a near one is touched, of a near one there are at most four pieces, and none comes near by staying as it is
pub record IsCutFew (near after touched : List ℕ → Bool) (pieces : List ℕ → List (List ℕ)) (x : List ℕ) : Type 0 where
  pub here : touched x ≡ true → near x ≡ true
  pub few : near x ≡ true → length (pieces x) ≤ 4
  pub far : near x ≡ false → after x ≡ false

pub near-few : (near after touched : List ℕ → Bool) (pieces : List ℕ → List (List ℕ)) (xs : List (List ℕ)) → Each (IsCutFew near after touched pieces) xs
    → length (filter after (filter (λ x. not (touched x)) xs)) + length (flat_map pieces (filter touched xs)) ≤ 4 * length (filter near xs)
near-few near after touched pieces [] h = omega arith
near-few near after touched pieces (x ∷ xs) h =
    let rest = near-few near after touched pieces xs h.1 in
    elim (cases_Bool (touched x)) [
      | inl e ↦ rw (e, h.0.here e) (omega (arith, rest, h.0.few (h.0.here e), length-append (pieces x) (flat_map pieces (filter touched xs))))
      | inr e ↦ elim (cases_Bool (near x)) [
        | inl f ↦ elim (cases_Bool (after x)) [
          | inl g ↦ rw (e, f, g) (omega (arith, rest))
          | inr g ↦ rw (e, f, g) (omega (arith, rest))
        ]
        | inr f ↦ rw (e, f, h.0.far f) rest
      ]
    ]
