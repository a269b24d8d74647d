-- What every result replaces: the tetrahedra that go are of the mesh, near the try, and the others stay.
use Rattle.std.proofs.Common.{◌≡◌, ◌≢◌, ℕ, ◌+◌, List, [], ◌∷◌, ◌++◌, length, Bool, true, false, not, ◌&&◌, ◌||◌, cond, Option, None, Some, ℤ, ◌+ℤ◌, refl, sym, ◌∙◌, ap, subst, inl, inr, eqb, arith}
use Rattle.std.proofs.lemmas.List.{append-nil}
use Rattle.std.specs.List.{filter, find, flat_map, list_any, AllByRecursion as Each}
use Rattle.std.proofs.lemmas.Bool.{cases_Bool, and_parts, or_cases, or_right, true≢false}
use Rattle.int_algebra.proofs.Laws.{linear}
use Rattle.grid.specs.declared.shapes.Point.{Point}
use Rattle.grid.specs.Simplices.{has, reversed}
use Rattle.grid.specs.Meshes.{Mesh}
use Rattle.mesh_types.specs.declared.tries.Try.{Try}
use Rattle.mesh_types.specs.declared.tries.Try.TheVariants.{Split, Shift, Collapse, FaceSwap, EdgeSwap}
use Rattle.mesh_types.specs.Refines.{is_touched, refine}
use Rattle.mesh_types.specs.Results.{Result, unchanged, without, middle_cut, split, target, shift, collapse, has_face, as_in, first_outside, is_across, swapped_at, swapped_across, swapped_from, face_swap, unhinged_at, unhinged, edge_swap, result_of}
use Rattle.grid.proofs.ForCallers.{Each-weaker, has_first}
use Rattle.mesh_types.proofs.ForCallers.{Among, Each-passed, has-corner, among-without, without-total, second, third, found_at, total}

-- the tetrahedron may be replaced by the try
abbrev pub is_near : Try → List ℕ → Bool
is_near (Split u v) x = has x u && has x v
is_near (Shift u way) x = has x u
is_near (Collapse u v) x = has x u
is_near (FaceSwap a b c) x = has x a && has x b
is_near (EdgeSwap u v) x = has x u && has x v

pub record IsReplacement (m : Mesh) (r : Result) (near : List ℕ → Bool) : Type 0 where
  pub kept : List (List ℕ)
  pub tets : r.mesh.tets ≡ kept ++ r.fresh
  pub made : r.mesh.made ≡ m.made + length r.fresh
  pub sums : (g : List ℕ → ℤ) → total g m.tets ≡ total g kept +ℤ total g r.gone
  pub gone_near : Each (λ x. near x ≡ true) r.gone

parted : (g : List ℕ → ℤ) (p : List ℕ → Bool) (xs : List (List ℕ)) → total g xs ≡ total g (filter (λ x. not (p x)) xs) +ℤ total g (filter p xs)
parted g p [] = omega (arith, linear)
parted g p (x ∷ xs) =
    let rest = parted g p xs in
    elim (cases_Bool (p x)) [
      | inl e ↦ rw e (omega (arith, linear, rest))
      | inr e ↦ rw e (omega (arith, linear, rest))
    ]

module _ (m : Mesh) where
  of_unchanged : (near : List ℕ → Bool) → IsReplacement m (unchanged m) near
  of_unchanged near = record {
    kept = m.tets;
    tets = sym (append-nil m.tets);
    made = omega arith;
    sums = λ g. omega (arith, linear);
    gone_near = tt;
  }

  of_split : (u v : ℕ) → IsReplacement m (split m u v) (is_near (Split u v))
  unfolding split refine
  of_split u v = record {
    kept = filter (λ x. not (is_touched (middle_cut m u v) x)) m.tets;
    tets = refl;
    made = refl;
    sums = λ g. parted g (is_touched (middle_cut m u v)) m.tets;
    gone_near = Each-weaker (λ x. is_touched (middle_cut m u v) x ≡ true) (λ x. (has x u && has x v) ≡ true) (λ x h. one (has x u && has x v) h) (filter (is_touched (middle_cut m u v)) m.tets) (Each-passed (is_touched (middle_cut m u v)) m.tets);
  }
    where
      one : (b : Bool) → (b || false) ≡ true → b ≡ true
      one true h = refl
      one false h = h

  of_shift : (u way : ℕ) (p : Point) → IsReplacement m (shift m u p) (is_near (Shift u way))
  unfolding shift
  of_shift u way p = record {
    kept = filter (λ x. not (has x u)) m.tets;
    tets = refl;
    made = refl;
    sums = λ g. parted g (λ x. has x u) m.tets;
    gone_near = Each-passed (λ x. has x u) m.tets;
  }

  of_collapse : (u v : ℕ) → IsReplacement m (collapse m u v) (is_near (Collapse u v))
  unfolding collapse
  of_collapse u v = record {
    kept = filter (λ x. not (has x u)) m.tets;
    tets = refl;
    made = refl;
    sums = λ g. parted g (λ x. has x u) m.tets;
    gone_near = Each-passed (λ x. has x u) m.tets;
  }

  -- ---- face swaps
  both : (a b c : ℕ) (f x : List ℕ) → has_face f x ≡ true → has f a ≡ true → has f b ≡ true → (has x a && has x b) ≡ true
  both a b c f x h p q = rw (has-corner f x a h p, has-corner f x b h q) refl

  at_face : (a b c : ℕ) (x : List ℕ) → (has_face (a ∷ b ∷ c ∷ []) x || has_face (a ∷ c ∷ b ∷ []) x) ≡ true → (has x a && has x b) ≡ true
  at_face a b c x h = elim (or_cases (has_face (a ∷ b ∷ c ∷ []) x) (has_face (a ∷ c ∷ b ∷ []) x) h) [
    | inl e ↦ both a b c (a ∷ b ∷ c ∷ []) x e (has_first a (b ∷ c ∷ [])) (second a b (c ∷ []))
    | inr e ↦ both a b c (a ∷ c ∷ b ∷ []) x e (has_first a (c ∷ b ∷ [])) (third a c b [])
  ]

  across_face : (a b c : ℕ) (x y : List ℕ) → has_face (reversed (as_in (a ∷ b ∷ c ∷ []) x)) y ≡ true → (has y a && has y b) ≡ true
  across_face a b c x y h = by (has_face (a ∷ b ∷ c ∷ []) x) h
    where
      by : (t : Bool) → has_face (reversed (cond t (a ∷ b ∷ c ∷ []) (a ∷ c ∷ b ∷ []))) y ≡ true → (has y a && has y b) ≡ true
      by true h = both a b c (a ∷ c ∷ b ∷ []) y h (has_first a (c ∷ b ∷ [])) (third a c b [])
      by false h = both a b c (a ∷ b ∷ c ∷ []) y h (has_first a (b ∷ c ∷ [])) (second a b (c ∷ []))

  -- a tetrahedron with a corner that x has not is another one
  differ : (x y : List ℕ) → list_any (λ o. not (has x o)) y ≡ true → y ≢ x
  differ x y h e = same (subst (λ z. list_any (λ o. not (has x o)) z ≡ true) e h)
    where
      none : (zs : List ℕ) → ((o : ℕ) → has zs o ≡ true → has x o ≡ true) → list_any (λ o. not (has x o)) zs ≡ false
      none [] k = refl
      none (z ∷ zs) k = rw (k z (has_first z zs)) (none zs (λ o i. k o (or_right (eqb z o) (has zs o) i)))

      same : list_any (λ o. not (has x o)) x ≡ true → ⊥
      same k = true≢false (sym k ∙ none x (λ o i. i))

  of_face_swap : (a b c : ℕ) → IsReplacement m (face_swap m a b c) (is_near (FaceSwap a b c))
  unfolding face_swap
  of_face_swap a b c = from (find _ m.tets) refl
    where
      near : List ℕ → Bool
      near = is_near (FaceSwap a b c)

      abc : List ℕ
      abc = a ∷ b ∷ c ∷ []

      at : (x y : List ℕ) → Among m.tets x → Among m.tets y → y ≢ x → near x ≡ true → near y ≡ true → (o : Option ℕ) → IsReplacement m (swapped_at m a b c x y o) near
      at x y i j n p q None = of_unchanged near
      at x y i j n p q (Some e) = record {
        kept = without y (without x m.tets);
        tets = refl;
        made = refl;
        sums = λ g. let d = without-total g x m.tets i in let e = without-total g y (without x m.tets) (among-without x m.tets y n j) in omega (arith, linear, d, e);
        gone_near = (p, (q, tt));
      }

      across : (x : List ℕ) → Among m.tets x → near x ≡ true → (o : Option (List ℕ)) → find (is_across abc x) m.tets ≡ o → IsReplacement m (swapped_across m a b c x o) near
      across x i p None e = of_unchanged near
      across x i p (Some y) e =
          let y_at = found_at (is_across abc x) m.tets y e in
          let parts = and_parts (has_face (reversed (as_in abc x)) y) (list_any (λ o. not (has x o)) y) y_at.1 in
          at x y i y_at.0 (differ x y parts.1) p (across_face a b c x y parts.0) (first_outside x y)

      from : (o : Option (List ℕ)) → find (λ x. has_face (a ∷ b ∷ c ∷ []) x || has_face (a ∷ c ∷ b ∷ []) x) m.tets ≡ o → IsReplacement m (swapped_from m a b c o) near
      from None e = of_unchanged near
      from (Some x) e =
          let x_at = found_at (λ x. has_face (a ∷ b ∷ c ∷ []) x || has_face (a ∷ c ∷ b ∷ []) x) m.tets x e in
          across x x_at.0 (at_face a b c x x_at.1) (find (is_across abc x) m.tets) refl

  -- ---- edge swaps
  of_edge_swap : (u v : ℕ) → IsReplacement m (edge_swap m u v) (is_near (EdgeSwap u v))
  unfolding edge_swap
  of_edge_swap u v = from (filter (λ x. has x u && has x v) m.tets) refl
    where
      near : List ℕ → Bool
      near = is_near (EdgeSwap u v)

      at : (gone : List (List ℕ)) → filter (λ x. has x u && has x v) m.tets ≡ gone → (x : List ℕ) (o : Option ℕ) → IsReplacement m (unhinged_at m u v gone x o) near
      at gone e x None = of_unchanged near
      at gone e x (Some c) = record {
        kept = filter (λ x. not (has x u && has x v)) m.tets;
        tets = refl;
        made = refl;
        sums = λ g. parted g (λ x. has x u && has x v) m.tets ∙ ap (λ xs. total g (filter (λ x. not (has x u && has x v)) m.tets) +ℤ total g xs) e;
        gone_near = subst (Each (λ x. near x ≡ true)) e (Each-passed (λ x. has x u && has x v) m.tets);
      }

      from : (gone : List (List ℕ)) → filter (λ x. has x u && has x v) m.tets ≡ gone → IsReplacement m (unhinged m u v gone) near
      from [] e = of_unchanged near
      from (x ∷ others) e = at (x ∷ others) e x (first_outside x (flat_map (λ y. y) others))

  pub replacement : (l : ℕ) (t : Try) → IsReplacement m (result_of l m t) (is_near t)
  replacement l (Split u v) = of_split u v
  replacement l (Shift u way) = of_shift u way (target l m u way)
  replacement l (Collapse u v) = of_collapse u v
  replacement l (FaceSwap a b c) = of_face_swap a b c
  replacement l (EdgeSwap u v) = of_edge_swap u v
