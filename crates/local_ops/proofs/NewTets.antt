-- What the tests of the new tetrahedra mean.
use Rattle.std.proofs.Common.{◌≡◌, ℕ, ◌<◌, ◌≤◌, Bool, true, false, List, [], ◌∷◌, ◌++◌, All, pos, refl, sym, ◌∙◌, ap, subst, inl, inr, arith}
use Rattle.std.specs.Prelude.{nat_lt, count_by}
use Rattle.std.specs.List.{AllByRecursion as Each, list_all, list_any, flat_map}
use Rattle.std.proofs.lemmas.Bool.{cases_Bool, and_from, and_parts, ltb-false, true≢false}
use Rattle.std.proofs.lemmas.List.Elements.{recursion_from_All}
use Rattle.int_algebra.proofs.Orders.{less_test}
use Rattle.grid.proofs.ForCallers.{count_by-cons_yes, count_by-cons_no, equal3-refl}
use Rattle.grid.specs.declared.shapes.Point.{Point}
use Rattle.grid.specs.Determinants.{det_at, IsPositive}
use Rattle.grid.specs.Simplices.{faces, all_faces, is_rotation, count}
use Rattle.mesh_types.specs.Results.{Result}
use Rattle.mesh_types.specs.Verdicts.{IsSingle}
use Rattle.mesh_types.proofs.ForCallers.{Among, among-flat, positive_test, single_test, any_among}
use Rattle.local_ops.specs.Measures.{is_positive, has_single_faces}

-- ---- all of a list
pub all-true : {X : Type 0} (p : X → Bool) (xs : List X) → ((x : X) → Among xs x → p x ≡ true) → list_all p xs ≡ true
all-true p [] h = refl
all-true p (x ∷ xs) h = and_from (p x) (list_all p xs) (h x (inl refl)) (all-true p xs (λ y i. h y (inr i)))

pub true-at : {X : Type 0} (p : X → Bool) (xs : List X) (x : X) → list_all p xs ≡ true → Among xs x → p x ≡ true
true-at p [] x h i = absurd i
true-at p (y ∷ xs) x h (inl e) = ap p (sym e) ∙ (and_parts (p y) (list_all p xs) h).0
true-at p (y ∷ xs) x h (inr i) = true-at p xs x (and_parts (p y) (list_all p xs) h).1 i

all-from_each : {X : Type 0} (p : X → Bool) (P : X → Type 0) → ((x : X) → P x → p x ≡ true) → (xs : List X) → Each P xs → list_all p xs ≡ true
all-from_each p P f [] h = refl
all-from_each p P f (x ∷ xs) h = and_from (p x) (list_all p xs) (f x h.0) (all-from_each p P f xs h.1)

-- ---- positive ones
pub positive-passes : (points : List Point) (xs : List (List ℕ)) → list_all (is_positive points) xs ≡ true → All (IsPositive points) xs
positive-passes points xs h = positive_test points xs h

pub positive-fails : (points : List Point) (xs : List (List ℕ)) → list_all (is_positive points) xs ≡ false → ¬ All (IsPositive points) xs
positive-fails points xs h k =
    true≢false (sym (all-from_each (is_positive points) (IsPositive points) (λ x p. (less_test (pos 0) (det_at points x)).1 p) xs (recursion_from_All (IsPositive points) xs k)) ∙ h)

-- ---- faces that occur once
list_all-append : {X : Type 0} (p : X → Bool) (xs ys : List X) → list_all p xs ≡ true → list_all p ys ≡ true → list_all p (xs ++ ys) ≡ true
list_all-append p [] ys h k = k
list_all-append p (x ∷ xs) ys h k = let e = and_parts (p x) (list_all p xs) h in and_from (p x) (list_all p (xs ++ ys)) e.0 (list_all-append p xs ys e.1 k)

list_all-flat : {X Y : Type 0} (p : Y → Bool) (f : X → List Y) (xs : List X) → list_all (λ x. list_all p (f x)) xs ≡ true → list_all p (flat_map f xs) ≡ true
list_all-flat p f [] h = refl
list_all-flat p f (x ∷ xs) h = let e = and_parts (list_all p (f x)) (list_all (λ x. list_all p (f x)) xs) h in list_all-append p (f x) (flat_map f xs) e.0 (list_all-flat p f xs e.1)

pub single-passes : (r : Result) → list_all (has_single_faces r.mesh.tets) r.fresh ≡ true → IsSingle r
single-passes r h = single_test r (list_all-flat (λ g. nat_lt (count g r.mesh.tets) 2) faces r.fresh h)

-- a face of a tetrahedron has three corners
pub record IsThree (g : List ℕ) : Type 0 where
  pub a : ℕ
  pub b : ℕ
  pub c : ℕ
  pub is : g ≡ a ∷ b ∷ c ∷ []

pub face-three : (x g : List ℕ) → Among (faces x) g → IsThree g
face-three (a ∷ b ∷ c ∷ d ∷ []) g (inl e) = record { a = a; b = c; c = b; is = sym e }
face-three (a ∷ b ∷ c ∷ d ∷ []) g (inr (inl e)) = record { a = a; b = b; c = d; is = sym e }
face-three (a ∷ b ∷ c ∷ d ∷ []) g (inr (inr (inl e))) = record { a = a; b = d; c = c; is = sym e }
face-three (a ∷ b ∷ c ∷ d ∷ []) g (inr (inr (inr (inl e)))) = record { a = b; b = c; c = d; is = sym e }
face-three (a ∷ b ∷ c ∷ d ∷ []) g (inr (inr (inr (inr e)))) = absurd e
face-three [] g h = absurd h
face-three (a ∷ []) g h = absurd h
face-three (a ∷ b ∷ []) g h = absurd h
face-three (a ∷ b ∷ c ∷ []) g h = absurd h
face-three (a ∷ b ∷ c ∷ d ∷ e ∷ x) g h = absurd h

pub some-counted : (p : List ℕ → Bool) (xs : List (List ℕ)) → list_any p xs ≡ true → 0 < count_by p xs
some-counted p [] h = absurd (true≢false (sym h))
some-counted p (x ∷ xs) h = elim (cases_Bool (p x)) [
  | inl e ↦ let n = count_by-cons_yes p x xs e in omega (arith, n)
  | inr e ↦ let n = count_by-cons_no p x xs e in let m = some-counted p xs (rw e at h) in omega (arith, n, m)
]

below_two : (n : ℕ) → n ≤ 1 → nat_lt n 2 ≡ true
below_two n h = elim (cases_Bool (nat_lt n 2)) [ inl e ↦ e | inr e ↦ let l = ltb-false n 2 e in absurd (omega arith) ]

pub single-fails : (r : Result) → list_all (has_single_faces r.mesh.tets) r.fresh ≡ false → ¬ IsSingle r
single-fails r h single = true≢false (sym (all-true (has_single_faces r.mesh.tets) r.fresh of_tet) ∙ h)
  where
    of_face : (x g : List ℕ) → Among r.fresh x → Among (faces x) g → IsThree g → nat_lt (count g r.mesh.tets) 2 ≡ true
    of_face x g i j t =
        let some : 0 < count g r.fresh = some-counted (is_rotation g) (all_faces r.fresh) (any_among (is_rotation g) (all_faces r.fresh) g (among-flat faces r.fresh x g i j) (subst (λ f. is_rotation f f ≡ true) (sym t.is) (itself t.a t.b t.c))) in
        let few : count g r.mesh.tets ≤ 1 = subst (λ f. count f r.mesh.tets ≤ 1) (sym t.is) (single t.a t.b t.c (subst (λ f. 0 < count f r.fresh) t.is some)) in
        below_two (count g r.mesh.tets) few
      where
        itself : (a b c : ℕ) → is_rotation (a ∷ b ∷ c ∷ []) (a ∷ b ∷ c ∷ []) ≡ true
        itself a b c = rw (equal3-refl a b c) refl

    of_tet : (x : List ℕ) → Among r.fresh x → has_single_faces r.mesh.tets x ≡ true
    of_tet x i = all-true (λ g. nat_lt (count g r.mesh.tets) 2) (faces x) (λ g j. of_face x g i j (face-three x g j))
