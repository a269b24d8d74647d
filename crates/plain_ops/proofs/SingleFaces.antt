-- Faces of new tetrahedra that occur once.
use Rattle.std.proofs.Common.{◌≡◌, ◌↔◌, ℕ, ◌<◌, ◌≤◌, Bool, true, false, ◌&&◌, List, [], ◌∷◌, ◌++◌, ◌+◌, length, get_or, drop, add-one, IsTrue, refl, sym, ◌∙◌, ap, subst, inl, inr, arith}
use Rattle.std.specs.Prelude.{nat_lt, count_by}
use Rattle.std.specs.List.{AllByRecursion as Each, list_all}
use Rattle.std.proofs.lemmas.Bool.{cases_Bool, and_from, le-ltb, lt-ltb}
use Rattle.std.proofs.Math.Seq.{drop-cons}
use Rattle.grid.proofs.ForCallers.{count_by-cons_yes, count_by-cons_no, Each-append, Each-both, Each-weaker}
use Rattle.grid.specs.declared.shapes.Face.{Face}
use Rattle.grid.specs.Views.{triples_of}
use Rattle.grid.specs.Simplices.{faces, all_faces, is_rotation, count}
use Rattle.mesh_types.specs.Results.{Result}
use Rattle.mesh_types.specs.Verdicts.{IsSingle}
use Rattle.mesh_types.proofs.ForCallers.{Among, among-all, single_test, rotation_still}
use Rattle.plain_ops.specs.Afters.{has_single_faces}

-- ---- joined lists
list_all-append : (p : List ℕ → Bool) (xs ys : List (List ℕ)) → list_all p (xs ++ ys) ≡ (list_all p xs && list_all p ys)
list_all-append p [] ys = refl
list_all-append p (x ∷ xs) ys = ap (λ b. p x && b) (list_all-append p xs ys) ∙ regrouped (p x) (list_all p xs) (list_all p ys)
  where
    regrouped : (a b c : Bool) → (a && (b && c)) ≡ ((a && b) && c)
    regrouped true b c = refl
    regrouped false b c = refl

all-parts : (p : List ℕ → Bool) (xs : List (List ℕ)) → list_all (λ x. list_all p (faces x)) xs ≡ list_all p (all_faces xs)
all-parts p [] = refl
all-parts p (x ∷ xs) = ap (λ b. list_all p (faces x) && b) (all-parts p xs) ∙ sym (list_all-append p (faces x) (all_faces xs))

-- ---- faces have three corners
record IsThree (g : List ℕ) : Type 0 where
  pub a : ℕ
  pub b : ℕ
  pub c : ℕ
  pub is : g ≡ a ∷ b ∷ c ∷ []

three : (a b c : ℕ) → IsThree (a ∷ b ∷ c ∷ [])
three a b c = record { a = a; b = b; c = c; is = refl }

faces-three : (x : List ℕ) → Each IsThree (faces x)
faces-three (a ∷ b ∷ c ∷ d ∷ []) = (three a c b, (three a b d, (three a d c, (three b c d, tt))))
faces-three [] = tt
faces-three (a ∷ []) = tt
faces-three (a ∷ b ∷ []) = tt
faces-three (a ∷ b ∷ c ∷ []) = tt
faces-three (a ∷ b ∷ c ∷ d ∷ e ∷ x) = tt

all-three : (xs : List (List ℕ)) → Each IsThree (all_faces xs)
all-three [] = tt
all-three (x ∷ xs) = Each-append IsThree (faces x) (all_faces xs) (faces-three x) (all-three xs)

-- ---- the test
pub counted-at : (p : List ℕ → Bool) (xs : List (List ℕ)) (x : List ℕ) → Among xs x → p x ≡ true → 0 < count_by p xs
counted-at p [] x i h = absurd i
counted-at p (y ∷ xs) x (inl e) h = let n = count_by-cons_yes p y xs (ap p e ∙ h) in omega (arith, n)
counted-at p (y ∷ xs) x (inr i) h = let rest = counted-at p xs x i h in elim (cases_Bool (p y)) [
  | inl e ↦ let n = count_by-cons_yes p y xs e in omega (arith, n)
  | inr e ↦ let n = count_by-cons_no p y xs e in omega (arith, n, rest)
]

all-from_each : (p : List ℕ → Bool) (xs : List (List ℕ)) → Each (λ x. p x ≡ true) xs → list_all p xs ≡ true
all-from_each p [] h = refl
all-from_each p (x ∷ xs) h = and_from (p x) (list_all p xs) h.0 (all-from_each p xs h.1)

single-from : (r : Result) → IsSingle r → list_all (λ g. nat_lt (count g r.mesh.tets) 2) (all_faces r.fresh) ≡ true
single-from r single =
    all-from_each (λ g. nat_lt (count g r.mesh.tets) 2) (all_faces r.fresh)
    (Each-weaker (λ g. Among (all_faces r.fresh) g × IsThree g) (λ g. nat_lt (count g r.mesh.tets) 2 ≡ true) once (all_faces r.fresh)
    (Each-both (Among (all_faces r.fresh)) IsThree (all_faces r.fresh) (among-all (all_faces r.fresh)) (all-three r.fresh)))
  where
    less : (n : ℕ) → n ≤ 1 → n < 2
    less n h = omega arith

    once : (g : List ℕ) → Among (all_faces r.fresh) g × IsThree g → nat_lt (count g r.mesh.tets) 2 ≡ true
    once g h =
        let t = h.1 in
        let some : 0 < count g r.fresh = counted-at (is_rotation g) (all_faces r.fresh) g h.0 (subst (λ f. is_rotation f f ≡ true) (sym t.is) (rotation_still t.a t.b t.c)) in
        lt-ltb (count g r.mesh.tets) 2 (less (count g r.mesh.tets) (subst (λ f. count f r.mesh.tets ≤ 1) (sym t.is) (single t.a t.b t.c (subst (λ f. 0 < count f r.fresh) t.is some))))

pub single_is : (r : Result) (b : Bool) → b ≡ list_all (has_single_faces r.mesh.tets) r.fresh → IsTrue b ↔ IsSingle r
single_is r b e =
    let is = e ∙ all-parts (λ g. nat_lt (count g r.mesh.tets) 2) r.fresh in
    (λ h. single_test r (sym is ∙ h), λ s. is ∙ single-from r s)

-- ---- one face after the other
module _ (tets : List (List ℕ)) (fs : List Face) (i : ℕ) (n : ℕ) (whole : Bool) where
  abbrev once : List ℕ → Bool
  once g = nat_lt (count g tets) 2

  abbrev none : Face
  none = record { 0 = [] }

  abbrev rest : Bool
  rest = list_all once (triples_of (drop (i + 1) fs))

  parted : i < length fs → list_all once (triples_of (drop i fs)) ≡ (once (get_or fs i none).0 && rest)
  parted l =
      let cons : drop i fs ≡ get_or fs i none ∷ drop (i + 1) fs = rw add-one (drop-cons fs i none l) in
      ap (λ gs. list_all once (triples_of gs)) cons

  pub single-step : i < length fs → n ≡ count (get_or fs i none).0 tets → n ≤ 1 → list_all once (triples_of (drop i fs)) ≡ whole → rest ≡ whole
  single-step l e h k =
      let yes : once (get_or fs i none).0 ≡ true = lt-ltb (count (get_or fs i none).0 tets) 2 (omega (arith, e)) in
      sym (parted l ∙ ap (λ b. b && rest) yes) ∙ k

  pub single-stop : i < length fs → n ≡ count (get_or fs i none).0 tets → 1 < n → list_all once (triples_of (drop i fs)) ≡ whole → false ≡ whole
  single-stop l e h k =
      let no : once (get_or fs i none).0 ≡ false = le-ltb (count (get_or fs i none).0 tets) 2 (omega (arith, e)) in
      sym (parted l ∙ ap (λ b. b && rest) no) ∙ k
