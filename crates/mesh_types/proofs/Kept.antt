-- Refinement keeps the tetrahedra well formed.
use Rattle.std.proofs.Common.{◌≡◌, ℕ, suc, eqb, ◌+◌, ◌<◌, List, [], ◌∷◌, ◌++◌, map, length, Bool, true, false, not, ap, refl, sym, subst, ◌∙◌, arith, inl, inr}
use Rattle.std.specs.List.{flat_map, filter, All, AllByRecursion as Each}
use Rattle.std.proofs.lemmas.Bool.{cases_Bool, or_right}
use Rattle.std.proofs.lemmas.List.{length-append, length-map}
use Rattle.std.proofs.lemmas.List.Elements.{All-from_recursion, recursion_from_All}
use mathlib.Core.Logic.{Ne-symm}
use Rattle.grid.specs.Meshes.{Mesh}
use Rattle.grid.specs.Simplices.{has, sub, AreDifferent, IsTet}
use Rattle.mesh_types.specs.declared.cut.Cut.{Cut}
use Rattle.mesh_types.specs.Refines.{sub_all, is_touched, refine}
use Rattle.grid.proofs.ForCallers.{Each-weaker, Each-append, has_first, has_none_from}
use Rattle.mesh_types.proofs.Between.{Cornered}
use Rattle.mesh_types.proofs.OneEdge.{cornered-split}
use Rattle.mesh_types.proofs.Refinement.{cornered_of, flat_map-flat_map, flat_map-none, sub_all-untouched}

cornered-all : (k : ℕ) (es : List Cut) (ts : List (List ℕ)) → Each (Cornered k) ts → Each (Cornered (k + length es)) (flat_map (sub_all k es) ts)
cornered-all k [] ts h = rw flat_map-none (subst (λ n. Each (Cornered n) ts) (plus k) h)
  where
    plus : (k : ℕ) → k ≡ k + 0
    plus k = omega arith
cornered-all k (e ∷ es) ts h =
    rw (← flat_map-flat_map (sub e.u e.v k) (sub_all (k + 1) es) ts)
    (subst (λ n. Each (Cornered n) (flat_map (sub_all (k + 1) es) (flat_map (sub e.u e.v k) ts))) (plus k (length es)) (cornered-all (k + 1) es (flat_map (sub e.u e.v k) ts) (cornered-split e.u e.v k ts h)))
  where
    plus : (k n : ℕ) → (k + 1) + n ≡ k + suc n
    plus k n = omega arith

pub Each-left : {X : Type 0} (P : X → Type 0) (xs ys : List X) → Each P (xs ++ ys) → Each P xs
Each-left P [] ys h = tt
Each-left P (x ∷ xs) ys h = (h.0, Each-left P xs ys h.1)

pub Each-right : {X : Type 0} (P : X → Type 0) (xs ys : List X) → Each P (xs ++ ys) → Each P ys
Each-right P [] ys h = h
Each-right P (x ∷ xs) ys h = Each-right P xs ys h.1

pub each-parted : (P : List ℕ → Type 0) (p : List ℕ → Bool) (g : List ℕ → List (List ℕ)) → ((x : List ℕ) → p x ≡ false → g x ≡ x ∷ []) → (xs : List (List ℕ)) → Each P (flat_map g xs)
    → Each P (filter (λ x. not (p x)) xs) × Each P (flat_map g (filter p xs))
each-parted P p g alone [] h = (tt, tt)
each-parted P p g alone (x ∷ xs) h =
    let rest = each-parted P p g alone xs (Each-right P (g x) (flat_map g xs) h) in
    let here = Each-left P (g x) (flat_map g xs) h in
    elim (cases_Bool (p x)) [
      | inl e ↦ rw e (rest.0, Each-append P (g x) (flat_map g (filter p xs)) here rest.1)
      | inr e ↦ rw e ((first (alone x e) here, rest.0), rest.1)
    ]
  where
    first : {ys : List (List ℕ)} → ys ≡ x ∷ [] → Each P ys → P x
    first e h = (subst (Each P) e h).0

pub IsTet-from : (n : ℕ) (x : List ℕ) → Cornered n x → IsTet n x
IsTet-from n x t = record {
  four = ap length t.is;
  different = subst AreDifferent (sym t.is) (
    has_none_from t.b (t.c ∷ t.d ∷ []) t.a (Ne-symm t.different.ab) (has_none_from t.c (t.d ∷ []) t.a (Ne-symm t.different.ac) (has_none_from t.d [] t.a (Ne-symm t.different.ad) refl)),
    (
      has_none_from t.c (t.d ∷ []) t.b (Ne-symm t.different.bc) (has_none_from t.d [] t.b (Ne-symm t.different.bd) refl),
      (has_none_from t.d [] t.c (Ne-symm t.different.cd) refl, (refl, tt)),
    ),
  );
  in_range = All-from_recursion (λ c. c < n) x (below x t.below);
}
  where
    below : (x : List ℕ) → ((o : ℕ) → has x o ≡ true → o < n) → Each (λ c. c < n) x
    below [] h = tt
    below (a ∷ x) h = (h a (has_first a x), below x (λ o g. h o (more a x o g)))
      where
        more : (a : ℕ) (x : List ℕ) (o : ℕ) → has x o ≡ true → has (a ∷ x) o ≡ true
        more a x o g = or_right (eqb a o) (has x o) g

pub refine-IsTet : (m : Mesh) (es : List Cut) → All (IsTet (length m.points)) m.tets → All (IsTet (length (refine m es).points)) (refine m es).tets
unfolding refine
refine-IsTet m es tets =
    let k = length m.points in
    let g = sub_all k es in
    let cornered = cornered-all k es m.tets (Each-weaker (IsTet k) (Cornered k) (cornered_of k) m.tets (recursion_from_All (IsTet k) m.tets tets)) in
    let n : k + length es ≡ length (m.points ++ map (λ e. e.at) es) = sym (length-append m.points (map (λ e. e.at) es) ∙ ap (λ t. k + t) (length-map es (λ e. e.at))) in
    let parts = each-parted (Cornered (k + length es)) (is_touched es) g (sub_all-untouched k es) m.tets cornered in
    All-from_recursion (IsTet (length (m.points ++ map (λ e. e.at) es))) (filter (λ x. not (is_touched es x)) m.tets ++ flat_map g (filter (is_touched es) m.tets))
    (subst (λ n. Each (IsTet n) (filter (λ x. not (is_touched es x)) m.tets ++ flat_map g (filter (is_touched es) m.tets))) n
    (Each-weaker (Cornered (k + length es)) (IsTet (k + length es)) (IsTet-from (k + length es)) (filter (λ x. not (is_touched es x)) m.tets ++ flat_map g (filter (is_touched es) m.tets))
    (Each-append (Cornered (k + length es)) (filter (λ x. not (is_touched es x)) m.tets) (flat_map g (filter (is_touched es) m.tets)) parts.0 parts.1)))
