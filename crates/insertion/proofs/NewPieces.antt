-- The pieces of a touched triple have a new corner.
use Rattle.std.proofs.Common.{◌≡◌, ℕ, ◌+◌, ◌≤◌, true, ◌&&◌, ◌||◌, List, [], ◌∷◌, sym, ◌∙◌, ap, subst, inl, inr, arith}
use Rattle.std.specs.List.{flat_map, AllByRecursion as Each}
use Rattle.std.proofs.lemmas.Bool.{cases_Bool, and_parts, or_left, or_right, eq-eqb, true≢false}
use Rattle.grid.specs.Simplices.{has, put, replaced, sub}
use Rattle.mesh_types.specs.declared.cut.Cut.{Cut}
use Rattle.mesh_types.specs.Refines.{sub_all, is_touched}
use Rattle.grid.proofs.ForCallers.{Each-append, Each-of_flat_map, has_cases, put_cases, has-replaced_new}
use Rattle.mesh_types.proofs.ForCallers.{sub-touched, sub-untouched}

-- a corner that is not below k
pub record HasNew (k : ℕ) (x : List ℕ) : Type 0 where
  pub corner : ℕ
  pub there : has x corner ≡ true
  pub new : k ≤ corner

has-put : (u j c : ℕ) (x : List ℕ) → has x c ≡ true → has (replaced u j x) (put u j c) ≡ true
has-put u j c [] h = absurd (true≢false (sym h))
has-put u j c (a ∷ x) h = elim (has_cases a x c h) [
  | inl e ↦ or_left _ _ (eq-eqb (put u j a) (put u j c) (ap (put u j) e))
  | inr e ↦ or_right _ _ (has-put u j c x e)
]

new-replaced : (k u j : ℕ) (x : List ℕ) → k ≤ j → HasNew k x → HasNew k (replaced u j x)
new-replaced k u j x le h = record {
  corner = put u j h.corner;
  there = has-put u j h.corner x h.there;
  new = elim (put_cases u j h.corner) [ inl e ↦ subst (λ n. k ≤ n) (sym e.1) le | inr e ↦ subst (λ n. k ≤ n) (sym e.1) h.new ];
}

new-sub : (k u v j : ℕ) (x : List ℕ) → k ≤ j → HasNew k x → Each (HasNew k) (sub u v j x)
new-sub k u v j x le h = elim (cases_Bool (has x u && has x v)) [
  | inl e ↦ subst (Each (HasNew k)) (sym (sub-touched u v j x e)) (new-replaced k u j x le h, (new-replaced k v j x le h, tt))
  | inr e ↦ subst (Each (HasNew k)) (sym (sub-untouched u v j x e)) (h, tt)
]

more : (k j : ℕ) → k ≤ j → k ≤ j + 1
more k j h = omega arith

new-all : (k j : ℕ) (cuts : List Cut) (x : List ℕ) → k ≤ j → HasNew k x → Each (HasNew k) (sub_all j cuts x)
new-all k j [] x le h = (h, tt)
new-all k j (e ∷ cuts) x le h = Each-of_flat_map (HasNew k) (HasNew k) (sub_all (j + 1) cuts) (λ y g. new-all k (j + 1) cuts y (more k j le) g) (sub e.u e.v j x) (new-sub k e.u e.v j x le h)

split-new : (k j : ℕ) (e : Cut) (cuts : List Cut) (x : List ℕ) → k ≤ j → (has x e.u && has x e.v) ≡ true → Each (HasNew k) (flat_map (sub_all (j + 1) cuts) (sub e.u e.v j x))
split-new k j e cuts x le both =
    let p = and_parts (has x e.u) (has x e.v) both in
    Each-of_flat_map (HasNew k) (HasNew k) (sub_all (j + 1) cuts) (λ y g. new-all k (j + 1) cuts y (more k j le) g) (sub e.u e.v j x)
    (subst (Each (HasNew k)) (sym (sub-touched e.u e.v j x both))
    (record { corner = j; there = has-replaced_new e.u j x p.0; new = le }, (record { corner = j; there = has-replaced_new e.v j x p.1; new = le }, tt)))

pub touched-new : (k j : ℕ) (cuts : List Cut) (x : List ℕ) → k ≤ j → is_touched cuts x ≡ true → Each (HasNew k) (sub_all j cuts x)
touched-new k j [] x le h = absurd (true≢false (sym h))
touched-new k j (e ∷ cuts) x le h = elim (cases_Bool (has x e.u && has x e.v)) [
  | inl both ↦ split-new k j e cuts x le both
  | inr none ↦
      subst (λ xs. Each (HasNew k) (flat_map (sub_all (j + 1) cuts) xs)) (sym (sub-untouched e.u e.v j x none))
      (Each-append (HasNew k) (sub_all (j + 1) cuts x) [] (touched-new k (j + 1) cuts x (more k j le) (sym (ap (λ b. b || is_touched cuts x) none) ∙ h)) tt)
]
