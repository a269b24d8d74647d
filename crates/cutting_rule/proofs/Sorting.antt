-- Sorting and keeping one of each gives the list in rising order, each once.
use Rattle.std.proofs.Common.{◌≡◌, ℕ, Bool, true, false, ◌||◌, map, refl, ap, sym, ◌∙◌, List, [], ◌∷◌}
use Rattle.std.specs.declared.cmp.Ordering.{Ordering}
use Rattle.std.specs.Cmp.{IsStrictWeakOrder}
use Rattle.std.specs.Cmp.Lexicographic.{slice_cmp}
use Rattle.std.specs.Borrow.{Bor}
use Rattle.std.specs.Fn.{Called, ComparesAs, Mut}
use Rattle.std.specs.List.{list_any, dedup, dedup_from}
use Rattle.std.specs.List.Sorted.{IsPermutation, IsSorted, IsSortedBy}
use Rattle.std.specs.Ordering.{nat_cmp, is_lt}
use Rattle.std.proofs.lemmas.Bool.{cases_Bool}
use Rattle.std.proofs.lemmas.Cmp.{nat_list_cmp_total}
use Rattle.std.proofs.lemmas.List.Kept.{IsStrictlySortedBy-dedup}
use Rattle.std.proofs.lemmas.List.Sorted.{answers_always, list_any-IsPermutation, ranks_by}
use Rattle.std.proofs.lemmas.Map.Text.{is_eq-slice_cmp}
use Rattle.std.proofs.Common.{inl, inr}
use Rattle.grid.specs.Meshes.{is_below}
use Rattle.grid.specs.Simplices.{same_triple}
use Rattle.grid.proofs.ForCallers.{is_below-is_lt, slice_cmp-total, Ordered-sorted}
use Rattle.mesh_types.specs.Tracking.{in_order_once}
use Rattle.mesh_types.proofs.ForCallers.{is_among, equal_from, ordered_same, in_order_once-Ordered, is_among-in_order_once}

or_step : (p q r : Bool) → p ≡ q → (p || (q || r)) ≡ (p || r)
or_step true q r e = refl
or_step false true r e = cc
or_step false false r e = refl

or_drop : (p q r : Bool) → q ≡ p → (p || r) ≡ (p || (q || r))
or_drop p q r e = sym (or_step p q r (sym e))

module _ {X : Type 0} (f : X → List ℕ) where
  abbrev pub cmp : X → X → Ordering
  cmp x y = slice_cmp nat_cmp (f x) (f y)

  abbrev pub same : X → X → Bool
  same x y = same_triple (f x) (f y)

  any-dedup_from : (t : List ℕ) (k : X) (xs : List X) → is_among t (map f (dedup_from same k xs)) ≡ (same_triple t (f k) || is_among t (map f xs))
  any-dedup_from t k [] = refl
  any-dedup_from t k (x ∷ xs) = elim (cases_Bool (same x k)) [
    | inl e ↦ rw e (any-dedup_from t k xs ∙ or_drop (same_triple t (f k)) (same_triple t (f x)) (is_among t (map f xs)) (ap (same_triple t) (equal_from (f x) (f k) e)))
    | inr e ↦ rw e (ap (λ b. same_triple t (f k) || b) (any-dedup_from t x xs))
  ]

  any-dedup : (t : List ℕ) (xs : List X) → is_among t (map f (dedup same xs)) ≡ is_among t (map f xs)
  any-dedup t [] = refl
  any-dedup t (x ∷ xs) = any-dedup_from t x xs

  any-map : (t : List ℕ) (xs : List X) → is_among t (map f xs) ≡ list_any (λ x. same_triple t (f x)) xs
  any-map t [] = refl
  any-map t (x ∷ xs) = ap (λ (b : Bool). same_triple t (f x) || b) (any-map t xs)

  -- from the clause `sorted` of `sort_unstable_by`, where each call answers by the order of the lists
  pub sorted-by : {F : Type 0} {g : Mut F (Bor X × (Bor X × Unit {0})) Ordering} {by : F} (xs : List X)
      → ((lt : X → X → Bool) → IsStrictWeakOrder lt → ComparesAs g lt by → IsSortedBy lt xs)
      → ((k : F) (a : Bor X × (Bor X × Unit {0})) (r : Ordering) (l : F) → Called g k a r l → is_lt r ≡ is_below (f a.0.now) (f a.1.0.now)) → IsSorted cmp xs
  sorted-by xs sorted h = sorted (λ x y. is_lt (cmp x y)) (ranks_by nat_list_cmp_total f)
      (answers_always _ _ _ (λ k a r l called. h k a r l called ∙ sym (is_below-is_lt (f a.0.now) (f a.1.0.now) (cmp a.0.now a.1.0.now) refl)))

  pub sorted-once : (xs ys : List X) → IsPermutation xs ys → IsSorted cmp ys → map f (dedup same ys) ≡ in_order_once (map f xs)
  sorted-once xs ys moved sorted =
      ordered_same (map f (dedup same ys)) (in_order_once (map f xs))
      (Ordered-sorted f (dedup same ys) (IsStrictlySortedBy-dedup (slice_cmp-total f) (λ x y. sym (is_eq-slice_cmp (f x) (f y))) ys sorted))
      (in_order_once-Ordered (map f xs))
      (λ t. any-dedup t ys ∙ (any-map t ys ∙ (sym (list_any-IsPermutation (λ x. same_triple t (f x)) xs ys moved) ∙ (sym (any-map t xs) ∙ sym (is_among-in_order_once t (map f xs))))))
