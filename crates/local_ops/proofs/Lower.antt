-- The largest number that a list gives is below another where each is.
use Rattle.std.proofs.Common.{◌≡◌, ℕ, ◌<◌, true, List, [], ◌∷◌, map, refl, arith, inl, inr}
use Rattle.std.specs.Prelude.{nat_lt}
use Rattle.std.specs.List.{list_all}
use Rattle.std.proofs.lemmas.Bool.{cases_Bool, and_from, and_parts, ltb-true, ltb-false, lt-ltb}
use Rattle.mesh_types.specs.Verdicts.{largest}

module _ (f : List ℕ → ℕ) (n : ℕ) where
  pub largest-below : (xs : List (List ℕ)) → 0 < n → list_all (λ x. nat_lt (f x) n) xs ≡ true → largest (map f xs) < n
  largest-below [] some h = some
  largest-below (x ∷ xs) some h =
      let e = and_parts (nat_lt (f x) n) (list_all (λ x. nat_lt (f x) n) xs) h in
      elim (cases_Bool (nat_lt (f x) (largest (map f xs)))) [
        | inl l ↦ rw l (largest-below xs some e.1)
        | inr l ↦ rw l (ltb-true (f x) n e.0)
      ]

  pub below-largest : (xs : List (List ℕ)) → largest (map f xs) < n → list_all (λ x. nat_lt (f x) n) xs ≡ true
  below-largest [] h = refl
  below-largest (x ∷ xs) h = elim (cases_Bool (nat_lt (f x) (largest (map f xs)))) [
    | inl l ↦ let g = ltb-true _ _ l in let k = rw l at h in and_from (nat_lt (f x) n) (list_all (λ x. nat_lt (f x) n) xs) (lt-ltb (f x) n (omega arith)) (below-largest xs k)
    | inr l ↦ let g = ltb-false _ _ l in let k = rw l at h in and_from (nat_lt (f x) n) (list_all (λ x. nat_lt (f x) n) xs) (lt-ltb (f x) n k) (below-largest xs (omega arith))
  ]
