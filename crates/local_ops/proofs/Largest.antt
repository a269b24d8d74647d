-- The largest number that a list gives depends on its elements alone.
use Rattle.std.proofs.Common.{◌≡◌, ℕ, ◌≤◌, Bool, true, false, not, List, [], ◌∷◌, map, ℤ, refl, sym, ap, arith, inl, inr}
use Rattle.std.specs.Prelude.{nat_lt, count_by}
use Rattle.std.specs.List.{AllByRecursion as Each}
use Rattle.std.proofs.lemmas.Bool.{cases_Bool, ltb-true, ltb-false, le-ltb}
use Rattle.std.proofs.lemmas.Int.{ints}
use Rattle.mesh_types.specs.Verdicts.{largest}
use Rattle.grid.proofs.ForCallers.{Each-weaker}
use Rattle.mesh_types.proofs.ForCallers.{count-none, none_pass, total, bit, count_by-total}

module _ (f : List ℕ → ℕ) where
  -- none is above it
  above : (xs : List (List ℕ)) (n : ℕ) → largest (map f xs) ≤ n → Each (λ x. nat_lt n (f x) ≡ false) xs
  above [] n h = tt
  above (x ∷ xs) n h = elim (cases_Bool (nat_lt (f x) (largest (map f xs)))) [
    | inl e ↦ let l = ltb-true _ _ e in let h' = rw e at h in (not_above (f x) n (omega arith), above xs n h')
    | inr e ↦ let l = ltb-false _ _ e in let h' = rw e at h in (not_above (f x) n h', above xs n (omega arith))
  ]
    where
      not_above : (a n : ℕ) → a ≤ n → nat_lt n a ≡ false
      not_above a n h = le-ltb n a h

  below : (xs : List (List ℕ)) (n : ℕ) → Each (λ x. nat_lt n (f x) ≡ false) xs → largest (map f xs) ≤ n
  below [] n h = omega arith
  below (x ∷ xs) n h =
      let rest = below xs n h.1 in
      let l = ltb-false _ _ h.0 in
      elim (cases_Bool (nat_lt (f x) (largest (map f xs)))) [
        | inl e ↦ rw e rest
        | inr e ↦ rw e (omega arith)
      ]

  at_most : (xs ys : List (List ℕ)) → ((g : List ℕ → ℤ) → total g xs ≡ total g ys) → largest (map f xs) ≤ largest (map f ys)
  at_most xs ys same =
      let n = largest (map f ys) in
      let p : List ℕ → Bool = λ x. nat_lt n (f x) in
      let none : count_by p ys ≡ 0 = count-none p ys (above ys n (omega arith)) in
      let counts = same (λ x. bit (p x)) in
      let cx = count_by-total p xs in
      let cy = count_by-total p ys in
      let zero : count_by p xs ≡ 0 = omega (arith, ints, none, counts, cx, cy) in
      below xs n (none_pass p xs zero)

  pub largest-same : (xs ys : List (List ℕ)) → ((g : List ℕ → ℤ) → total g xs ≡ total g ys) → largest (map f xs) ≡ largest (map f ys)
  largest-same xs ys same =
      let a = at_most xs ys same in
      let b = at_most ys xs (λ g. sym (same g)) in
      omega arith

-- what holds of the elements of one list holds of those of another with the same sums
pub each-same : (p : List ℕ → Bool) (xs ys : List (List ℕ)) → ((g : List ℕ → ℤ) → total g xs ≡ total g ys) → Each (λ x. p x ≡ true) xs → Each (λ x. p x ≡ true) ys
each-same p xs ys same h =
    let none : count_by (λ x. not (p x)) xs ≡ 0 = count-none (λ x. not (p x)) xs (Each-weaker (λ x. p x ≡ true) (λ x. not (p x) ≡ false) (λ x e. ap not e) xs h) in
    let counts = same (λ x. bit (not (p x))) in
    let cx = count_by-total (λ x. not (p x)) xs in
    let cy = count_by-total (λ x. not (p x)) ys in
    let zero : count_by (λ x. not (p x)) ys ≡ 0 = omega (arith, ints, none, counts, cx, cy) in
    Each-weaker (λ x. not (p x) ≡ false) (λ x. p x ≡ true) (λ x e. back (p x) e) ys (none_pass (λ x. not (p x)) ys zero)
  where
    back : (b : Bool) → not b ≡ false → b ≡ true
    back true e = refl
    back false e = sym e
