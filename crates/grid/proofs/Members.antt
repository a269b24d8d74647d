-- Elements of a list that pass a test, and how many do.
use Rattle.std.proofs.Common.{◌≡◌, ◌+◌, ◌<◌, ◌≤◌, Bool, true, false, ◌||◌, cond, List, [], ◌∷◌, map, count_by, refl, ap, ◌∙◌, inl, inr, arith}
use Rattle.std.specs.List.{list_all, list_any}
use Rattle.std.proofs.lemmas.List.Sums.{sum_by-cons}
use Rattle.std.proofs.lemmas.Bool.{and_parts, or_cases, cases_Bool, false≢true}

-- x passes each test that all elements pass
abbrev pub IsIn : {X : Type 0} → List X → X → Type 0
IsIn {X} xs x = (t : X → Bool) → list_all t xs ≡ true → t x ≡ true

module _ {X : Type 0} where
  pub count_by-cons : (p : X → Bool) (x : X) (xs : List X) → count_by p (x ∷ xs) ≡ cond (p x) 1 0 + count_by p xs
  count_by-cons p x xs = sum_by-cons (λ x. cond (p x) 1 0) x xs

  pub count_by-cons_yes : (p : X → Bool) (x : X) (xs : List X) → p x ≡ true → count_by p (x ∷ xs) ≡ 1 + count_by p xs
  count_by-cons_yes p x xs e = count_by-cons p x xs ∙ ap (λ b. cond b 1 0 + count_by p xs) e

  pub count_by-cons_no : (p : X → Bool) (x : X) (xs : List X) → p x ≡ false → count_by p (x ∷ xs) ≡ 0 + count_by p xs
  count_by-cons_no p x xs e = count_by-cons p x xs ∙ ap (λ b. cond b 1 0 + count_by p xs) e

  in_rest : (x y : X) (xs : List X) → IsIn xs y → IsIn (x ∷ xs) y
  in_rest x y xs h t e = h t (and_parts (t x) (list_all t xs) e).1

  in_front : (x : X) (xs : List X) → IsIn (x ∷ xs) x
  in_front x xs t e = (and_parts (t x) (list_all t xs) e).0

  pub count_by-found : (p : X → Bool) (xs : List X) → 0 < count_by p xs → (x : X) × IsIn xs x × (p x ≡ true)
  count_by-found p [] h = elim h [ ]
  count_by-found p (x ∷ xs) h = elim (cases_Bool (p x)) [
    | inl e ↦ (x, in_front x xs, e)
    | inr e ↦ let r = count_by-found p xs (omega (arith, count_by-cons_no p x xs e)) in (r.0, in_rest x r.0 xs r.1, r.2)
  ]

  pub count_by-le : (p q : X → Bool) (xs : List X) → ((x : X) → IsIn xs x → p x ≡ true → q x ≡ true) → count_by p xs ≤ count_by q xs
  count_by-le p q [] h = omega arith
  count_by-le p q (x ∷ xs) h =
      let r = count_by-le p q xs (λ y i. h y (in_rest x y xs i)) in
      let b = count_by-cons q x xs in
      elim (cases_Bool (p x)) [
        | inl e ↦ omega (arith, r, count_by-cons_yes p x xs e, count_by-cons_yes q x xs (h x (in_front x xs) e))
        | inr e ↦ omega (arith, r, b, count_by-cons_no p x xs e)
      ]

  pub count_by-any : (p q : X → Bool) (xs : List X) → list_any q xs ≡ true → ((x : X) → q x ≡ true → p x ≡ true) → 0 < count_by p xs
  count_by-any p q [] e h = absurd (false≢true e)
  count_by-any p q (x ∷ xs) e h =
      let a = count_by-cons p x xs in
      elim (or_cases (q x) (list_any q xs) e) [
        | inl s ↦ omega (arith, count_by-cons_yes p x xs (h x s))
        | inr s ↦ omega (arith, a, count_by-any p q xs s h)
      ]

  pub count_by-map : {Y : Type 0} (p : Y → Bool) (f : X → Y) (xs : List X) → count_by p (map f xs) ≡ count_by (λ x. p (f x)) xs
  count_by-map p f [] = refl
  count_by-map p f (x ∷ xs) = omega (arith, sum_by-cons (λ y. cond (p y) 1 0) (f x) (map f xs), count_by-cons (λ x. p (f x)) x xs, count_by-map p f xs)

  pub count_by-same : (p q : X → Bool) (xs : List X) → ((x : X) → p x ≡ q x) → count_by p xs ≡ count_by q xs
  count_by-same p q xs h = ap (λ t. count_by t xs) (λ i x. h x i)

pub any-map : {X Y : Type 0} (test : Y → Bool) (f : X → Y) (xs : List X) → list_any test (map f xs) ≡ list_any (λ x. test (f x)) xs
any-map test f [] = refl
any-map test f (x ∷ xs) = ap (λ (b : Bool). test (f x) || b) (any-map test f xs)
