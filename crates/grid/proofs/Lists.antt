-- Which numbers a list and its beginning have.
use Rattle.std.proofs.Common.{◌≡◌, ℕ, zero, suc, ◌-◌, ◌<◌, Bool, true, false, ◌||◌, nat_eq, List, [], ◌∷◌, ◌++◌, length, take, get_or, refl, sym, ◌∙◌, ap, inl, inr, arith}
use Rattle.std.proofs.lemmas.Bool.{cases_Bool, eqb-true, eq-eqb, false≢true, or_from, or_right}
use Rattle.std.proofs.lemmas.List.{take_at, length_push}
use mathlib.Core.Bool.{or_assoc, or-false}
use Rattle.grid.specs.Simplices.{has, AreDifferent}

pub has-append : (xs ys : List ℕ) (i : ℕ) → has (xs ++ ys) i ≡ (has xs i || has ys i)
has-append [] ys i = refl
has-append (x ∷ xs) ys i = ap (λ (t : Bool). nat_eq x i || t) (has-append xs ys i) ∙ sym (or_assoc (nat_eq x i) (has xs i) (has ys i))

pub has-push : (xs : List ℕ) (c u : ℕ) → has (xs ++ c ∷ []) u ≡ (has xs u || nat_eq c u)
has-push xs c u = has-append xs (c ∷ []) u ∙ ap (λ (t : Bool). has xs u || t) (or-false (nat_eq c u))

-- all but the last of what was put behind a list
pub take-push : (xs : List ℕ) (c : ℕ) → take (length (xs ++ c ∷ []) - 1) (xs ++ c ∷ []) ≡ xs
take-push xs c = take_at xs (c ∷ []) (length (xs ++ c ∷ []) - 1) (omega (arith, length_push xs c))

pub shorter : (j n : ℕ) → suc j < suc n → j < n
shorter j n h = omega arith

-- an element is a member
pub has-get_or : (xs : List ℕ) (j : ℕ) → j < length xs → has xs (get_or xs j 0) ≡ true
has-get_or [] j h = absurd (omega arith)
has-get_or (x ∷ xs) zero h = ap (λ b. b || has xs x) (eq-eqb x x refl)
has-get_or (x ∷ xs) (suc j) h = or_right (nat_eq x (get_or xs j 0)) (has xs (get_or xs j 0)) (has-get_or xs j (shorter j (length xs) h))

none-take : (xs : List ℕ) (i a : ℕ) → has xs a ≡ false → has (take i xs) a ≡ false
none-take xs zero a h = refl
none-take [] (suc i) a h = refl
none-take (x ∷ xs) (suc i) a h = parts (nat_eq x a) (has xs a) (has (take i xs) a) h (none-take xs i a)
  where
    parts : (p q r : Bool) → (p || q) ≡ false → (q ≡ false → r ≡ false) → (p || r) ≡ false
    parts true q r h k = h
    parts false q r h k = k h

-- the first of different numbers are different
pub AreDifferent-take : (xs : List ℕ) (i : ℕ) → AreDifferent xs → AreDifferent (take i xs)
AreDifferent-take xs zero d = tt
AreDifferent-take [] (suc i) d = tt
AreDifferent-take (x ∷ xs) (suc i) d = (none-take xs i x d.0, AreDifferent-take xs i d.1)

-- the number at i is none of those before it
pub none-before : (xs : List ℕ) (i : ℕ) → i < length xs → AreDifferent xs → has (take i xs) (get_or xs i 0) ≡ false
none-before [] i h d = absurd (omega arith)
none-before (x ∷ xs) zero h d = refl
none-before (x ∷ xs) (suc i) h d =
    let c : ℕ = get_or xs i 0 in
    let within : i < length xs = shorter i (length xs) h in
    or_from (nat_eq x c) (has (take i xs) c) (apart c (has-get_or xs i within)) (none-before xs i within d.1)
  where
    apart : (c : ℕ) → has xs c ≡ true → nat_eq x c ≡ false
    apart c m = elim (cases_Bool (nat_eq x c)) [
      | inl e ↦ absurd (false≢true (sym d.0 ∙ ap (has xs) (eqb-true x c e) ∙ m))
      | inr e ↦ e
    ]
