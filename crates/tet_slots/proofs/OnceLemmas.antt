-- Lists that have each number once.
use Rattle.std.proofs.Common.{◌≡◌, ℕ, Bool, true, false, not, cond, ◌||◌, nat_eq, List, [], ◌∷◌, refl, sym, ◌∙◌, ap, inl, inr}
use Rattle.std.specs.List.{filter}
use Rattle.std.proofs.lemmas.Bool.{and_left, cases_Bool, eq-eqb, eqb-true, false≢true, or_parts}
use Rattle.grid.specs.Simplices.{has, AreDifferent}
use Rattle.tet_slots.specs.PointLists.{and_last, but}
use Rattle.grid.proofs.ForCallers.{has-push}
use Rattle.tet_slots.proofs.FoundLemmas.{has-filter}

pub AreDifferent-filter : (test : ℕ → Bool) (xs : List ℕ) → AreDifferent xs → AreDifferent (filter test xs)
AreDifferent-filter test [] d = tt
AreDifferent-filter test (x ∷ xs) d = by (test x) (has-filter test xs x ∙ and_left (has xs x) (test x) d.0) (AreDifferent-filter test xs d.1)
  where
    by : (t : Bool) → has (filter test xs) x ≡ false → AreDifferent (filter test xs) → AreDifferent (cond t (x ∷ filter test xs) (filter test xs))
    by true none rest = (none, rest)
    by false none rest = rest

AreDifferent-push : (xs : List ℕ) (n : ℕ) → AreDifferent xs → has xs n ≡ false → AreDifferent (and_last n xs)
AreDifferent-push [] n d h = (refl, tt)
AreDifferent-push (x ∷ xs) n d h =
    let parts = or_parts (nat_eq x n) (has xs n) h in
    (has-push xs n x ∙ (ap (λ (t : Bool). t || nat_eq n x) d.0 ∙ apart n x parts.0), AreDifferent-push xs n d.1 parts.1)
  where
    apart : (n x : ℕ) → nat_eq x n ≡ false → nat_eq n x ≡ false
    apart n x h = elim (cases_Bool (nat_eq n x)) [
      | inl e ↦ absurd (false≢true (sym h ∙ eq-eqb x n (sym (eqb-true n x e))))
      | inr e ↦ e
    ]

-- a number was put in or taken out
pub AreDifferent-put : (c : Bool) (n : ℕ) (xs : List ℕ) → AreDifferent xs → has xs n ≡ false → AreDifferent (cond c (and_last n xs) xs)
AreDifferent-put true n xs d h = AreDifferent-push xs n d h
AreDifferent-put false n xs d h = d

pub AreDifferent-taken : (c : Bool) (k : ℕ) (xs : List ℕ) → AreDifferent xs → AreDifferent (cond c (but k xs) xs)
AreDifferent-taken true k xs d = AreDifferent-filter (λ j. not (nat_eq j k)) xs d
AreDifferent-taken false k xs d = d
