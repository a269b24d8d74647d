-- Lists of numbers in rising order, each once.
use Rattle.std.proofs.Common.{◌≡◌, ℕ, zero, suc, ◌+◌, ◌<◌, ◌≤◌, Bool, true, false, ◌||◌, ◌&&◌, List, [], ◌∷◌, eqb, refl, sym, ◌∙◌, ap, inl, inr, arith}
use Rattle.std.specs.Prelude.{nat_eq}
use Rattle.std.specs.List.{AllByRecursion as Each, AllPairs, dedup, dedup_from, filter, list_any, range_with_len}
use Rattle.std.specs.List.Sorted.{IsPermutation, IsSorted}
use Rattle.std.specs.Ordering.{nat_cmp}
use Rattle.std.proofs.lemmas.Bool.{cases_Bool, eqb-true, eqb-false}
use Rattle.std.proofs.lemmas.List.Elements.{recursion_from_All}
use Rattle.std.proofs.lemmas.List.Kept.{AllPairs-from_increasing}
use Rattle.std.proofs.lemmas.Map.Keys.{IsStrictlyIncreasing-dedup}
use Rattle.std.proofs.lemmas.List.Sorted.{list_any-IsPermutation}
use Rattle.grid.specs.Simplices.{has, Rises}
use Rattle.mesh_types.proofs.ForCallers.{Each-filter}
use Rattle.tet_slots.proofs.ForCallers.{has-filter}

-- ---- members
has-any : (x : List ℕ) (c : ℕ) → has x c ≡ list_any (λ a. nat_eq a c) x
has-any [] c = refl
has-any (a ∷ x) c = ap (λ (b : Bool). nat_eq a c || b) (has-any x c)

pub has-IsPermutation : (x y : List ℕ) (c : ℕ) → IsPermutation x y → has y c ≡ has x c
has-IsPermutation x y c h = has-any y c ∙ (sym (list_any-IsPermutation (λ a. nat_eq a c) x y h) ∙ sym (has-any x c))

has-dedup_from : (k : ℕ) (x : List ℕ) (c : ℕ) → has (dedup_from eqb k x) c ≡ (nat_eq k c || has x c)
has-dedup_from k [] c = refl
has-dedup_from k (a ∷ x) c = elim (cases_Bool (eqb a k)) [
  | inl e ↦ rw e (has-dedup_from k x c ∙ twice (nat_eq k c) (nat_eq a c) (has x c) (ap (λ n. nat_eq n c) (eqb-true a k e)))
  | inr e ↦ rw e (ap (λ (b : Bool). nat_eq k c || b) (has-dedup_from a x c))
]
  where
    twice : (p q r : Bool) → q ≡ p → (p || r) ≡ (p || (q || r))
    twice true q r e = refl
    twice false q r e = ap (λ (b : Bool). b || r) (sym e)

pub has-dedup : (x : List ℕ) (c : ℕ) → has (dedup eqb x) c ≡ has x c
has-dedup [] c = refl
has-dedup (a ∷ x) c = has-dedup_from a x c

-- ---- rising order
rises-pairs : (x : List ℕ) → AllPairs (λ a b. a < b) x → Rises x
rises-pairs [] h = tt
rises-pairs (a ∷ x) h =
    (recursion_from_All (λ b. a < b) x (λ k d l. h 0 (suc k) d (omega arith) (omega arith)), rises-pairs x (λ i j d l k. h (suc i) (suc j) d (omega arith) (omega arith)))

pub rises-dedup : (x : List ℕ) → IsSorted nat_cmp x → Rises (dedup eqb x)
rises-dedup x h = rises-pairs (dedup eqb x) (AllPairs-from_increasing (dedup eqb x) (IsStrictlyIncreasing-dedup x h))

above-range : (a k n : ℕ) → a < k → Each (λ b. a < b) (range_with_len k n)
above-range a k zero l = tt
above-range a k (suc n) l = (l, above-range a (k + 1) n (omega arith))

rises-range : (k n : ℕ) → Rises (range_with_len k n)
rises-range k zero = tt
rises-range k (suc n) = (above-range k (k + 1) n (omega arith), rises-range (k + 1) n)

pub rises-filter : (p : ℕ → Bool) (x : List ℕ) → Rises x → Rises (filter p x)
rises-filter p [] h = tt
rises-filter p (a ∷ x) h = elim (cases_Bool (p a)) [
  | inl e ↦ rw e (Each-filter (λ b. a < b) p x h.0, rises-filter p x h.1)
  | inr e ↦ rw e (rises-filter p x h.1)
]

pub rises-chosen : (p : ℕ → Bool) (n : ℕ) → Rises (filter p (range_with_len 0 n))
rises-chosen p n = rises-filter p (range_with_len 0 n) (rises-range 0 n)

has-range : (c k n : ℕ) → k ≤ c → c < k + n → has (range_with_len k n) c ≡ true
has-range c k zero l h = absurd (omega arith)
has-range c k (suc n) l h = elim (cases_Bool (nat_eq k c)) [
  | inl e ↦ rw e refl
  | inr e ↦ rw e (let d = eqb-false k c e in has-range c (k + 1) n (grind (arith, d)) (omega arith))
]

-- of the numbers below n, those that pass
pub has-chosen : (p : ℕ → Bool) (n c : ℕ) → (p c ≡ true → c < n) → has (filter p (range_with_len 0 n)) c ≡ p c
has-chosen p n c h = has-filter p (range_with_len 0 n) c ∙ by (p c) refl
  where
    by : (b : Bool) → p c ≡ b → (has (range_with_len 0 n) c && b) ≡ b
    by true e = rw (has-range c 0 n (omega arith) (let l = h e in omega arith)) refl
    by false e = none (has (range_with_len 0 n) c)
      where
        none : (b : Bool) → (b && false) ≡ false
        none true = refl
        none false = refl
