-- What a search through the bins finds, sorted and without repeats, is what a scan finds.
use Rattle.std.proofs.Common.{Some, slice_get, eqb, ◌≡◌, ℕ, zero, suc, ◌+◌, ◌<◌, ◌≤◌, Bool, true, false, cond, ◌&&◌, ◌||◌, nat_eq, List, [], ◌∷◌, ◌++◌, length, get_or, refl, sym, subst, ◌∙◌, ap, inl, inr, arith}
use Rattle.std.specs.List.{filter, range_with_len, Contains, AllPairs, dedup}
use Rattle.std.specs.List.Sorted.{IsStrictlyIncreasing, IsPermutation}
use Rattle.std.proofs.lemmas.Bool.{cases_Bool, cases_lt, eqb-true, eq-eqb, false≢true, or_cases, or_left, or_right, and_parts, and_from}
use Rattle.std.proofs.lemmas.List.Elements.{recursion_from_All}
use Rattle.std.proofs.lemmas.List.FromFn.{length-range_with_len, get_or-range_with_len}
use Rattle.std.proofs.lemmas.List.Kept.{AllPairs-from_increasing, IsStrictlyIncreasing-filter, Contains-dedup_nat, Contains-from_dedup}
use Rattle.std.proofs.lemmas.List.Sorted.{Contains-permutation, IsPermutation-sym}
use Rattle.std.specs.Map.{lookup, keys_of}
use Rattle.smallvec.specs.SmallVec.{SmallVec}
use Rattle.indexmap.specs.IndexMap.{IndexMap, get}
use Rattle.grid.specs.Simplices.{has, Rises}
use Rattle.tet_slots.specs.declared.bins.Bin.{Bin}
use Rattle.tet_slots.specs.declared.bins.Entry.{Entry}
use Rattle.tet_slots.specs.Bins.{same_bin, entries_in, bin_entries, in_bin, slots_of}
use Rattle.tet_slots.proofs.BinLemmas.{same_bin-true}
use Rattle.grid.proofs.ForCallers.{has-append, shorter, rises_same}
use Rattle.tet_slots.specs.Quests.{Grows, Finds}

-- ---- membership
first-in : (t : Bool) (x : ℕ) (xs : List ℕ) (i : ℕ) → has (cond t (x ∷ xs) xs) i ≡ ((t && nat_eq x i) || has xs i)
first-in true x xs i = refl
first-in false x xs i = refl

either-passes : (first same_test here rest : Bool) → (here ≡ true → first ≡ same_test) → ((first && here) || (rest && same_test)) ≡ ((here || rest) && same_test)
either-passes true true true r k = refl
either-passes true false true r k = absurd (false≢true (sym (k refl)))
either-passes false true true r k = absurd (false≢true (k refl))
either-passes false false true true k = refl
either-passes false false true false k = refl
either-passes true t false r k = refl
either-passes false t false r k = refl

pub has-filter : (test : ℕ → Bool) (xs : List ℕ) (i : ℕ) → has (filter test xs) i ≡ (has xs i && test i)
has-filter test [] i = refl
has-filter test (x ∷ xs) i =
    first-in (test x) x (filter test xs) i
    ∙ (ap (λ (t : Bool). (test x && nat_eq x i) || t) (has-filter test xs i)
    ∙ either-passes (test x) (test i) (nat_eq x i) (has xs i) (λ e. ap test (eqb-true x i e)))

pub has-from_Contains : (xs : List ℕ) (i : ℕ) → Contains xs i → has xs i ≡ true
has-from_Contains xs i (k, l, e) = at xs k l e
  where
    at : (xs : List ℕ) (k : ℕ) → k < length xs → get_or xs k i ≡ i → has xs i ≡ true
    at [] k l e = absurd (omega arith)
    at (x ∷ xs) zero l e = ap (λ (t : Bool). t || has xs i) (eq-eqb x i e)
    at (x ∷ xs) (suc k) l e = or_right (nat_eq x i) (has xs i) (at xs k (shorter k (length xs) l) e)

pub Contains-from_has : (xs : List ℕ) (i : ℕ) → has xs i ≡ true → Contains xs i
Contains-from_has [] i h = absurd (false≢true h)
Contains-from_has (x ∷ xs) i h = elim (or_cases (nat_eq x i) (has xs i) h) [
  | inl e ↦ (0, omega arith, eqb-true x i e)
  | inr e ↦ let r = Contains-from_has xs i e in (suc r.0, more r.0 (length xs) r.1, r.2)
]
  where
    more : (k n : ℕ) → k < n → suc k < suc n
    more k n h = omega arith

-- ---- what grows
pub Grows-then : (test : ℕ → Bool) (xs ys zs : List ℕ) → Grows test xs ys → Grows test ys zs → Grows test xs zs
Grows-then test xs ys zs h k = record {
  kept = λ i e. k.kept i (h.kept i e);
  sound = λ i e. elim (or_cases (has ys i) (test i) (k.sound i e)) [ inl a ↦ h.sound i a | inr a ↦ or_right (has xs i) (test i) a ];
}

pub Finds-grown : (test : ℕ → Bool) (list xs ys : List ℕ) → Finds test list xs → Grows test xs ys → Finds test list ys
Finds-grown test list xs ys h k = λ i l t. k.kept i (h i l t)

pub Grows-filter : (test : ℕ → Bool) (old list new : List ℕ) → new ≡ old ++ filter test list → Grows test old new
Grows-filter test old list new e =
    let is = λ (i : ℕ). ap (λ (xs : List ℕ). has xs i) e ∙ has-append old (filter test list) i in
    record {
      kept = λ i h. is i ∙ or_left (has old i) (has (filter test list) i) h;
      sound = λ i h. elim (or_cases (has old i) (has (filter test list) i) (sym (is i) ∙ h)) [
        | inl a ↦ or_left (has old i) (test i) a
        | inr a ↦ or_right (has old i) (test i) (and_parts (has list i) (test i) (sym (has-filter test list i) ∙ a)).1
      ];
    }

pub Finds-filter : (test : ℕ → Bool) (old list new : List ℕ) → new ≡ old ++ filter test list → Finds test list new
Finds-filter test old list new e = λ i l t.
    ap (λ (xs : List ℕ). has xs i) e ∙ (has-append old (filter test list) i ∙ or_right (has old i) (has (filter test list) i) (has-filter test list i ∙ and_from (has list i) (test i) l t))

-- one number of a range more
pub extend : (low k : ℕ) (Q R : ℕ → Type 0) → ((y : ℕ) → low ≤ y → y < k → Q y) → ((y : ℕ) → Q y → R y) → R k → (y : ℕ) → low ≤ y → y < k + 1 → R y
extend low k Q R h mono now y a b = elim (cases_lt y k) [
  | inl l ↦ mono y (h y a l)
  | inr l ↦ subst R (equal y k l b) now
]
  where
    equal : (y k : ℕ) → k ≤ y → y < k + 1 → k ≡ y
    equal y k l b = omega arith

key-from : (b : Bin) (i : ℕ) (es : List (Bin × SmallVec Entry)) → has (slots_of (entries_in (lookup (same_bin b) es))) i ≡ true → (k : ℕ) × (k < length (keys_of es)) × (get_or (keys_of es) k b ≡ b)
key-from b i [] h = absurd (false≢true h)
key-from b i (e ∷ es) h = by (same_bin b e.0) refl h (λ g. key-from b i es g)
  where
    next : (n m : ℕ) → n < m → suc n < suc m
    next n m h = omega arith

    by : (t : Bool) → same_bin b e.0 ≡ t → has (slots_of (entries_in (lookup (same_bin b) (e ∷ es)))) i ≡ true → (has (slots_of (entries_in (lookup (same_bin b) es))) i ≡ true → (k : ℕ) × (k < length (keys_of es)) × (get_or (keys_of es) k b ≡ b)) → (k : ℕ) × (k < length (keys_of (e ∷ es))) × (get_or (keys_of (e ∷ es)) k b ≡ b)
    by true q h g = (0, omega arith, sym (same_bin-true b e.0 q))
    by false q h g = let r = g (sym (ap (λ (t : Bool). has (slots_of (entries_in (cond t (Some e.1) (lookup (same_bin b) es)))) i) q) ∙ h) in (suc r.0, next r.0 (length (keys_of es)) r.1, r.2)

module _ {S : Type 0} where
  -- what was found in the bins of all keys was found in all bins
  pub Finds-by_keys : (test : ℕ → Bool) (bins : IndexMap Bin (SmallVec Entry) S) (n : ℕ) (found : List ℕ) → length (keys_of bins.entries) ≤ n → ((d : Bin) (k : ℕ) → k < n → Finds test (in_bin bins (get_or (keys_of bins.entries) k d)) found) → (b : Bin) → Finds test (in_bin bins b) found
  Finds-by_keys test bins n found all h b i e t =
      let r = key-from b i bins.entries e in
      h b r.0 (omega (arith, all, r.1)) i (ap (λ (c : Bin). has (in_bin bins c) i) r.2 ∙ e) t

key-from_get : {X : Type 0} (es : List (Bin × X)) (k : ℕ) (b : Bin) (v : X) (d : Bin) → slice_get es k ≡ Some (b, v) → get_or (keys_of es) k d ≡ b
key-from_get [] k b v d h = cc
key-from_get (e ∷ es) zero b v d h = cc
key-from_get (e ∷ es) (suc k) b v d h = key-from_get es k b v d h

module _ {S : Type 0} where
  -- the list at an index is that of the bin whose key is there
  pub list-at_key : (bins : IndexMap Bin (SmallVec Entry) S) (k : ℕ) (b : Bin) (v : SmallVec Entry) (d : Bin) → slice_get bins.entries k ≡ Some (b, v) → get same_bin bins b ≡ Some v → bin_entries bins (get_or (keys_of bins.entries) k d) ≡ v.items
  list-at_key bins k b v d entry value = ap (bin_entries bins) (key-from_get bins.entries k b v d entry) ∙ ap entries_in value

-- ---- two rising lists with the same numbers are one
rises-from : (xs : List ℕ) → AllPairs (λ x y. x < y) xs → Rises xs
rises-from [] h = tt
rises-from (a ∷ x) h = (
  recursion_from_All (λ b. a < b) x (λ k d l. h zero (suc k) d (omega arith) (longer k (length x) l)),
  rises-from x (λ i j d l m. h (suc i) (suc j) d (longer i j l) (longer j (length x) m)),
)
  where
    longer : (k n : ℕ) → k < n → suc k < suc n
    longer k n h = omega arith

range-rising : (n : ℕ) → IsStrictlyIncreasing (range_with_len 0 n)
range-rising n k l =
    let long : k + 1 < n = omega (arith, length-range_with_len 0 n) in
    let a : get_or (range_with_len 0 n) k 0 ≡ 0 + k = get_or-range_with_len 0 n k 0 (omega arith) in
    let b : get_or (range_with_len 0 n) (k + 1) 0 ≡ 0 + (k + 1) = get_or-range_with_len 0 n (k + 1) 0 long in
    omega (arith, a, b)

pub has-range : (n i : ℕ) → i < n → has (range_with_len 0 n) i ≡ true
has-range n i l = has-from_Contains (range_with_len 0 n) i (i, omega (arith, length-range_with_len 0 n), get_or-range_with_len 0 n i i l ∙ omega arith)

-- a rising list of the numbers below n that pass is the filter of the range
pub found-all : (test : ℕ → Bool) (n : ℕ) (found : List ℕ) → IsStrictlyIncreasing found → ((i : ℕ) → has found i ≡ true → (i < n) × (test i ≡ true)) → ((i : ℕ) → i < n → test i ≡ true → has found i ≡ true) → found ≡ filter test (range_with_len 0 n)
found-all test n found rising sound complete =
    rises_same found (filter test (range_with_len 0 n)) (rises-from found (AllPairs-from_increasing found rising))
    (rises-from (filter test (range_with_len 0 n)) (AllPairs-from_increasing (filter test (range_with_len 0 n)) (IsStrictlyIncreasing-filter test (range_with_len 0 n) (range-rising n))))
    (λ c. elim (cases_Bool (has found c)) [
      | inl e ↦ let s = sound c e in e ∙ sym (has-filter test (range_with_len 0 n) c ∙ and_from (has (range_with_len 0 n) c) (test c) (has-range n c s.0) s.1)
      | inr e ↦ e ∙ sym (none c e)
    ])
  where
    range-below : (i : ℕ) → has (range_with_len 0 n) i ≡ true → i < n
    range-below i h = let c = Contains-from_has (range_with_len 0 n) i h in place i c.0 c.1 c.2
      where
        place : (i k : ℕ) → k < length (range_with_len 0 n) → get_or (range_with_len 0 n) k i ≡ i → i < n
        place i k l e =
            let long : k < n = omega (arith, length-range_with_len 0 n) in
            let at : get_or (range_with_len 0 n) k i ≡ 0 + k = get_or-range_with_len 0 n k i long in
            omega (arith, e, at)

    none : (c : ℕ) → has found c ≡ false → has (filter test (range_with_len 0 n)) c ≡ false
    none c e = elim (cases_Bool (has (filter test (range_with_len 0 n)) c)) [
      | inl f ↦
          let parts = and_parts (has (range_with_len 0 n) c) (test c) (sym (has-filter test (range_with_len 0 n) c) ∙ f) in
          absurd (false≢true (sym e ∙ complete c (range-below c parts.0) parts.1))
      | inr f ↦ f
    ]

-- sorted, and without repeats
pub has-risen : (xs sorted new : List ℕ) → IsPermutation xs sorted → new ≡ dedup eqb sorted → (i : ℕ) → has new i ≡ has xs i
has-risen xs sorted new moved is i = elim (cases_Bool (has xs i)) [
  | inl e ↦ ap (λ (ys : List ℕ). has ys i) is ∙ (has-from_Contains (dedup eqb sorted) i (Contains-dedup_nat sorted i (Contains-permutation xs sorted i moved (Contains-from_has xs i e))) ∙ sym e)
  | inr e ↦ elim (cases_Bool (has new i)) [
    | inl f ↦
        let back = Contains-from_dedup eqb sorted i (Contains-from_has (dedup eqb sorted) i (sym (ap (λ (ys : List ℕ). has ys i) is) ∙ f)) in
        absurd (false≢true (sym e ∙ has-from_Contains xs i (Contains-permutation sorted xs i (IsPermutation-sym xs sorted moved) back)))
    | inr f ↦ f ∙ sym e
  ]
]
