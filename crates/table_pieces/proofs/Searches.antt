-- The cut with two given ends in a rising list.
use Rattle.std.proofs.Common.{◌≡◌, ◌≢◌, ℕ, zero, suc, ◌+◌, ◌*◌, ◌^◌, ◌<◌, true, false, ◌&&◌, nat_eq, nat_lt, ◌-◌, ◌≤◌, List, [], ◌∷◌, map, length, get_or, drop, Some, ap, ap₂, refl, sym, subst, ◌∙◌, arith, inl, inr}
use Rattle.std.specs.List.{filter, AllByRecursion as Each}
use Rattle.std.specs.List.Sorted.{IsPartitionedBy}
use Rattle.std.proofs.lemmas.Bool.{and_parts, and_from, cases_Bool, cases_eq, cases_lt, cases_order, eqb-true, eq-eqb, false_from_ne_true, lt-ltb, ltb-true, or_left, or_right, true≢false}
use Rattle.std.proofs.lemmas.List.{get_or-drop, get_or_default, length-drop}
use Rattle.std.proofs.lemmas.List.Elements.{AllWithin-more}
use Rattle.grid.specs.Meshes.{is_below, Ordered}
use Rattle.mesh_types.specs.declared.cut.Cut.{Cut}
use Rattle.mesh_types.specs.CutLists.{ends_of}
use Rattle.grid.proofs.ForCallers.{same_bools}
use Rattle.mesh_types.proofs.ForCallers.{below_cases, below_not, below_trans}
use Rattle.table_pieces.specs.Labels.{AreBefore, IsPlace, edge_at, is_before, joins, numbered}

-- ---- both ends as one number
pub ends-below : (a b c d : ℕ) → b < 2 ^ 32 → d < 2 ^ 32 → nat_lt (a * 2 ^ 32 + b) (c * 2 ^ 32 + d) ≡ is_below (a ∷ b ∷ []) (c ∷ d ∷ [])
ends-below a b c d bb dd = same_bools _ _
    (λ h.
    let less : a * 2 ^ 32 + b < c * 2 ^ 32 + d = ltb-true _ _ h in
    elim (cases_lt a c) [
      | inl lt ↦ or_left _ _ (lt-ltb a c lt)
      | inr le ↦
          let same : a ≡ c = omega (arith, less, le, bb, dd) in
          or_right _ _ (and_from (nat_eq a c) _ (eq-eqb a c same) (or_left _ _ (lt-ltb b d (omega (arith, less, same)))))
    ])
    (λ h. lt-ltb _ _ (elim (below_cases a c (b ∷ []) (d ∷ []) h) [
      | inl lt ↦ omega (arith, lt, bb, dd)
      | inr p ↦ elim (below_cases b d [] [] p.1) [
        | inl lt ↦ let same = p.0 in omega (arith, lt, same)
        | inr q ↦ absurd (true≢false (sym q.1))
      ]
    ]))

-- ---- rising cuts
each-at : (x : List ℕ) (es : List Cut) → Each (λ y. is_below x y ≡ true) (map ends_of es) → (i : ℕ) (d : Cut) → i < length es → is_below x (ends_of (get_or es i d)) ≡ true
each-at x [] b i d lt = absurd (omega (arith, lt))
each-at x (e ∷ es) b zero d lt = b.0
each-at x (e ∷ es) b (suc i) d lt = each-at x es b.1 i d (omega (arith, lt))

-- of two cuts the one that stands later is the greater
below-at : (es : List Cut) → Ordered (map ends_of es) → (i j : ℕ) (d : Cut) → i < j → j < length es → is_below (ends_of (get_or es i d)) (ends_of (get_or es j d)) ≡ true
below-at [] o i j d lt there = absurd (omega (arith, there))
below-at (e ∷ es) o i zero d lt there = absurd (omega (arith, lt))
below-at (e ∷ es) o zero (suc j) d lt there = each-at (ends_of e) es o.0 j d (omega (arith, there))
below-at (e ∷ es) o (suc i) (suc j) d lt there = below-at es o.1 i j d (omega (arith, lt)) (omega (arith, there))

-- those before an edge come first
pub parted : (u v : ℕ) (es : List Cut) → Ordered (map ends_of es) → IsPartitionedBy (is_before u v) es
parted u v es o i j d le there h = elim (cases_eq i j) [
  | inl e ↦ subst (λ k. is_before u v (get_or es k d) ≡ true) (sym e) h
  | inr n ↦ below_trans (ends_of (get_or es i d)) (ends_of (get_or es j d)) (u ∷ v ∷ []) (below-at es o i j d (less n) there) h
]
  where
    less : i ≢ j → i < j
    less n = omega arith

-- ---- the cuts that have been passed
-- also for a greater second end
pub passed-second : (u v w : ℕ) (es : List Cut) (i : ℕ) → v < w → AreBefore u v es i → AreBefore u w es i
passed-second u v w es i lt h = λ k d low there. below_trans (ends_of (get_or es k d)) (u ∷ v ∷ []) (u ∷ w ∷ []) (h k d low there) (or_right _ _ (and_from (nat_eq u u) _ (eq-eqb u u refl) (or_left _ _ (lt-ltb v w lt))))

-- also for a greater first end
pub passed-first : (u v w z : ℕ) (es : List Cut) (i : ℕ) → u < w → AreBefore u v es i → AreBefore w z es i
passed-first u v w z es i lt h = λ k d low there. below_trans (ends_of (get_or es k d)) (u ∷ v ∷ []) (w ∷ z ∷ []) (h k d low there) (or_left _ _ (lt-ltb u w lt))

-- the next cut is before the edge too
pub passed-more : (u v : ℕ) (es : List Cut) (i : ℕ) (c : Cut) → i < length es → is_before u v (get_or es i c) ≡ true → AreBefore u v es i → AreBefore u v es (i + 1)
passed-more u v es i c lt h before = AllWithin-more (λ e. is_before u v e ≡ true) es 0 i before (λ d. subst (λ e. is_before u v e ≡ true) (get_or_default es i c d lt) h)

-- the next cut is not
pub place-next : (u v : ℕ) (es : List Cut) (i : ℕ) (c : Cut) → Ordered (map ends_of es) → i < length es → is_before u v (get_or es i c) ≡ false → AreBefore u v es i → IsPlace u v es i
place-next u v es i c o lt h before = (
  before,
  λ k d low there.
      let not : is_before u v (get_or es i d) ≡ false = subst (λ e. is_before u v e ≡ false) (get_or_default es i c d lt) h in
      false_from_ne_true (is_before u v (get_or es k d)) (λ t. true≢false (sym (parted u v es o i k d low there t) ∙ not)),
)

-- the place among the cuts that are left
pub place-beyond : (u v : ℕ) (es : List Cut) (from i : ℕ) → AreBefore u v es from → IsPlace u v (drop from es) i → IsPlace u v es (from + i)
place-beyond u v es from i before place = (
  λ k d low there. elim (cases_lt k from) [
    | inl lt ↦ before k d low lt
    | inr le ↦ subst (λ e. is_before u v e ≡ true) (at k d le) (place.0 (k - from) d (omega arith) (omega (arith, le, there)))
  ],
  λ k d low there. let le : from ≤ k = omega (arith, low) in subst (λ e. is_before u v e ≡ false) (at k d le) (place.1 (k - from) d (omega (arith, low)) (omega (arith, length-drop from es, low, there))),
)
  where
    at : (k : ℕ) (d : Cut) → from ≤ k → get_or (drop from es) (k - from) d ≡ get_or es k d
    at k d le = let is : from + (k - from) ≡ k = omega (arith, le) in get_or-drop from es (k - from) d ∙ ap (λ j. get_or es j d) is

-- the cuts that are left rise too
pub rest-rises : (es : List Cut) (from : ℕ) → Ordered (map ends_of es) → Ordered (map ends_of (drop from es))
rest-rises es zero o = o
rest-rises [] (suc from) o = tt
rest-rises (e ∷ es) (suc from) o = rest-rises es from o.1

never : (x y : List ℕ) → x ≡ y → is_below x y ≡ true → ⊥
never x y e h = true≢false (sym h ∙ (ap (λ z. is_below z y) e ∙ below_not y))

-- ---- what a search finds
none-at : (u v k : ℕ) (es : List Cut) (c : Cut) → ((i : ℕ) → i < length es → (get_or es i c).u ≡ u → (get_or es i c).v ≡ v → ⊥) → filter (joins u v) (numbered k es) ≡ []
none-at u v k [] c h = refl
none-at u v k (e ∷ es) c h = elim (cases_Bool (nat_eq e.u u && nat_eq e.v v)) [
  | inl t ↦
      let p = and_parts (nat_eq e.u u) (nat_eq e.v v) t in
      absurd (h 0 (omega arith) (eqb-true e.u u p.0) (eqb-true e.v v p.1))
  | inr t ↦ rw t (none-at u v (k + 1) es c (λ i lt. h (suc i) (omega (arith, lt))))
]

-- the cut at this place is the only one with its ends
pub one-at : (u v k : ℕ) (es : List Cut) (c : Cut) → Ordered (map ends_of es) → (i : ℕ) → i < length es → (get_or es i c).u ≡ u → (get_or es i c).v ≡ v → filter (joins u v) (numbered k es) ≡ edge_at u v (Some (k + i))
one-at u v k [] c o i lt p q = absurd (omega (arith, lt))
one-at u v k (e ∷ es) c o zero lt p q =
    let none = none-at u v (k + 1) es c (λ i there a b. never (ends_of e) (ends_of (get_or es i c)) (ap₂ (λ m n. m ∷ n ∷ []) (p ∙ sym a) (q ∙ sym b)) (each-at (ends_of e) es o.0 i c there)) in
    let same : k ≡ k + 0 = omega arith in
    rw (and_from (nat_eq e.u u) (nat_eq e.v v) (eq-eqb e.u u p) (eq-eqb e.v v q)) (λ j. record { first = p j; second = q j; label = same j } ∷ none j)
one-at u v k (e ∷ es) c o (suc i) lt p q = elim (cases_Bool (nat_eq e.u u && nat_eq e.v v)) [
  | inl t ↦
      let r = and_parts (nat_eq e.u u) (nat_eq e.v v) t in
      absurd (never (ends_of e) (ends_of (get_or es i c)) (ap₂ (λ m n. m ∷ n ∷ []) (eqb-true e.u u r.0 ∙ sym p) (eqb-true e.v v r.1 ∙ sym q)) (each-at (ends_of e) es o.0 i c (omega (arith, lt))))
  | inr t ↦
      let same : (k + 1) + i ≡ k + suc i = omega arith in
      rw t (one-at u v (k + 1) es c o.1 i (omega (arith, lt)) p q ∙ ap (λ m. edge_at u v (Some m)) same)
]

-- where the first cut that is not before these ends has others, none has them
pub not-there : (u v k : ℕ) (es : List Cut) (c : Cut) (i : ℕ) → Ordered (map ends_of es) → IsPlace u v es i
    → (i < length es → (get_or es i c).u ≡ u → (get_or es i c).v ≡ v → ⊥) → filter (joins u v) (numbered k es) ≡ []
not-there u v k es c i o point other = none-at u v k es c (λ j there p q. elim (cases_order j i) [
  | inl e ↦ other (subst (λ m. m < length es) e there) (subst (λ m. (get_or es m c).u ≡ u) e p) (subst (λ m. (get_or es m c).v ≡ v) e q)
  | inr n ↦ elim n [
    | inl lt ↦ never (ends_of (get_or es j c)) (u ∷ v ∷ []) (ends p q) (point.0 j c (omega arith) lt)
    | inr lt ↦
        let from = below-at es o i j c lt there in
        true≢false (sym (subst (λ y. is_below (ends_of (get_or es i c)) y ≡ true) (ends p q) from) ∙ point.1 i c (omega arith) (omega (arith, lt, there)))
  ]
])
  where
    ends : {a b : ℕ} → a ≡ u → b ≡ v → a ∷ b ∷ [] ≡ u ∷ v ∷ []
    ends p q = ap₂ (λ m n. m ∷ n ∷ []) p q
