-- The neighbours of a point, from the tetrahedra at it.
use Rattle.std.proofs.Common.{◌≡◌, ◌≢◌, ℕ, ◌+◌, ◌<◌, ◌≤◌, Bool, true, false, ◌||◌, ◌&&◌, not, cond, List, [], ◌∷◌, ◌++◌, eqb, length, map, All, refl, sym, ◌∙◌, ap, inl, inr, arith}
use Rattle.std.specs.Prelude.{nat_eq, nat_lt}
use Rattle.std.specs.List.{AllByRecursion as Each, dedup, filter, flat_map, range_with_len}
use Rattle.std.specs.List.Sorted.{IsPermutation, IsSorted}
use Rattle.std.specs.Ordering.{nat_cmp}
use Rattle.std.proofs.lemmas.Bool.{cases_Bool, cases_eq, and_parts, and_from, or_right, eqb-true, ltb-true, ltb-false, true≢false}
use Rattle.std.proofs.lemmas.List.Elements.{All-from_recursion}
use Rattle.std.proofs.lemmas.List.FromFn.{length-range_with_len}
use Rattle.grid.proofs.ForCallers.{count_by-cons_yes, count_by-cons_no, Each-both, has_first, rises_same, has-append}
use Rattle.grid.specs.Meshes.{Mesh, IsWellFormed}
use Rattle.grid.specs.Simplices.{has}
use Rattle.mesh_types.specs.Results.{neighbours}
use Rattle.mesh_types.specs.Tries.{tets_at_edge, tets_at_point}
use Rattle.mesh_types.proofs.ForCallers.{Among, among-all, Cornered, second, found, any_among, cornered_tets}
use Rattle.tet_slots.specs.declared.slot.Slot.{Slot}
use Rattle.tet_slots.specs.Searches.{has_corner, numbers_of}
use Rattle.mesh_store.specs.Parts.{live_tets}
use Rattle.tet_slots.proofs.ForCallers.{has-filter}
use Rattle.mesh_store.proofs.ForCallers.{tets-numbers}
use Rattle.local_ops.specs.Measures.{corners_at}
use Rattle.local_ops.specs.Smoothing.{corners_but}
use Rattle.local_ops.proofs.RisingLists.{has-IsPermutation, has-dedup, rises-dedup, rises-chosen, has-chosen}
use Rattle.local_ops.proofs.NewTets.{some-counted}

-- w is another point of an edge at u
abbrev is_neighbour : List (List ℕ) → ℕ → ℕ → Bool
is_neighbour tets u w = not (nat_eq w u) && nat_lt 0 (tets_at_edge tets u w)

more : (n : ℕ) → nat_lt 0 (1 + n) ≡ true
more n = elim (cases_Bool (nat_lt 0 (1 + n))) [ inl e ↦ e | inr e ↦ let l = ltb-false 0 (1 + n) e in absurd (omega arith) ]

-- one tetrahedron more
step : (u w : ℕ) (x : List ℕ) (tets : List (List ℕ)) → is_neighbour (x ∷ tets) u w ≡ ((has x u && (has x w && not (nat_eq w u))) || is_neighbour tets u w)
step u w x tets = elim (cases_Bool (has x u && has x w)) [
  | inl e ↦
      let c = count_by-cons_yes (λ x. has x u && has x w) x tets e in
      ap (λ n. not (nat_eq w u) && nat_lt 0 n) c ∙ (ap (λ b. not (nat_eq w u) && b) (more (tets_at_edge tets u w)) ∙ yes (has x u) (has x w) (not (nat_eq w u)) (nat_lt 0 (tets_at_edge tets u w)) e)
  | inr e ↦
      let c = count_by-cons_no (λ x. has x u && has x w) x tets e in
      let z : 0 + tets_at_edge tets u w ≡ tets_at_edge tets u w = omega arith in
      ap (λ n. not (nat_eq w u) && nat_lt 0 n) (c ∙ z) ∙ no (has x u) (has x w) (not (nat_eq w u)) (is_neighbour tets u w) e
]
  where
    yes : (a b p q : Bool) → (a && b) ≡ true → (p && true) ≡ ((a && (b && p)) || (p && q))
    yes true true true q h = refl
    yes true true false q h = refl
    yes true false p q h = absurd (true≢false (sym h))
    yes false b p q h = absurd (true≢false (sym h))

    no : (a b p r : Bool) → (a && b) ≡ false → r ≡ ((a && (b && p)) || r)
    no true true p r h = absurd (true≢false h)
    no true false p r h = refl
    no false b p r h = refl

-- the corners other than u of the tetrahedra that have u
has-corners : (u w : ℕ) (tets : List (List ℕ)) → has (flat_map (corners_but u) (filter (λ x. has x u) tets)) w ≡ is_neighbour tets u w
has-corners u w [] = none (not (nat_eq w u))
  where
    none : (b : Bool) → false ≡ (b && false)
    none true = refl
    none false = refl
has-corners u w (x ∷ tets) =
    let rest = has-corners u w tets in
    let all = flat_map (corners_but u) (filter (λ x. has x u) tets) in
    let whole : is_neighbour (x ∷ tets) u w ≡ ((has x u && (has x w && not (nat_eq w u))) || is_neighbour tets u w) = step u w x tets in
    let chosen : Bool → List ℕ = λ b. flat_map (corners_but u) (cond b (x ∷ filter (λ x. has x u) tets) (filter (λ x. has x u) tets)) in
    elim (cases_Bool (has x u)) [
      | inl e ↦
          ap (λ b. has (chosen b) w) e
          ∙ (has-append (corners_but u x) all w
          ∙ ((λ i. has-filter (λ c. not (nat_eq c u)) x w i || rest i)
          ∙ sym (whole ∙ ap (λ b. (b && (has x w && not (nat_eq w u))) || is_neighbour tets u w) e)))
      | inr e ↦ ap (λ b. has (chosen b) w) e ∙ (rest ∙ sym (whole ∙ ap (λ b. (b && (has x w && not (nat_eq w u))) || is_neighbour tets u w) e))
    ]

flat-map : (u : ℕ) (slots : List Slot) (ns : List ℕ) → flat_map (λ i. corners_but u (corners_at slots i)) ns ≡ flat_map (corners_but u) (map (corners_at slots) ns)
flat-map u slots [] = refl
flat-map u slots (n ∷ ns) = ap (λ xs. corners_but u (corners_at slots n) ++ xs) (flat-map u slots ns)

each-has : (P : ℕ → Type 0) (xs : List ℕ) → ((c : ℕ) → has xs c ≡ true → P c) → Each P xs
each-has P [] h = tt
each-has P (a ∷ xs) h = (h a (has_first a xs), each-has P xs (λ c i. h c (or_right (nat_eq a c) (has xs c) i)))

filter-shorter : (p : ℕ → Bool) (xs : List ℕ) → length (filter p xs) ≤ length xs
filter-shorter p [] = omega arith
filter-shorter p (x ∷ xs) = let rest = filter-shorter p xs in elim (cases_Bool (p x)) [ inl e ↦ rw e (omega (arith, rest)) | inr e ↦ rw e (omega (arith, rest)) ]

module _ (m : Mesh) (u : ℕ) (w : IsWellFormed m) where
  is_point : (c : ℕ) → is_neighbour m.tets u c ≡ true → c < length m.points
  is_point c h =
      let p = and_parts (not (nat_eq c u)) (nat_lt 0 (tets_at_edge m.tets u c)) h in
      let x = found (Cornered (length m.points)) (λ x. has x u && has x c) m.tets (cornered_tets m w) (ltb-true 0 (tets_at_edge m.tets u c) p.1) in
      x.1.below c (and_parts (has x.0 u) (has x.0 c) x.2).1

  has-neighbours : (c : ℕ) → has (neighbours m u) c ≡ is_neighbour m.tets u c
  has-neighbours c = has-chosen (λ c. is_neighbour m.tets u c) (length m.points) c (is_point c)

  -- a sorted list of the corners, each kept once
  pub neighbours-are : (slots : List Slot) → live_tets slots ≡ m.tets → (listed sorted : List ℕ) → listed ≡ flat_map (λ i. corners_but u (corners_at slots i)) (numbers_of (has_corner u) 0 slots)
      → IsPermutation listed sorted → IsSorted nat_cmp sorted → dedup eqb sorted ≡ neighbours m u
  neighbours-are slots tets listed sorted is moved order =
      rises_same (dedup eqb sorted) (neighbours m u) (rises-dedup sorted order) (rises-chosen (λ c. is_neighbour m.tets u c) (length m.points))
      (λ c. has-dedup sorted c ∙ (has-IsPermutation listed sorted c moved ∙ (ap (λ xs. has xs c) flat ∙ (has-corners u c (live_tets slots) ∙ (ap (λ ts. is_neighbour ts u c) tets ∙ sym (has-neighbours c))))))
    where
      flat : listed ≡ flat_map (corners_but u) (filter (λ x. has x u) (live_tets slots))
      flat = is ∙ (flat-map u slots (numbers_of (has_corner u) 0 slots) ∙ ap (flat_map (corners_but u)) (tets-numbers (has_corner u) (λ x. has x u) (λ s. refl) [] slots))

  pub neighbours-below : All (λ c. c < length m.points) (neighbours m u)
  neighbours-below = All-from_recursion (λ c. c < length m.points) (neighbours m u) (each-has (λ c. c < length m.points) (neighbours m u) (λ c h. is_point c (sym (has-neighbours c) ∙ h)))

  pub neighbours-few : length (neighbours m u) ≤ length m.points
  neighbours-few = let a = filter-shorter (λ c. is_neighbour m.tets u c) (range_with_len 0 (length m.points)) in let b = length-range_with_len 0 (length m.points) in omega arith

  some_at : (x : List ℕ) (c : ℕ) → Among m.tets x → has x u ≡ true → has x c ≡ true → c ≢ u → 0 < length (neighbours m u)
  some_at x c i p q n =
      let both : (has x u && has x c) ≡ true = and_from (has x u) (has x c) p q in
      let count : 0 < tets_at_edge m.tets u c = some-counted (λ x. has x u && has x c) m.tets (any_among (λ x. has x u && has x c) m.tets x i both) in
      let there : has (neighbours m u) c ≡ true = has-neighbours c ∙ and_from (not (nat_eq c u)) (nat_lt 0 (tets_at_edge m.tets u c)) (ap not (differ c u n)) (below (tets_at_edge m.tets u c) count) in
      some (neighbours m u) there
    where
      differ : (a b : ℕ) → a ≢ b → nat_eq a b ≡ false
      differ a b n = elim (cases_Bool (nat_eq a b)) [ inl e ↦ absurd (n (eqb-true a b e)) | inr e ↦ e ]

      below : (n : ℕ) → 0 < n → nat_lt 0 n ≡ true
      below n l = elim (cases_Bool (nat_lt 0 n)) [ inl e ↦ e | inr e ↦ let k = ltb-false 0 n e in absurd (omega arith) ]

      some : (xs : List ℕ) → has xs c ≡ true → 0 < length xs
      some [] h = absurd (true≢false (sym h))
      some (y ∷ xs) h = omega arith

  -- there is one, where a tetrahedron has u
  pub neighbours-some : 0 < tets_at_point m.tets u → 0 < length (neighbours m u)
  neighbours-some h =
      let each = Each-both (Cornered (length m.points)) (Among m.tets) m.tets (cornered_tets m w) (among-all m.tets) in
      let x = found (λ x. Cornered (length m.points) x × Among m.tets x) (λ x. has x u) m.tets each h in
      let k = x.1.0 in
      let a : has x.0 k.a ≡ true = ap (λ y. has y k.a) k.is ∙ has_first k.a (k.b ∷ k.c ∷ k.d ∷ []) in
      let b : has x.0 k.b ≡ true = ap (λ y. has y k.b) k.is ∙ second k.a k.b (k.c ∷ k.d ∷ []) in
      elim (cases_eq k.a u) [
        | inl e ↦ some_at x.0 k.b x.1.1 x.2 b (λ f. k.different.ab (e ∙ sym f))
        | inr n ↦ some_at x.0 k.a x.1.1 x.2 a n
      ]
