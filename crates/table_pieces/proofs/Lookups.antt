-- The pieces of a tetrahedron whose six edges were looked up in a rising list.
use Rattle.std.proofs.Common.{◌≡◌, ◌⊎◌, ℕ, ◌<◌, Bool, true, false, cond, ◌&&◌, nat_eq, List, [], ◌∷◌, ◌++◌, map, refl, sym, ap, ap₂, subst, ◌∙◌, arith, inl, inr}
use Rattle.std.specs.List.{flat_map, filter, AllByRecursion as Each}
use Rattle.std.proofs.lemmas.Bool.{and_parts, or_cases, or_left, or_right, eqb-true, eq-eqb, true≢false}
use Rattle.grid.specs.Simplices.{has}
use Rattle.cut_tables.specs.Cutting.{RankEdge, edge, all_edges, edges_of, has_label, pieces_of, split_in_turn}
use Rattle.grid.proofs.ForCallers.{Each-weaker, same_bools}
use Rattle.table_pieces.specs.Labels.{arranged, renamed, IsLookedUp}
use Rattle.table_pieces.proofs.Renaming.{IsInjectiveOn}
use Rattle.table_pieces.proofs.Places.{IsArrangement, has-arranged}
use Rattle.table_pieces.proofs.Untouched.{IsNumbered, has_edge}
use Rattle.table_pieces.proofs.ByEdge.{RisesBy, IsBefore, has_ends, is_among, by_edge}
use Rattle.table_pieces.proofs.Tetrahedra.{ranks, IsLabel, pieces-of_mask}

-- ---- the six edges of a tetrahedron
-- the corner of each rank is below the next
pub record Rise (f : ℕ → ℕ) : Type 0 where
  pub first : f 0 < f 1
  pub second : f 1 < f 2
  pub third : f 2 < f 3

four : (a b c d u : ℕ) → has (a ∷ b ∷ c ∷ d ∷ []) u ≡ true → (a ≡ u) ⊎ ((b ≡ u) ⊎ ((c ≡ u) ⊎ (d ≡ u)))
four a b c d u h = elim (or_cases _ _ h) [
  | inl e ↦ inl (eqb-true a u e)
  | inr h1 ↦ elim (or_cases _ _ h1) [
    | inl e ↦ inr (inl (eqb-true b u e))
    | inr h2 ↦ elim (or_cases _ _ h2) [
      | inl e ↦ inr (inr (inl (eqb-true c u e)))
      | inr h3 ↦ elim (or_cases _ _ h3) [ inl e ↦ inr (inr (inr (eqb-true d u e))) | inr h4 ↦ absurd (true≢false (sym h4)) ]
    ]
  ]
]

ends : (d e : RankEdge) → d.first ≡ e.first → d.second ≡ e.second → has_ends d e ≡ true
ends d e p q = ap₂ (λ a b. a && b) (eq-eqb e.first d.first (sym p)) (eq-eqb e.second d.second (sym q))

among-edge : (f : ℕ → ℕ) → Rise f → (e : RankEdge) → e.first < e.second → has_edge (map f ranks) e ≡ true → is_among (map (renamed f) all_edges) e ≡ true
among-edge f r e lt h =
    let p = and_parts (has (map f ranks) e.first) (has (map f ranks) e.second) h in
    pick (four (f 0) (f 1) (f 2) (f 3) e.first p.0) (four (f 0) (f 1) (f 2) (f 3) e.second p.1)
  where
    pick : (f 0 ≡ e.first) ⊎ ((f 1 ≡ e.first) ⊎ ((f 2 ≡ e.first) ⊎ (f 3 ≡ e.first))) → (f 0 ≡ e.second) ⊎ ((f 1 ≡ e.second) ⊎ ((f 2 ≡ e.second) ⊎ (f 3 ≡ e.second))) → is_among (map (renamed f) all_edges) e ≡ true
    pick (inl a) (inl b) = absurd (omega (arith, a, b, lt))
    pick (inl a) (inr (inl b)) = or_left (has_ends (renamed f (edge 0 0 1)) e) _ (ends (renamed f (edge 0 0 1)) e a b)
    pick (inl a) (inr (inr (inl b))) = or_right (has_ends (renamed f (edge 0 0 1)) e) _ (or_left (has_ends (renamed f (edge 1 0 2)) e) _ (ends (renamed f (edge 1 0 2)) e a b))
    pick (inl a) (inr (inr (inr b))) = or_right (has_ends (renamed f (edge 0 0 1)) e) _ (or_right (has_ends (renamed f (edge 1 0 2)) e) _ (or_left (has_ends (renamed f (edge 2 0 3)) e) _ (ends (renamed f (edge 2 0 3)) e a b)))
    pick (inr (inl a)) (inl b) = absurd (omega (arith, a, b, lt, r.first))
    pick (inr (inl a)) (inr (inl b)) = absurd (omega (arith, a, b, lt))
    pick (inr (inl a)) (inr (inr (inl b))) = or_right (has_ends (renamed f (edge 0 0 1)) e) _ (or_right (has_ends (renamed f (edge 1 0 2)) e) _ (or_right (has_ends (renamed f (edge 2 0 3)) e) _ (or_left (has_ends (renamed f (edge 3 1 2)) e) _ (ends (renamed f (edge 3 1 2)) e a b))))
    pick (inr (inl a)) (inr (inr (inr b))) = or_right (has_ends (renamed f (edge 0 0 1)) e) _ (or_right (has_ends (renamed f (edge 1 0 2)) e) _ (or_right (has_ends (renamed f (edge 2 0 3)) e) _ (or_right (has_ends (renamed f (edge 3 1 2)) e) _ (or_left (has_ends (renamed f (edge 4 1 3)) e) _ (ends (renamed f (edge 4 1 3)) e a b)))))
    pick (inr (inr (inl a))) (inl b) = absurd (omega (arith, a, b, lt, r.first, r.second))
    pick (inr (inr (inl a))) (inr (inl b)) = absurd (omega (arith, a, b, lt, r.second))
    pick (inr (inr (inl a))) (inr (inr (inl b))) = absurd (omega (arith, a, b, lt))
    pick (inr (inr (inl a))) (inr (inr (inr b))) = or_right (has_ends (renamed f (edge 0 0 1)) e) _ (or_right (has_ends (renamed f (edge 1 0 2)) e) _ (or_right (has_ends (renamed f (edge 2 0 3)) e) _ (or_right (has_ends (renamed f (edge 3 1 2)) e) _ (or_right (has_ends (renamed f (edge 4 1 3)) e) _ (or_left (has_ends (renamed f (edge 5 2 3)) e) _ (ends (renamed f (edge 5 2 3)) e a b))))))
    pick (inr (inr (inr a))) (inl b) = absurd (omega (arith, a, b, lt, r.first, r.second, r.third))
    pick (inr (inr (inr a))) (inr (inl b)) = absurd (omega (arith, a, b, lt, r.second, r.third))
    pick (inr (inr (inr a))) (inr (inr (inl b))) = absurd (omega (arith, a, b, lt, r.third))
    pick (inr (inr (inr a))) (inr (inr (inr b))) = absurd (omega (arith, a, b, lt))

has-there : (x : List ℕ) (c u : ℕ) → has x c ≡ true → c ≡ u → has x u ≡ true
has-there x c u h e = subst (λ d. has x d ≡ true) e h

edge-among : (x : List ℕ) (ds : List RankEdge) → Each (λ d. has_edge x d ≡ true) ds → (e : RankEdge) → is_among ds e ≡ true → has_edge x e ≡ true
edge-among x [] b e h = absurd (true≢false (sym h))
edge-among x (d ∷ ds) b e h = elim (or_cases _ _ h) [
  | inl t ↦
      let p = and_parts (nat_eq e.first d.first) (nat_eq e.second d.second) t in
      let q = and_parts (has x d.first) (has x d.second) b.0 in
      ap₂ (λ a c. a && c) (has-there x d.first e.first q.0 (sym (eqb-true e.first d.first p.0))) (has-there x d.second e.second q.1 (sym (eqb-true e.second d.second p.1)))
  | inr t ↦ edge-among x ds b.1 e t
]

-- a rank's corner is there
h0 : (a b c d : ℕ) → has (a ∷ b ∷ c ∷ d ∷ []) a ≡ true
h0 a b c d = or_left _ _ (eq-eqb a a refl)

h1 : (a b c d : ℕ) → has (a ∷ b ∷ c ∷ d ∷ []) b ≡ true
h1 a b c d = or_right (nat_eq a b) _ (or_left _ _ (eq-eqb b b refl))

h2 : (a b c d : ℕ) → has (a ∷ b ∷ c ∷ d ∷ []) c ≡ true
h2 a b c d = or_right (nat_eq a c) _ (or_right (nat_eq b c) _ (or_left _ _ (eq-eqb c c refl)))

h3 : (a b c d : ℕ) → has (a ∷ b ∷ c ∷ d ∷ []) d ≡ true
h3 a b c d = or_right (nat_eq a d) _ (or_right (nat_eq b d) _ (or_right (nat_eq c d) _ (or_left _ _ (eq-eqb d d refl))))

both : {p q : Bool} → p ≡ true → q ≡ true → (p && q) ≡ true
both s t = ap₂ (λ a c. a && c) s t

all_there : (f : ℕ → ℕ) → Each (λ d. has_edge (map f ranks) d ≡ true) (map (renamed f) all_edges)
all_there f =
    let a = h0 (f 0) (f 1) (f 2) (f 3) in
    let b = h1 (f 0) (f 1) (f 2) (f 3) in
    let c = h2 (f 0) (f 1) (f 2) (f 3) in
    let d = h3 (f 0) (f 1) (f 2) (f 3) in
    (both a b, (both a c, (both a d, (both b c, (both b d, (both c d, tt))))))

-- x has an edge where it is one of the six
has_edge-among : (f : ℕ → ℕ) → Rise f → (places : List ℕ) → IsArrangement 4 places → (e : RankEdge) → e.first < e.second → has_edge (arranged places (map f ranks)) e ≡ is_among (map (renamed f) all_edges) e
has_edge-among f r places a e lt =
    ap₂ (λ p q. p && q) (has-arranged places (map f ranks) e.first a) (has-arranged places (map f ranks) e.second a)
    ∙ same_bools _ _ (among-edge f r e lt) (edge-among (map f ranks) (map (renamed f) all_edges) (all_there f) e)

filter-same : {X : Type 0} (p q : X → Bool) (xs : List X) → Each (λ x. p x ≡ q x) xs → filter p xs ≡ filter q xs
filter-same p q [] e = refl
filter-same p q (x ∷ xs) e = by_test (q x) refl (filter-same p q xs e.1)
  where
    by_test : (b : Bool) → q x ≡ b → filter p xs ≡ filter q xs → filter p (x ∷ xs) ≡ filter q (x ∷ xs)
    by_test true t rest = rw (e.0 ∙ t) (rw t (ap (λ ys. x ∷ ys) rest))
    by_test false t rest = rw (e.0 ∙ t) (rw t rest)

-- ---- what was looked up
looked_up : (f : ℕ → ℕ) (mask : ℕ) (es ds : List RankEdge) → Each (IsLookedUp f mask es) ds → flat_map (λ d. filter (has_ends d) es) (map (renamed f) ds) ≡ map (renamed f) (filter (λ e. has_label mask e.label) ds)
looked_up f mask es [] l = refl
looked_up f mask es (d ∷ ds) l =
    (λ i. l.0 i ++ looked_up f mask es ds l.1 i) ∙ by_test (has_label mask d.label) refl
  where
    by_test : (b : Bool) → has_label mask d.label ≡ b → cond (has_label mask d.label) (renamed f d ∷ []) [] ++ map (renamed f) (filter (λ e. has_label mask e.label) ds) ≡ map (renamed f) (filter (λ e. has_label mask e.label) (d ∷ ds))
    by_test true t = rw t refl
    by_test false t = rw t refl

six-rise : (f : ℕ → ℕ) → Rise f → RisesBy IsBefore (map (renamed f) all_edges)
six-rise f r =
    let a = r.first in
    let b = r.second in
    let c = r.third in (
      (inr (refl, b), (inr (refl, omega (arith, b, c)), (inl a, (inl a, (inl (omega (arith, a, b)), tt))))),
      (
        (inr (refl, c), (inl a, (inl a, (inl (omega (arith, a, b)), tt)))),
        (
          (inl a, (inl a, (inl (omega (arith, a, b)), tt))),
          (
            (inr (refl, c), (inl b, tt)),
            ((inl b, tt), (tt, tt)),
          ),
        ),
      ),
    )

-- what the code has to show of a tetrahedron x and a list of edges, to take its pieces from the table
pub record IsLookup (f : ℕ → ℕ) (places : List ℕ) (mask : ℕ) (es : List RankEdge) (x : List ℕ) : Type 0 where
  pub rise : Rise f
  pub injective : IsInjectiveOn (IsLabel mask) f
  pub places_are : IsArrangement 4 places
  pub corners : x ≡ arranged places (map f ranks)
  pub edges : Each (IsLookedUp f mask es) all_edges

pub pieces-by_lookup : (n : ℕ) (f : ℕ → ℕ) (places : List ℕ) (mask : ℕ) (es : List RankEdge) (x : List ℕ) → Each (IsNumbered n) es → Each (λ e. e.first < e.second) es → RisesBy IsBefore es → IsLookup f places mask es x
    → split_in_turn es x ≡ map (arranged places) (map (map f) (pieces_of mask))
pieces-by_lookup n f places mask es x num up rises l =
    pieces-of_mask n f places mask es x num (record {
      injective = l.injective;
      places_are = l.places_are;
      corners = l.corners;
      edges =
          subst (λ y. filter (has_edge y) es ≡ map (renamed f) (edges_of mask)) (sym l.corners)
          (filter-same (has_edge (arranged places (map f ranks))) (is_among (map (renamed f) all_edges)) es
          (Each-weaker (λ e. e.first < e.second) (λ e. has_edge (arranged places (map f ranks)) e ≡ is_among (map (renamed f) all_edges) e) (λ e lt. has_edge-among f l.rise places l.places_are e lt) es up)
          ∙ (by_edge es rises (map (renamed f) all_edges) (six-rise f l.rise)
          ∙ looked_up f mask es all_edges l.edges));
    })
