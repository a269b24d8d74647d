-- A rising list of edges, taken apart edge by edge.
use Rattle.std.proofs.Common.{◌≡◌, ◌⊎◌, ◌<◌, Bool, true, false, ◌||◌, nat_eq, List, [], ◌∷◌, ◌++◌, refl, sym, ap, ◌∙◌, arith, inl, inr}
use Rattle.std.specs.List.{flat_map, filter, AllByRecursion as Each}
use Rattle.std.proofs.lemmas.Bool.{and_parts, or_cases, eqb-true, true≢false}
use Rattle.cut_tables.specs.Cutting.{RankEdge}
use Rattle.grid.proofs.ForCallers.{Each-weaker}
use Rattle.table_pieces.specs.Labels.{joins}

-- each is before the later ones
abbrev pub RisesBy : {X : Type 0} → (X → X → Type 0) → List X → Type 0
RisesBy R [] = Unit {0}
RisesBy R (x ∷ xs) = Each (R x) xs × RisesBy R xs

pub none_pass : {X : Type 0} (p : X → Bool) (xs : List X) → Each (λ x. p x ≡ false) xs → filter p xs ≡ []
none_pass p [] e = refl
none_pass p (x ∷ xs) e = rw e.0 (none_pass p xs e.1)

-- where no member that passes p comes after one that passes q, those that pass p come first
pub first_part : {X : Type 0} (R : X → X → Type 0) (p q : X → Bool) → ((x y : X) → R x y → q x ≡ true → p y ≡ false) → ((x : X) → p x ≡ true → q x ≡ false)
    → (xs : List X) → RisesBy R xs → filter (λ x. p x || q x) xs ≡ filter p xs ++ filter q xs
first_part R p q later apart [] r = refl
first_part R p q later apart (x ∷ xs) r = by_test (p x) (q x) refl refl (first_part R p q later apart xs r.1)
  where
    by_test : (a b : Bool) → p x ≡ a → q x ≡ b → filter (λ y. p y || q y) xs ≡ filter p xs ++ filter q xs → filter (λ y. p y || q y) (x ∷ xs) ≡ filter p (x ∷ xs) ++ filter q (x ∷ xs)
    by_test true true s t rest = absurd (true≢false (sym t ∙ apart x s))
    by_test true false s t rest = rw s (rw t (ap (λ ys. x ∷ ys) rest))
    by_test false false s t rest = rw s (rw t rest)
    by_test false true s t rest =
        let gone : filter p xs ≡ [] = none_pass p xs (Each-weaker (R x) (λ y. p y ≡ false) (λ y b. later x y b t) xs r.0) in
        rw s (rw t (ap (λ ys. x ∷ ys) (rest ∙ ap (λ zs. zs ++ filter q xs) gone) ∙ ap (λ zs. zs ++ (x ∷ filter q xs)) (sym gone)))

-- by the smaller end, and then by the other
abbrev pub IsBefore : RankEdge → RankEdge → Type 0
IsBefore e d = (e.first < d.first) ⊎ ((e.first ≡ d.first) × (e.second < d.second))

-- the same ends
abbrev pub has_ends : RankEdge → RankEdge → Bool
has_ends d e = joins d.first d.second e

abbrev pub is_among : List RankEdge → RankEdge → Bool
is_among [] e = false
is_among (d ∷ ds) e = has_ends d e || is_among ds e

ends-of : (d e : RankEdge) → has_ends d e ≡ true → (e.first ≡ d.first) × (e.second ≡ d.second)
ends-of d e h =
    let p = and_parts (nat_eq e.first d.first) (nat_eq e.second d.second) h in
    (eqb-true e.first d.first p.0, eqb-true e.second d.second p.1)

among-after : (d : RankEdge) (ds : List RankEdge) → Each (IsBefore d) ds → (e : RankEdge) → is_among ds e ≡ true → IsBefore d e
among-after d [] b e h = absurd (true≢false (sym h))
among-after d (c ∷ ds) b e h = elim (or_cases _ _ h) [
  | inl t ↦
      let s = ends-of c e t in
      elim b.0 [ inl lt ↦ inl (omega (arith, lt, s.0)) | inr m ↦ inr (omega (arith, m.0, s.0), omega (arith, m.1, s.1)) ]
  | inr t ↦ among-after d ds b.1 e t
]

never_same : (d e : RankEdge) → IsBefore d e → has_ends d e ≡ false
never_same d e b = by_test (has_ends d e) refl
  where
    by_test : (t : Bool) → has_ends d e ≡ t → has_ends d e ≡ false
    by_test false h = h
    by_test true h =
        let s = ends-of d e h in
        elim b [ inl lt ↦ absurd (omega (arith, lt, s.0)) | inr m ↦ absurd (omega (arith, m.1, s.1)) ]

before-before : (c d e : RankEdge) → IsBefore c d → IsBefore d e → IsBefore c e
before-before c d e b f = elim b [
  | inl lt ↦ elim f [ inl gt ↦ inl (omega (arith, lt, gt)) | inr m ↦ inl (omega (arith, lt, m.0)) ]
  | inr n ↦ elim f [ inl gt ↦ inl (omega (arith, n.0, gt)) | inr m ↦ inr (omega (arith, n.0, m.0), omega (arith, n.1, m.1)) ]
]

-- of a rising list, the edges that are among those of a second rising list, for each of these in turn
pub by_edge : (es : List RankEdge) → RisesBy IsBefore es → (ds : List RankEdge) → RisesBy IsBefore ds → filter (is_among ds) es ≡ flat_map (λ d. filter (has_ends d) es) ds
by_edge es r [] s = none_pass (λ e. false) es (all es)
  where
    all : (xs : List RankEdge) → Each (λ e. false ≡ false) xs
    all [] = tt
    all (x ∷ xs) = (refl, all xs)
by_edge es r (d ∷ ds) s =
    first_part IsBefore (has_ends d) (is_among ds) (λ x y b h. never_same d y (before-before d x y (among-after d ds s.0 x h) b)) (λ x h. apart x h (is_among ds x) refl) es r
    ∙ ap (λ ys. filter (has_ends d) es ++ ys) (by_edge es r ds s.1)
  where
    apart : (x : RankEdge) → has_ends d x ≡ true → (b : Bool) → is_among ds x ≡ b → is_among ds x ≡ false
    apart x h false t = t
    apart x h true t = absurd (true≢false (sym h ∙ never_same d x (among-after d ds s.0 x t)))
