-- The labels of a tetrahedron have different numbers, and so the table's row of its mask has its pieces.
use Rattle.std.proofs.Common.{◌≡◌, ◌⊎◌, ℕ, zero, suc, ◌+◌, ◌-◌, ◌<◌, ◌≤◌, Bool, true, cond, nat_eq, List, [], ◌∷◌, map, length, get_or, ap, ap₂, refl, sym, subst, ◌∙◌, arith, inl, inr}
use Rattle.std.specs.List.{AllByRecursion as Each}
use Rattle.std.proofs.lemmas.Bool.{cases_eq, eq-eqb, ne_eqb, true≢false}
use Rattle.std.proofs.lemmas.List.Elements.{recursion_from_All}
use Rattle.grid.specs.Simplices.{has, rising, Rises, IsTet}
use Rattle.mesh_types.specs.declared.cut.Cut.{Cut}
use Rattle.mesh_types.specs.CutLists.{AreCuts}
use Rattle.mesh_types.specs.Refines.{sub_all}
use Rattle.grid.proofs.ForCallers.{Each-weaker, Each-both, has_cases, has-rising, rising-Rises, has-get_or}
use Rattle.mesh_types.proofs.ForCallers.{Each-filter, Each-passed}
use Rattle.pieces.proofs.SplitLemmas.{no_cut}
use Rattle.cut_tables.specs.Cutting.{RankEdge, all_edges, edges_of, has_label, pieces_of}
use Rattle.table_pieces.specs.Labels.{AreLabels, ArePlaces, arranged, IsLookedUp, number_at, numbered, renamed}
use Rattle.table_pieces.proofs.CutEdges.{sub_all-by_lookup}
use Rattle.table_pieces.proofs.Lookups.{Rise}
use Rattle.table_pieces.proofs.Ranks.{one-place, places-are}
use Rattle.table_pieces.proofs.Renaming.{IsInjectiveOn}
use Rattle.table_pieces.proofs.Tetrahedra.{ranks, IsLabel}

-- ---- the edges of the cuts
abbrev cut_at : List Cut → ℕ → Cut
cut_at cuts i = get_or cuts i no_cut

-- the label is the number of the new point of the cut with these ends
record IsMember (n : ℕ) (cuts : List Cut) (e : RankEdge) : Type 0 where
  pub not_below : n ≤ e.label
  pub first : e.first ≡ (cut_at cuts (e.label - n)).u
  pub second : e.second ≡ (cut_at cuts (e.label - n)).v

members : (n : ℕ) (cuts : List Cut) → Each (IsMember n cuts) (numbered n cuts)
members n [] = tt
members n (e ∷ es) = (here, Each-weaker (IsMember (n + 1) es) (IsMember n (e ∷ es)) later (numbered (n + 1) es) (members (n + 1) es))
  where
    here : IsMember n (e ∷ es) (record { first = e.u; second = e.v; label = n })
    here = let z : 0 ≡ n - n = omega arith in record { not_below = omega arith; first = ap (λ m. (cut_at (e ∷ es) m).u) z; second = ap (λ m. (cut_at (e ∷ es) m).v) z }

    later : (d : RankEdge) → IsMember (n + 1) es d → IsMember n (e ∷ es) d
    later d h =
        let below = h.not_below in
        let s : suc (d.label - (n + 1)) ≡ d.label - n = omega (arith, below) in
        record { not_below = omega (arith, below); first = h.first ∙ ap (λ m. (cut_at (e ∷ es) m).u) s; second = h.second ∙ ap (λ m. (cut_at (e ∷ es) m).v) s }

-- ---- the edges of a tetrahedron by rank
-- the label of the edge that joins two ranks
abbrev label_at : ℕ → ℕ → ℕ
label_at u v = 3 + v + cond (nat_eq u 0) 0 (cond (nat_eq u 1) 2 3)

record IsEdge (e : RankEdge) : Type 0 where
  pub first : e.first < 4
  pub second : e.second < 4
  pub label : e.label ≡ label_at e.first e.second
  pub few : e.label < 10

edges-are : Each IsEdge all_edges
edges-are = (
  record { first = omega arith; second = omega arith; label = refl; few = omega arith },
  (
    record { first = omega arith; second = omega arith; label = refl; few = omega arith },
    (
      record { first = omega arith; second = omega arith; label = refl; few = omega arith },
      (
        record { first = omega arith; second = omega arith; label = refl; few = omega arith },
        (
          record { first = omega arith; second = omega arith; label = refl; few = omega arith },
          (record { first = omega arith; second = omega arith; label = refl; few = omega arith }, tt),
        ),
      ),
    ),
  ),
)

of_label : (P : ℕ → Type 0) (es : List RankEdge) → Each (λ e. P e.label) es → (c : ℕ) → has (map (λ e. e.label) es) c ≡ true → P c
of_label P [] h c g = absurd (true≢false (sym g))
of_label P (e ∷ es) h c g = elim (has_cases e.label (map (λ e. e.label) es) c g) [
  | inl t ↦ subst P t h.0
  | inr t ↦ of_label P es h.1 c t
]

-- a label is a rank or that of an edge of the mask
label_cases : (P : ℕ → Type 0) (mask c : ℕ) → Each (λ e. P e.label) (edges_of mask) → IsLabel mask c → (c < 4) ⊎ P c
label_cases P mask c h g =
    let new : List ℕ = map (λ (e : RankEdge). e.label) (edges_of mask) in
    elim (has_cases 0 (1 ∷ 2 ∷ 3 ∷ new) c g) [
      | inl e ↦ inl (omega (arith, e))
      | inr g1 ↦ elim (has_cases 1 (2 ∷ 3 ∷ new) c g1) [
        | inl e ↦ inl (omega (arith, e))
        | inr g2 ↦ elim (has_cases 2 (3 ∷ new) c g2) [
          | inl e ↦ inl (omega (arith, e))
          | inr g3 ↦ elim (has_cases 3 new c g3) [ inl e ↦ inl (omega (arith, e)) | inr g4 ↦ inr (of_label P (edges_of mask) h c g4) ]
        ]
      ]
    ]

pub label-few : (mask c : ℕ) → IsLabel mask c → c < 10
label-few mask c g = elim (label_cases (λ d. d < 10) mask c (Each-filter (λ e. e.label < 10) (λ e. has_label mask e.label) all_edges (Each-weaker IsEdge (λ e. e.label < 10) (λ e h. h.few) all_edges edges-are)) g) [
  | inl lt ↦ omega (arith, lt)
  | inr lt ↦ lt
]

-- ---- the numbers of labels
module _ (n : ℕ) (cuts : List Cut) (x corners numbers places : List ℕ) (mask : ℕ) (is : corners ≡ rising x) (tet : IsTet n x) (are : AreCuts n cuts) (l : AreLabels n cuts corners numbers mask) where
  rises : Rises corners
  rises = subst Rises (sym is) (rising-Rises x tet.different)

  four : length corners ≡ 4
  four = ap length (sym l.corners_are)

  rise : Rise (number_at numbers)
  rise =
      let r : Rises (map (number_at numbers) ranks) = subst Rises (sym l.corners_are) rises in
      record { first = r.0.0; second = r.1.0.0; third = r.1.1.0.0 }

  rank-at : (c : ℕ) → c < 4 → number_at numbers c ≡ get_or corners c 0
  rank-at c lt = by_rank c lt ∙ ap (λ (y : List ℕ). get_or y c 0) l.corners_are
    where
      by_rank : (c : ℕ) → c < 4 → number_at numbers c ≡ get_or (map (number_at numbers) ranks) c 0
      by_rank zero lt = refl
      by_rank (suc zero) lt = refl
      by_rank (suc (suc zero)) lt = refl
      by_rank (suc (suc (suc zero))) lt = refl
      by_rank (suc (suc (suc (suc c)))) lt = absurd (omega (arith, lt))

  rank-once : (c d : ℕ) → c < 4 → d < 4 → number_at numbers c ≡ number_at numbers d → c ≡ d
  rank-once c d a b e = one-place corners rises c d (subst (λ m. c < m) (sym four) a) (subst (λ m. d < m) (sym four) b) (sym (rank-at c a) ∙ (e ∙ rank-at d b))

  each-has : (P : ℕ → Type 0) (y : List ℕ) → Each P y → (c : ℕ) → has y c ≡ true → P c
  each-has P [] h c g = absurd (true≢false (sym g))
  each-has P (a ∷ y) h c g = elim (has_cases a y c g) [ inl e ↦ subst P e h.0 | inr e ↦ each-has P y h.1 c e ]

  rank-below : (c : ℕ) → c < 4 → number_at numbers c < n
  rank-below c lt =
      let there : has x (get_or corners c 0) ≡ true = sym (has-rising x (get_or corners c 0)) ∙ (ap (λ (y : List ℕ). has y (get_or corners c 0)) (sym is) ∙ has-get_or corners c (subst (λ m. c < m) (sym four) lt)) in
      subst (λ m. m < n) (sym (rank-at c lt)) (each-has (λ m. m < n) x (recursion_from_All (λ m. m < n) x tet.in_range) (get_or corners c 0) there)

  -- the label of an edge that a cut was found for
  record IsNewLabel (c : ℕ) : Type 0 where
    pub first : ℕ
    pub second : ℕ
    pub first_in : first < 4
    pub second_in : second < 4
    pub label : c ≡ label_at first second
    pub not_below : n ≤ number_at numbers c
    pub first_is : number_at numbers first ≡ (cut_at cuts (number_at numbers c - n)).u
    pub second_is : number_at numbers second ≡ (cut_at cuts (number_at numbers c - n)).v

  new-label : (e : RankEdge) → has_label mask e.label ≡ true → IsLookedUp (number_at numbers) mask (numbered n cuts) e → IsEdge e → IsNewLabel e.label
  new-label e h found edge =
      let m : IsMember n cuts (renamed (number_at numbers) e) = (subst (Each (IsMember n cuts)) (found ∙ ap (λ b. cond b (renamed (number_at numbers) e ∷ []) []) h) (Each-filter (IsMember n cuts) _ (numbered n cuts) (members n cuts))).0 in
      record {
        first = e.first;
        second = e.second;
        first_in = edge.first;
        second_in = edge.second;
        label = edge.label;
        not_below = m.not_below;
        first_is = m.first;
        second_is = m.second;
      }

  new-labels : Each (λ e. IsNewLabel e.label) (edges_of mask)
  new-labels =
      let p : RankEdge → Bool = λ e. has_label mask e.label in
      Each-weaker (λ e. (p e ≡ true) × (IsLookedUp (number_at numbers) mask (numbered n cuts) e × IsEdge e)) (λ e. IsNewLabel e.label) (λ e h. new-label e h.0 h.1.0 h.1.1) (edges_of mask)
      (Each-both (λ e. p e ≡ true) (λ e. IsLookedUp (number_at numbers) mask (numbered n cuts) e × IsEdge e) (edges_of mask) (Each-passed p all_edges)
      (Each-filter (λ e. IsLookedUp (number_at numbers) mask (numbered n cuts) e × IsEdge e) p all_edges (Each-both (IsLookedUp (number_at numbers) mask (numbered n cuts)) IsEdge all_edges l.edges edges-are)))

  new-once : (c d : ℕ) → IsNewLabel c → IsNewLabel d → number_at numbers c ≡ number_at numbers d → c ≡ d
  new-once c d p q e =
      let a = rank-once p.first q.first p.first_in q.first_in (p.first_is ∙ (ap (λ m. (cut_at cuts (m - n)).u) e ∙ sym q.first_is)) in
      let b = rank-once p.second q.second p.second_in q.second_in (p.second_is ∙ (ap (λ m. (cut_at cuts (m - n)).v) e ∙ sym q.second_is)) in
      p.label ∙ (ap₂ label_at a b ∙ sym q.label)

  once : (c d : ℕ) → IsLabel mask c → IsLabel mask d → number_at numbers c ≡ number_at numbers d → c ≡ d
  once c d g h e = elim (label_cases IsNewLabel mask c new-labels g) [
    | inl a ↦ elim (label_cases IsNewLabel mask d new-labels h) [
      | inl b ↦ rank-once c d a b e
      | inr q ↦ absurd (never _ _ (rank-below c a) q.not_below e)
    ]
    | inr p ↦ elim (label_cases IsNewLabel mask d new-labels h) [
      | inl b ↦ absurd (never _ _ (rank-below d b) p.not_below (sym e))
      | inr q ↦ new-once c d p q e
    ]
  ]
    where
      never : (i j : ℕ) → i < n → n ≤ j → i ≡ j → ⊥
      never i j lt le e = omega arith

  injective : IsInjectiveOn (IsLabel mask) (number_at numbers)
  injective c d g h = elim (cases_eq c d) [
    | inl e ↦ eq-eqb _ _ (ap (number_at numbers) e) ∙ sym (eq-eqb c d e)
    | inr m ↦ ne_eqb _ _ (λ e. m (once c d g h e)) ∙ sym (ne_eqb c d m)
  ]

  -- the pieces are those of the mask's row
  pub pieces-are : ArePlaces x corners places → map (λ y. arranged places (map (number_at numbers) y)) (pieces_of mask) ≡ sub_all n cuts x
  pieces-are p =
      sym (map-map (map (number_at numbers)) (arranged places) (pieces_of mask))
      ∙ sym (sub_all-by_lookup n (number_at numbers) places mask cuts x are (record {
        rise = rise;
        injective = injective;
        places_are = places-are x corners places is four rises p;
        corners = sym p.there ∙ ap (arranged places) (sym l.corners_are);
        edges = l.edges;
      }))
    where
      map-map : {X Y Z : Type 0} (g : X → Y) (h : Y → Z) (xs : List X) → map h (map g xs) ≡ map (λ x. h (g x)) xs
      map-map g h [] = refl
      map-map g h (x ∷ xs) = ap (λ ys. h (g x) ∷ ys) (map-map g h xs)
