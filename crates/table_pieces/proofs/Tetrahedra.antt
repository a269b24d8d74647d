-- The pieces of a tetrahedron, wherever its corners stand and whatever their numbers, are those of its mask.
use Rattle.std.proofs.Common.{◌≡◌, ℕ, true, nat_eq, List, [], ◌∷◌, map, refl, ap, ◌∙◌}
use Rattle.std.specs.List.{filter, AllByRecursion as Each}
use Rattle.std.proofs.lemmas.Bool.{or_left, or_right, eq-eqb}
use Rattle.grid.specs.Simplices.{has}
use Rattle.cut_tables.specs.Cutting.{RankEdge, all_edges, edges_of, has_label, labels_of, pieces_of, split_in_turn}
use Rattle.grid.proofs.ForCallers.{Each-weaker}
use Rattle.mesh_types.proofs.ForCallers.{Each-filter}
use Rattle.table_pieces.specs.Labels.{arranged, renamed}
use Rattle.table_pieces.proofs.Renaming.{IsInjectiveOn, HasNames, split-renamed}
use Rattle.table_pieces.proofs.Places.{IsArrangement, split-arranged}
use Rattle.table_pieces.proofs.Untouched.{IsNumbered, has_edge, split-touched}

abbrev pub ranks : List ℕ
ranks = 0 ∷ 1 ∷ 2 ∷ 3 ∷ []

-- ---- the labels of a mask
abbrev pub IsLabel : ℕ → ℕ → Type 0
IsLabel mask c = has (labels_of mask) c ≡ true

label_there : (es : List RankEdge) → Each (λ e. has (map (λ d. d.label) es) e.label ≡ true) es
label_there [] = tt
label_there (e ∷ es) = (
  or_left _ _ (eq-eqb e.label e.label refl),
  Each-weaker (λ d. has (map (λ c. c.label) es) d.label ≡ true) (λ d. has (map (λ c. c.label) (e ∷ es)) d.label ≡ true) (λ d h. or_right _ _ h) es (label_there es),
)

-- the ends of an edge are ranks
pub record AreRanks (e : RankEdge) : Type 0 where
  pub first : (mask : ℕ) → IsLabel mask e.first
  pub second : (mask : ℕ) → IsLabel mask e.second

all_ranks : Each AreRanks all_edges
all_ranks = (
  record { first = λ m. refl; second = λ m. refl },
  (
    record { first = λ m. refl; second = λ m. refl },
    (
      record { first = λ m. refl; second = λ m. refl },
      (
        record { first = λ m. refl; second = λ m. refl },
        (
          record { first = λ m. refl; second = λ m. refl },
          (record { first = λ m. refl; second = λ m. refl }, tt),
        ),
      ),
    ),
  ),
)

edges-names : (mask : ℕ) (es : List RankEdge) → Each AreRanks es → Each (λ e. has (map (λ d. d.label) (edges_of mask)) e.label ≡ true) es → Each (HasNames (IsLabel mask)) es
edges-names mask [] r l = tt
edges-names mask (e ∷ es) r l = (
  record { first = r.0.first mask; second = r.0.second mask; label = or_right (nat_eq 0 e.label) _ (or_right (nat_eq 1 e.label) _ (or_right (nat_eq 2 e.label) _ (or_right (nat_eq 3 e.label) _ l.0))) },
  edges-names mask es r.1 l.1,
)

-- ---- a tetrahedron by its ranks
-- x has the numbers that f gives to the ranks, in these places, and f gives the mask's edges those of the list that x has, in order
pub record IsRanked (f : ℕ → ℕ) (places : List ℕ) (mask : ℕ) (es : List RankEdge) (x : List ℕ) : Type 0 where
  pub injective : IsInjectiveOn (IsLabel mask) f
  pub places_are : IsArrangement 4 places
  pub corners : x ≡ arranged places (map f ranks)
  pub edges : filter (has_edge x) es ≡ map (renamed f) (edges_of mask)

-- the pieces are those of the mask, with the numbers for the labels, in the tetrahedron's places
pub pieces-of_mask : (n : ℕ) (f : ℕ → ℕ) (places : List ℕ) (mask : ℕ) (es : List RankEdge) (x : List ℕ) → Each (IsNumbered n) es → IsRanked f places mask es x
    → split_in_turn es x ≡ map (arranged places) (map (map f) (pieces_of mask))
pieces-of_mask n f places mask es x num r =
    let names = edges-names mask (edges_of mask) (Each-filter AreRanks (λ e. has_label mask e.label) all_edges all_ranks) (label_there (edges_of mask)) in
    split-touched n x es num x (λ c lt h. h)
    ∙ (ap (λ ds. split_in_turn ds x) r.edges
    ∙ (ap (split_in_turn (map (renamed f) (edges_of mask))) r.corners
    ∙ (split-arranged 4 places r.places_are (map (renamed f) (edges_of mask)) (map f ranks) refl
    ∙ ap (map (arranged places)) (split-renamed (IsLabel mask) f r.injective (edges_of mask) names ranks (refl, (refl, (refl, (refl, tt))))))))
