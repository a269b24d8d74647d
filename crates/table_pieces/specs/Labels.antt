-- The labels of a table's row for a tetrahedron: its corners by rank, and the new points of the cuts at its edges.
use Rattle.std.specs.Prelude.{◌≡◌, ℕ, ◌+◌, ◌<◌, Bool, true, false, ◌&&◌, nat_eq, if◌then◌else◌, List, [], ◌∷◌, map, get_or, Option, None, Some, is_some}
use Rattle.std.specs.List.{filter, AllByRecursion, AllWithin}
use Rattle.std.specs.List.Sorted.{IsPartitionPoint}
use Rattle.grid.specs.Meshes.{is_below}
use Rattle.mesh_types.specs.declared.cut.Cut.{Cut}
use Rattle.mesh_types.specs.CutLists.{ends_of}
use Rattle.cut_tables.specs.Cutting.{RankEdge, all_edges, has_label}

-- the edges of the cuts, whose new points are numbered from k on
abbrev pub numbered : ℕ → List Cut → List RankEdge
numbered k [] = []
numbered k (e ∷ es) = record { first = e.u; second = e.v; label = k } ∷ numbered (k + 1) es

-- the cut comes before one from u to v
abbrev pub is_before : ℕ → ℕ → Cut → Bool
is_before u v e = is_below (ends_of e) (u ∷ v ∷ [])

-- the cuts at the first places come before one from u to v
abbrev pub AreBefore : ℕ → ℕ → List Cut → ℕ → Type 0
AreBefore u v es i = AllWithin (λ e. is_before u v e ≡ true) es 0 i

-- the place of the first cut that does not come before one from u to v
abbrev pub IsPlace : ℕ → ℕ → List Cut → ℕ → Type 0
IsPlace u v es i = IsPartitionPoint (λ e. is_before u v e ≡ true) (λ e. is_before u v e ≡ false) es i

-- the edge joins u and v, in this order
abbrev pub joins : ℕ → ℕ → RankEdge → Bool
joins u v e = nat_eq e.first u && nat_eq e.second v

-- the edge that joins u and v at this new point, if there is one
abbrev pub edge_at : ℕ → ℕ → Option ℕ → List RankEdge
edge_at u v None = []
edge_at u v (Some k) = record { first = u; second = v; label = k } ∷ []

-- the number of a new point, and 0 where there is none
abbrev pub number_or_none : Option ℕ → ℕ
number_or_none None = 0
number_or_none (Some k) = k

-- the weight of an edge that has a new point
abbrev pub bit : ℕ → Option ℕ → ℕ
bit weight point = if is_some point then weight else 0

-- the mask of the edges that have new points
abbrev pub mask_of : Option ℕ → Option ℕ → Option ℕ → Option ℕ → Option ℕ → Option ℕ → ℕ
mask_of a b c d e f = bit 1 a + bit 2 b + bit 4 c + bit 8 d + bit 16 e + bit 32 f

-- the number of a label
abbrev pub number_at : List ℕ → ℕ → ℕ
number_at numbers c = get_or numbers c 0

-- an edge whose ends and new point have other names
abbrev pub renamed : (ℕ → ℕ) → RankEdge → RankEdge
renamed f e = record { first = f e.first; second = f e.second; label = f e.label }

-- the list has just this edge where the mask has its label, and else none with its ends
abbrev pub IsLookedUp : (ℕ → ℕ) → ℕ → List RankEdge → RankEdge → Type 0
IsLookedUp f mask es e = filter (joins (f e.first) (f e.second)) es ≡ (if has_label mask e.label then renamed f e ∷ [] else [])

-- the numbers of the labels of a mask, which has the edges between these corners that are cut
pub record AreLabels (first : ℕ) (cuts : List Cut) (corners numbers : List ℕ) (mask : ℕ) : Type 0 where
  pub corners_are : map (number_at numbers) (0 ∷ 1 ∷ 2 ∷ 3 ∷ []) ≡ corners
  pub edges : AllByRecursion (IsLookedUp (number_at numbers) mask (numbered first cuts)) all_edges

-- the members of x in other places: at each place of the list, the member from that place of x
abbrev pub arranged : List ℕ → List ℕ → List ℕ
arranged places x = map (λ p. get_or x p 0) places

-- the places in a list at which the members of x stand
pub record ArePlaces (x corners places : List ℕ) : Type 0 where
  pub in_range : AllByRecursion (λ p. p < 4) places
  pub there : arranged places corners ≡ x
