-- Lists of the half-faces on each facet, from the last one back.
use Rattle.std.specs.Prelude.{◌≡◌, ◌≢◌, ℕ, ◌<◌, Option, Some, None, List, length, slice_index_or}
use Rattle.flood.specs.HalfFaces.{facet_at}
use Rattle.flood.specs.declared.facets.Chains.{Chains}

-- p is the greatest half-face below n on the facet c
pub record IsGreatest (facet_of : List ℕ) (c n p : ℕ) : Type 0 where
  pub below : p < n
  pub on : facet_at facet_of p ≡ c
  pub last : (q : ℕ) → p < q → q < n → facet_at facet_of q ≢ c

-- the last half-face below n on the facet c, or none
abbrev pub IsLast : List ℕ → ℕ → ℕ → Option ℕ → Type 0
IsLast facet_of c n None = (q : ℕ) → q < n → facet_at facet_of q ≢ c
IsLast facet_of c n (Some p) = IsGreatest facet_of c n p

-- for the first n half-faces, the last one on each facet and the one before each on its facet
pub record AreChains (facets : ℕ) (facet_of : List ℕ) (n : ℕ) (last before : List (Option ℕ)) : Type 0 where
  pub one_last : length last ≡ facets
  pub one_before : length before ≡ n
  pub in_range : (h : ℕ) → h < n → facet_at facet_of h < facets
  pub last_is : (c : ℕ) → c < facets → IsLast facet_of c n (slice_index_or last c None)
  pub before_is : (h : ℕ) → h < n → IsLast facet_of (facet_at facet_of h) h (slice_index_or before h None)

-- the chains of all half-faces
abbrev pub IsChained : Chains → Type 0
IsChained c = AreChains (length c.last.items) c.of.items (length c.of.items) c.last.items c.before.items
