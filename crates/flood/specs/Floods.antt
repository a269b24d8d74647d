-- Reaching tetrahedra from facet to facet.
use Rattle.std.specs.Prelude.{◌≡◌, ◌⊎◌, ℕ, ◌+◌, ◌*◌, ◌/◌, ◌^◌, ◌<◌, ◌≤◌, Bool, true, false, not, List, length, slice_index_or, count_by}
use Rattle.flood.specs.HalfFaces.{facet_at}
use Rattle.flood.specs.Chains.{IsChained}
use Rattle.flood.specs.declared.facets.Chains.{Chains}

-- tetrahedron i has a half-face on the facet c
pub record IsOn (facet_of : List ℕ) (c i : ℕ) : Type 0 where
  pub half_face : ℕ
  pub there : half_face < length facet_of
  pub facet_is : facet_at facet_of half_face ≡ c
  pub tet_is : half_face / 4 ≡ i

-- tetrahedra that are reached, through open facets, from those at which it starts
pub data IsReachable (facet_of : List ℕ) (is_open : List Bool) (StartsAt : ℕ → Type 0) : ℕ → Type 0 where
  starts : (i : ℕ) → StartsAt i → IsReachable facet_of is_open StartsAt i
  goes_on : (i j c : ℕ) → IsReachable facet_of is_open StartsAt i → IsOn facet_of c i → IsOn facet_of c j → slice_index_or is_open c false ≡ true → IsReachable facet_of is_open StartsAt j

-- whether tetrahedron i is marked
abbrev pub is_marked : List Bool → ℕ → Bool
is_marked marks i = slice_index_or marks i false

-- tetrahedron i has a half-face on a facet that is not paired
pub record IsLoose (facet_of : List ℕ) (is_paired : List Bool) (i : ℕ) : Type 0 where
  pub facet : ℕ
  pub unpaired : slice_index_or is_paired facet false ≡ false
  pub on : IsOn facet_of facet i

-- tetrahedron i has a half-face on the facet c, which waits
pub record CanPass (facet_of : List ℕ) (waiting : List Bool) (c i : ℕ) : Type 0 where
  pub waits : slice_index_or waiting c false ≡ true
  pub on : IsOn facet_of c i

-- tetrahedra t and i have half-faces on a facet that waits
pub record IsBehind (facet_of : List ℕ) (waiting : List Bool) (t i : ℕ) : Type 0 where
  pub facet : ℕ
  pub beside : IsOn facet_of facet t
  pub passes : CanPass facet_of waiting facet i

-- the marks are exactly those of the reachable tetrahedra
pub record AreReachable (facet_of : List ℕ) (is_open : List Bool) (StartsAt : ℕ → Type 0) (marks : List Bool) : Type 0 where
  pub sound : (i : ℕ) → is_marked marks i ≡ true → IsReachable facet_of is_open StartsAt i
  pub complete : (i : ℕ) → IsReachable facet_of is_open StartsAt i → is_marked marks i ≡ true

-- `order` lists the marked tetrahedra, each once
pub record IsListed (marks : List Bool) (order : List ℕ) : Type 0 where
  pub in_range : (k : ℕ) → k < length order → slice_index_or order k 0 < length marks
  pub marked : (k : ℕ) → k < length order → is_marked marks (slice_index_or order k 0) ≡ true
  pub listed : (i : ℕ) → is_marked marks i ≡ true → (k : ℕ) × (k < length order) × (slice_index_or order k 0 ≡ i)
  pub each_once : length order + count_by not marks ≡ length marks

-- how far a flood has come: the facet of each half-face, whether each facet waits, a mark for each tetrahedron that
-- was reached, and their numbers in the order reached
pub record State : Type 0 where
  pub facet_of : List ℕ
  pub waiting : List Bool
  pub marks : List Bool
  pub order : List ℕ

-- the chains are those of the tetrahedra with a mark, each facet waits or does not, and the order lists the marked ones
pub record IsFlood (chains : Chains) (waiting marks : List Bool) (order : List ℕ) : Type 0 where
  pub chained : IsChained chains
  pub one_each : length waiting ≡ length chains.last.items
  pub four_each : length chains.of.items ≡ 4 * length marks
  pub few : length marks ≤ 2 ^ 24
  pub listed : IsListed marks order

-- more marks, all of tetrahedra that may be reached, and their numbers behind the others
pub record Reaches (MayReach : ℕ → Type 0) (old new : State) : Type 0 where
  pub same_facets : new.facet_of ≡ old.facet_of
  pub one_each : length new.marks ≡ length old.marks
  pub kept : (i : ℕ) → is_marked old.marks i ≡ true → is_marked new.marks i ≡ true
  pub new_ones : (i : ℕ) → is_marked new.marks i ≡ true → (is_marked old.marks i ≡ true) ⊎ MayReach i
  pub longer : length old.order ≤ length new.order
  pub front : (k : ℕ) → k < length old.order → slice_index_or new.order k 0 ≡ slice_index_or old.order k 0

-- each tetrahedron with a half-face on the facet c is marked
abbrev pub IsFilled : List ℕ → List Bool → ℕ → Type 0
IsFilled facet_of marks c = (i : ℕ) → IsOn facet_of c i → is_marked marks i ≡ true

-- fewer facets wait, and those that no longer do are filled
pub record FillsFacets (old new : State) : Type 0 where
  pub one_each : length new.waiting ≡ length old.waiting
  pub fewer : (c : ℕ) → slice_index_or new.waiting c false ≡ true → slice_index_or old.waiting c false ≡ true
  pub filled : (c : ℕ) → slice_index_or old.waiting c false ≡ true → slice_index_or new.waiting c false ≡ false → IsFilled old.facet_of new.marks c
