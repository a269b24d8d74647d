-- Half-faces: the oriented faces of a list of tetrahedra, four to each, and the facets that they lie on.
use Rattle.std.specs.Prelude.{◌≡◌, ◌≢◌, ℕ, ◌/◌, ◌%◌, ◌<◌, Bool, true, false, Option, Some, None, List, [], length, slice_index_or, slice_set, AllPairs}
use Rattle.grid.specs.declared.shapes.Face.{Face}
use Rattle.grid.specs.Simplices.{faces, is_rotation, reversed, rising}

-- the tetrahedron of half-face h
abbrev pub tet_of : List (List ℕ) → ℕ → List ℕ
tet_of tets h = slice_index_or tets (h / 4) []

-- the corners of half-face h
abbrev pub half_face : List (List ℕ) → ℕ → List ℕ
half_face tets h = slice_index_or (faces (tet_of tets h)) (h % 4) []

-- f is half-face h
pub record IsHalfFace (tets : List (List ℕ)) (h : ℕ) (f : List ℕ) : Type 0 where
  pub there : h % 4 < length (faces (tet_of tets h))
  pub is : f ≡ half_face tets h

-- the facet of half-face h
abbrev pub facet_at : List ℕ → ℕ → ℕ
facet_at facet_of h = slice_index_or facet_of h 0

-- the corners of facet c in rising order
abbrev pub triple_at : List Face → ℕ → List ℕ
triple_at triples c = (slice_index_or triples c (record { 0 = [] })).0

-- the first n half-faces are there, and those with the same corners lie on one facet
pub record AreFacets (tets : List (List ℕ)) (n : ℕ) (triples : List Face) (facet_of : List ℕ) : Type 0 where
  pub one_each : length facet_of ≡ n
  pub there : (h : ℕ) → h < n → h % 4 < length (faces (tet_of tets h))
  pub in_range : (h : ℕ) → h < n → facet_at facet_of h < length triples
  pub triple_is : (h : ℕ) → h < n → triple_at triples (facet_at facet_of h) ≡ rising (half_face tets h)
  pub apart : AllPairs (λ f g. f ≢ g) triples

-- a number below n, or none
abbrev pub IsBelow : ℕ → Option ℕ → Type 0
IsBelow n None = Unit {0}
IsBelow n (Some p) = p < n

-- with `false` at the place, if there is one
abbrev pub shut_at : Option ℕ → List Bool → List Bool
shut_at None is_open = is_open
shut_at (Some c) is_open = slice_set is_open c false

-- a triple stands among the first n
pub record IsAmong (triples : List (List ℕ)) (n : ℕ) (t : List ℕ) : Type 0 where
  pub place : ℕ
  pub there : place < n
  pub is : slice_index_or triples place [] ≡ t

-- whether each facet is not one of the first n tracked triples
pub record AreOpen (tracked : List (List ℕ)) (n : ℕ) (triples : List Face) (is_open : List Bool) : Type 0 where
  pub one_each : length is_open ≡ length triples
  pub shut : (c : ℕ) → c < length triples → slice_index_or is_open c false ≡ false → IsAmong tracked n (triple_at triples c)
  pub opened : (c : ℕ) → slice_index_or is_open c false ≡ true → IsAmong tracked n (triple_at triples c) → ⊥

-- whether half-face h is a rotation of the reverse of half-face g, if there is one
abbrev pub is_mate : List (List ℕ) → ℕ → Option ℕ → Bool
is_mate tets h None = false
is_mate tets h (Some g) = is_rotation (half_face tets h) (reversed (half_face tets g))

-- some half-face below n on the facet c is the reverse of half-face g
pub record HasMate (tets : List (List ℕ)) (facet_of : List ℕ) (n c : ℕ) (g : Option ℕ) : Type 0 where
  pub mate : ℕ
  pub there : mate < n
  pub facet_is : facet_at facet_of mate ≡ c
  pub reverse : is_mate tets mate g ≡ true

-- whether one of the first n half-faces is the reverse of the given one on its facet
pub record ArePaired (tets : List (List ℕ)) (facet_of : List ℕ) (n : ℕ) (given : List (Option ℕ)) (is_paired : List Bool) : Type 0 where
  pub one_each : length is_paired ≡ length given
  pub paired : (c : ℕ) → slice_index_or is_paired c false ≡ true → HasMate tets facet_of n c (slice_index_or given c None)
  pub unpaired : (h : ℕ) → h < n → slice_index_or is_paired (facet_at facet_of h) false ≡ false → is_mate tets h (slice_index_or given (facet_at facet_of h) None) ≡ false
