-- Regions: which tetrahedra are outside.
use Rattle.std.specs.Prelude.{◌≡◌, ◌↔◌, ℕ, ◌<◌, Bool, true, List, [], length, slice_index_or, IsTrue}
use Rattle.std.specs.List.{Contains}
use Rattle.grid.specs.Simplices.{faces, count, is_rotation, reversed, rising}

-- x has a face whose reverse does not occur
pub record HasLooseFace (tets : List (List ℕ)) (x : List ℕ) : Type 0 where
  pub face : List ℕ
  pub of_x : Contains (faces x) face
  pub loose : count (reversed face) tets ≡ 0

-- y has the reverse of a face of x that is not tracked
pub record IsOpenTo (tracked : List (List ℕ)) (x y : List ℕ) : Type 0 where
  pub face : List ℕ
  pub mate : List ℕ
  pub of_x : Contains (faces x) face
  pub of_y : Contains (faces y) mate
  pub reverse : is_rotation (reversed face) mate ≡ true
  pub untracked : Contains tracked (rising face) → ⊥

-- x can be reached, through faces that are not tracked, from a tetrahedron with a loose face
pub data IsOutside (tets tracked : List (List ℕ)) : List ℕ → Type 0 where
  starts : (x : List ℕ) → Contains tets x → HasLooseFace tets x → IsOutside tets tracked x
  goes_on : (x y : List ℕ) → IsOutside tets tracked x → Contains tets y → IsOpenTo tracked x y → IsOutside tets tracked y

-- one answer per tetrahedron, in list order: whether it is outside
pub record AreRegions (tets tracked : List (List ℕ)) (outside : List Bool) : Type 0 where
  pub one_each : length outside ≡ length tets
  pub each : (i : ℕ) → i < length tets → IsTrue (slice_index_or outside i true) ↔ IsOutside tets tracked (slice_index_or tets i [])
