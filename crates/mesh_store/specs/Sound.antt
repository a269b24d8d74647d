-- What always holds of a store's parts.
use Rattle.std.specs.Prelude.{◌≡◌, ◌≤◌, ℤ, pos, ◌≤ℤ◌, nat_abs, length, All}
use Rattle.std.specs.List.{IsDistinct}
use Rattle.std.specs.Map.{keys_of}
use Rattle.grid.specs.Boxes.{IsInBox}
use Rattle.grid.specs.Meshes.{IsTriple, IsWellFormed, IsWithinLimits}
use Rattle.grid.specs.Simplices.{IsTet}
use Rattle.grid.specs.Limits.{largest_side, most_points, most_made}
use Rattle.mesh_types.specs.declared.lists.Lists.{Lists}
use Rattle.mesh_types.specs.Views.{mesh_of}
use Rattle.mesh_store.specs.Parts.{Parts}
use Rattle.tracked.specs.Keys.{same_face}

-- the side of a box on the grid
pub record IsBox (side : ℤ) : Type 0 where
  pub low : pos 0 ≤ℤ side
  pub high : side ≤ℤ pos largest_side

-- within the limits, the points in the box, each slot four different points, each key a rising triple of points, and no key twice
pub record IsSoundStore (side : ℤ) (m : Parts) : Type 0 where
  pub box : IsBox side
  pub points_few : length m.points ≤ most_points
  pub slots_few : length m.slots ≤ most_made
  pub in_box : All (IsInBox (nat_abs side)) m.points
  pub tets_are : All (λ s. IsTet (length m.points) s.tet.0) m.slots
  pub triples_are : All (λ k. IsTriple (length m.points) k.0.0) m.keys
  pub distinct : IsDistinct same_face (keys_of m.keys)

-- a mesh to begin with: well formed, within the limits and in the box, and each of its tetrahedra was made once
pub record IsFirstMesh (side : ℤ) (m : Lists) : Type 0 where
  pub box : IsBox side
  pub in_box : All (IsInBox (nat_abs side)) m.points
  pub well_formed : IsWellFormed (mesh_of m)
  pub within : IsWithinLimits (mesh_of m)
  pub made : m.made ≡ length m.tets
