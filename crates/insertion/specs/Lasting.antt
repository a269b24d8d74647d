-- What the first phase of an insertion makes, and what the later phases leave as it is.
use Rattle.std.specs.Prelude.{◌≡◌, ℕ, ◌≤◌, List, [], ◌++◌, map}
use Rattle.grid.specs.declared.shapes.Point.{Point}
use Rattle.grid.specs.declared.shapes.Tri.{Tri}
use Rattle.grid.specs.Determinants.{IsPositive}
use Rattle.grid.specs.Meshes.{Mesh, IsWithinLimits}
use Rattle.mesh_types.specs.declared.cut.Cut.{Cut}
use Rattle.mesh_types.specs.Insertion.{NamesFirst}
use Rattle.mesh_types.specs.Phases.{wanted_in, cut_by}

-- no phase after the first wants an edge of the tetrahedron
abbrev pub Lasts : List Point → Tri → List ℕ → Type 0
Lasts points t x = (i : ℕ) → 1 ≤ i → i ≤ 3 → wanted_in points t i x ≡ []

-- the tetrahedron is not positive, and no later phase cuts it
abbrev pub IsLastingFault : List Point → Tri → List ℕ → Type 0
IsLastingFault points t x = (¬ IsPositive points x) × Lasts points t x

-- the points, and then those of the cuts
abbrev pub points_with : List Point → List Cut → List Point
points_with points cuts = points ++ map (λ e. e.at) cuts

-- the insertion of the triangle into m ends with these corners as the first that are not positive
pub record EndsInverted (m : Mesh) (t : Tri) (named : List Point) : Type 0 where
  pub within : IsWithinLimits (cut_by m t)
  pub inverted : NamesFirst (cut_by m t).points (λ x. ¬ IsPositive (cut_by m t).points x) (cut_by m t).tets named
