-- The mesh after the four phases, and what is found of it.
use Rattle.std.specs.Prelude.{◌≡◌, ℕ, List, All, Option, MatchOption}
use Rattle.grid.specs.declared.shapes.Tri.{Tri}
use Rattle.grid.specs.Boxes.{IsInBox, IsTriInBox}
use Rattle.grid.specs.Meshes.{Mesh, IsWellFormed, IsWithinLimits}
use Rattle.grid.specs.Planes.{IsDegenerate}
use Rattle.grid.specs.Limits.{largest_side}
use Rattle.mesh_types.specs.declared.lists.Lists.{Lists}
use Rattle.mesh_types.specs.declared.outcome.Defect.{Defect}
use Rattle.mesh_types.specs.Insertion.{Has, IsFirstDefect}
use Rattle.mesh_types.specs.Phases.{cut_by}
use Rattle.mesh_types.specs.Views.{mesh_of}

-- n is m after the four phases, and within limits
pub record IsCutMesh (m : Mesh) (t : Tri) (n : Lists) : Type 0 where
  pub mesh : mesh_of n ≡ cut_by m t
  pub within : IsWithinLimits (mesh_of n)
  pub in_box : All (IsInBox largest_side) n.points

-- n is a well-formed mesh within limits after the four phases of a triangle that is not degenerate
pub record IsCutFrom (m : Mesh) (t : Tri) (n : Lists) : Type 0 where
  pub before : IsWellFormed m
  pub cut : IsCutMesh m t n
  pub some_area : ¬ IsDegenerate t
  pub tri_in : IsTriInBox largest_side t

-- the first defect of the mesh n, cut from m, or that there is none
abbrev pub IsJudged : List Tri → (t e : ℕ) → (m n : Mesh) → Option Defect → Type 0
IsJudged triangles t e m n found = MatchOption found ((d : Defect) → ¬ Has triangles t e m n d) (IsFirstDefect triangles t e m n)
