-- Triangles inserted in turn into a mesh.
use Rattle.std.specs.Prelude.{◌≡◌, ℕ, List, ◌++◌, map, All}
use Rattle.grid.specs.declared.shapes.Tri.{Tri}
use Rattle.grid.specs.Meshes.{Mesh, Tiles}
use Rattle.mesh_types.specs.declared.outcome.Again.{Again}
use Rattle.mesh_types.specs.declared.outcome.Outcome.{Outcome}
use Rattle.mesh_types.specs.Journals.{AllPositive}
use Rattle.mesh_types.specs.Turns.{AreInserted}
use Rattle.insertion.specs.Bare.{IsCovered}

-- the triangles that are named, and what became of them
abbrev pub triangles_of : List Again → List ℕ
triangles_of again = map (λ a. a.triangle) again

abbrev pub outcomes_of : List Again → List Outcome
outcomes_of again = map (λ a. a.outcome) again

-- the triangles of these numbers were inserted in turn, which kept what the mesh had
pub record AreTurns (triangles : List Tri) (e : ℕ) (numbers : List ℕ) (start : Mesh) (outcomes : List Outcome) (m : Mesh) : Type 0 where
  pub inserted : AreInserted triangles e numbers start outcomes m
  pub positive : AllPositive start → AllPositive m
  pub tiles : (length_of : ℕ) → Tiles start length_of → Tiles m length_of
  pub covered : All (IsCovered triangles e start.points) start.tracked → All (IsCovered triangles e m.points) m.tracked

-- the first triangles of these numbers were inserted in turn
pub record AreSomeTurns (triangles : List Tri) (e : ℕ) (numbers : List ℕ) (start m : Mesh) : Type 0 where
  pub some : List ℕ
  pub others : List ℕ
  pub first : numbers ≡ some ++ others
  pub outcomes : List Outcome
  pub turns : AreTurns triangles e some start outcomes m
