-- The mesh after some of the phases.
use Rattle.std.specs.Prelude.{ℕ, zero, suc}
use Rattle.grid.specs.declared.shapes.Tri.{Tri}
use Rattle.grid.specs.Meshes.{Mesh}
use Rattle.mesh_types.specs.Phases.{phase}

-- the mesh after the first i phases
abbrev pub until : Mesh → Tri → ℕ → Mesh
until m t zero = m
until m t (suc i) = phase (until m t i) t i
