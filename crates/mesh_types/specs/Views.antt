-- Meshes of the code as meshes of the definitions.
pub use Rattle.grid.specs.Views.{corners_of, triples_of}
use Rattle.grid.specs.Meshes.{Mesh}
use Rattle.mesh_types.specs.declared.lists.Lists.{Lists}

-- the mesh of its lists
abbrev pub mesh_of : Lists → Mesh
mesh_of m = record { points = m.points; tets = corners_of m.tets; tracked = triples_of m.tracked; made = m.made }
