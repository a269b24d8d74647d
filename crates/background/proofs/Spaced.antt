-- The lattice by the side of its cubes.
use Rattle.std.proofs.Common.{ℕ, ◌*◌, ◌^◌, []}
use Rattle.grid.specs.Meshes.{Mesh}
use Rattle.mesh_types.specs.Lattice.{lattice_points, lattice_tets}

-- n cubes of side h along each axis
abbrev pub spaced : ℕ → ℕ → Mesh
spaced h n = record { points = lattice_points h n; tets = lattice_tets n; tracked = []; made = 6 * n ^ 3 }
