-- Meshes where everything is outside.
use Rattle.std.specs.Prelude.{◌≡◌, ℕ, List, []}
use Rattle.std.specs.List.{Contains}
use Rattle.grid.specs.Meshes.{Mesh, IsWellFormed, Tiles}
use Rattle.grid.specs.Regions.{IsOutside}

-- in a mesh that tiles and tracks no face, every tetrahedron is outside
abbrev pub AllOutsideLaw : Type 0
AllOutsideLaw = (m : Mesh) (l : ℕ) → IsWellFormed m → Tiles m l → m.tracked ≡ [] → (x : List ℕ) → Contains m.tets x → IsOutside m.tets m.tracked x
