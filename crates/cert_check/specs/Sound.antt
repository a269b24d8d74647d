-- What holds of a mesh file and its report where no fault is there.
use Rattle.std.specs.Prelude.{◌≡◌, ℕ, ◌<◌, length, All}
use Rattle.grid.specs.Boxes.{IsInBox}
use Rattle.grid.specs.Determinants.{point_at}
use Rattle.grid.specs.Meshes.{Tiles}
use Rattle.cert_check.specs.FileMesh.{node_at, node_point}
use Rattle.cert_check.specs.Faults.{Case, IsHeader, IsCovered, IsTagOf, AreLines, mesh_in, side_of}

-- point n of the mesh is the node of number n
abbrev pub ArePointsOfNodes : Case → Type 0
ArePointsOfNodes c =
    (i : ℕ) → i < length c.mesh.nodes → point_at (mesh_in c).points (node_at c.mesh.nodes i).number ≡ node_point c.soup.shift (node_at c.mesh.nodes i)

-- the nodes lie in the box, the tetrahedra tile it, each tracked triangle is covered, the tags are the regions, and there is a line for each triangle
pub record IsSound (c : Case) : Type 0 where
  pub header : IsHeader c.soup c.report c.digits
  pub nodes : All (λ node. IsInBox (side_of c) (node_point c.soup.shift node)) c.mesh.nodes
  pub tiles : Tiles (mesh_in c) (side_of c)
  pub one_covering_each : length c.report.faces ≡ length c.mesh.tracked
  pub covered : (i : ℕ) → i < length c.mesh.tracked → IsCovered c.soup.triangles c.report.epsilon (mesh_in c).points c.mesh.tracked c.report.faces i
  pub tags : All (IsTagOf (mesh_in c).tets (mesh_in c).tracked) c.mesh.tets
  pub lines : AreLines c.soup.triangles c.report
