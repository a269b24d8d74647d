-- The plain facts of a mesh that keeps the rules of its text.
use Rattle.std.specs.Prelude.{◌≡◌, ℕ, ◌+◌, ◌*◌, ◌^◌, ◌≤◌, true, List, length, map, All}
use Rattle.grid.specs.declared.shapes.Face.{Face}
use Rattle.grid.specs.Simplices.{Rises}
use Rattle.grid.specs.Meshes.{Ordered}
use Rattle.grid.specs.Limits.{most_points}
use Rattle.lines.specs.Fields.{Between, Within}
use Rattle.msh_text.specs.declared.file_mesh.MshNode.{MshNode}
use Rattle.msh_text.specs.declared.file_mesh.MshTet.{MshTet}
use Rattle.msh_text.specs.declared.file_mesh.MshMesh.{MshMesh}
use Rattle.msh_text.specs.Rules.{is_node, MshRules}

-- a node: its number is from 1 to 2^20, and none of its three coordinates is above 2 * 10^9 in absolute value
pub record IsFileNode (node : MshNode) : Type 0 where
  pub in_range : Between 1 most_points node.number
  pub three : length node.at ≡ 3
  pub near : All (Within (2 * 10 ^ 9)) node.at

-- each is the number of a node
abbrev pub AreNodes : List MshNode → List ℕ → Type 0
AreNodes nodes corners = All (λ c. is_node nodes c ≡ true) corners

-- a tetrahedron: tag 1 or 2, and four nodes
pub record IsFileTet (nodes : List MshNode) (tet : MshTet) : Type 0 where
  pub tagged : Between 1 2 tet.tag
  pub four : length tet.corners ≡ 4
  pub are_nodes : AreNodes nodes tet.corners

-- a triangle: three nodes that rise
pub record IsFileFace (nodes : List MshNode) (face : Face) : Type 0 where
  pub three : length face.0 ≡ 3
  pub rises : Rises face.0
  pub are_nodes : AreNodes nodes face.0

-- a mesh as it stands in a file with d digits behind the point: the numbers of its nodes rise, and its triangles stand in strictly rising order
pub record IsFileMesh (d : ℕ) (m : MshMesh) : Type 0 where
  pub digits_are : m.digits ≡ d
  pub nodes_few : length m.nodes ≤ most_points
  pub elements_few : length m.tets + length m.tracked ≤ 2 ^ 24
  pub nodes_are : All IsFileNode m.nodes
  pub numbers_rise : Rises (map (λ node. node.number) m.nodes)
  pub tets_are : All (IsFileTet m.nodes) m.tets
  pub faces_are : All (IsFileFace m.nodes) m.tracked
  pub faces_rise : Ordered (map (λ face. face.0) m.tracked)

-- a mesh with the plain facts keeps the rules
abbrev pub PlainLaw : Type 0
PlainLaw = (d : ℕ) (m : MshMesh) → IsFileMesh d m → MshRules d m
