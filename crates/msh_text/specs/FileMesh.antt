-- What the file of a mesh holds.
use Rattle.std.specs.Prelude.{ℕ, ◌+◌, ℤ, pos, ◌+ℤ◌, ◌<◌, ◌==◌, Bool, List, [], ◌∷◌, map, filter, slice_index_or, if◌then◌else◌, All}
use Rattle.std.specs.List.{enumerate_from, list_any, zip}
use Rattle.grid.specs.declared.shapes.Point.{Point}
use Rattle.grid.specs.declared.shapes.Face.{Face}
use Rattle.grid.specs.Simplices.{has}
use Rattle.grid.specs.Meshes.{Mesh}
use Rattle.msh_text.specs.declared.file_mesh.MshNode.{MshNode}
use Rattle.msh_text.specs.declared.file_mesh.MshTet.{MshTet}
use Rattle.msh_text.specs.declared.file_mesh.MshMesh.{MshMesh}

-- each corner is the number of one of n points
abbrev pub AreInRange : ℕ → List (List ℕ) → Type 0
AreInRange n xs = All (λ x. All (λ c. c < n) x) xs

-- the numbers that the file gives to points: one more
abbrev pub file_numbers : List ℕ → List ℕ
file_numbers corners = map (λ c. c + 1) corners

-- a tetrahedron has the point
abbrev pub is_used : List (List ℕ) → ℕ → Bool
is_used tets u = list_any (λ x. has x u) tets

-- the coordinates of a point plus the shift
abbrev pub shifted : List ℤ → Point → List ℤ
shifted shift p = (p.x +ℤ slice_index_or shift 0 (pos 0)) ∷ (p.y +ℤ slice_index_or shift 1 (pos 0)) ∷ (p.z +ℤ slice_index_or shift 2 (pos 0)) ∷ []

-- the node of a point with its number
abbrev pub node_of : List ℤ → ℕ × Point → MshNode
node_of shift p = record { number = p.0 + 1; at = shifted shift p.1 }

-- the nodes of the points that some tetrahedron has, in rising order
abbrev pub msh_nodes : Mesh → List ℤ → List MshNode
msh_nodes m shift = map (node_of shift) (filter (λ p. is_used m.tets p.0) (enumerate_from 0 m.points))

-- a tetrahedron with tag 2 where it is outside and 1 where it is kept
abbrev pub tet_of : List ℕ × Bool → MshTet
tet_of x = record { corners = file_numbers x.0; tag = if x.1 then 2 else 1 }

-- the tetrahedra in list order
abbrev pub msh_tets : Mesh → List Bool → List MshTet
msh_tets m outside = map tet_of (zip m.tets outside)

-- a tracked face
abbrev pub face_of : List ℕ → Face
face_of f = record { 0 = file_numbers f }

-- the tracked faces in order
abbrev pub msh_tracked : Mesh → List Face
msh_tracked m = map face_of m.tracked

-- what the file holds of a mesh, for the tetrahedra that are outside, the shift of the box and the digits behind the point
unfoldable pub msh_of : Mesh → List Bool → List ℤ → ℕ → MshMesh
msh_of m outside shift d = record { digits = d; nodes = msh_nodes m shift; tets = msh_tets m outside; tracked = msh_tracked m }

-- ---- the kept part
-- the tetrahedra of tag 1
abbrev pub kept_tets : List MshTet → List MshTet
kept_tets tets = filter (λ t. t.tag == 1) tets

-- the nodes that some tetrahedron has
abbrev pub nodes_of : List MshTet → List MshNode → List MshNode
nodes_of tets nodes = filter (λ node. is_used (map (λ t. t.corners) tets) node.number) nodes

-- the kept tetrahedra and the nodes that they have, without faces
abbrev pub kept_part : MshMesh → MshMesh
kept_part m = record { digits = m.digits; nodes = nodes_of (kept_tets m.tets) m.nodes; tets = kept_tets m.tets; tracked = [] }
