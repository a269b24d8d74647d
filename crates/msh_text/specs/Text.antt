-- The text of a mesh file, in the ASCII form 2.2 of Gmsh. Each line ends with a line feed.
use Rattle.std.specs.Prelude.{ℕ, ◌+◌, ℤ, List, [], ◌∷◌, ◌++◌, length, codes, decimal}
use Rattle.std.specs.List.{enumerate_from, flat_map}
use Rattle.grid.specs.declared.shapes.Face.{Face}
use Rattle.lines.specs.Fields.{decimals}
use Rattle.lines.specs.Texts.{joined}
use Rattle.msh_text.specs.declared.file_mesh.MshNode.{MshNode}
use Rattle.msh_text.specs.declared.file_mesh.MshTet.{MshTet}
use Rattle.msh_text.specs.declared.file_mesh.MshMesh.{MshMesh}
use Rattle.msh_text.specs.FileMesh.{kept_part}

-- each number behind a space
abbrev pub spaced : List ℕ → List ℕ
spaced numbers = flat_map (λ n. codes " " ++ decimal n) numbers

-- each coordinate behind a space, with d digits behind the point
abbrev pub spaced_decimals : (d : ℕ) → List ℤ → List ℕ
spaced_decimals d numbers = flat_map (λ z. codes " " ++ decimals d z) numbers

-- a number on a line of its own
abbrev pub count_line : ℕ → List ℕ
count_line n = decimal n ++ codes "\n"

-- a node: its number and its coordinates
abbrev pub node_line : (d : ℕ) → MshNode → List ℕ
node_line d node = decimal node.number ++ spaced_decimals d node.at ++ codes "\n"

-- a tetrahedron with its element number: type 4 with two tags, which are equal, and its corners
abbrev pub tet_line : ℕ × MshTet → List ℕ
tet_line e = decimal e.0 ++ codes " 4 2" ++ spaced (e.1.tag ∷ e.1.tag ∷ e.1.corners) ++ codes "\n"

-- a tracked face with its element number: type 2 with two tags, which are 3, and its corners
abbrev pub face_line : ℕ × Face → List ℕ
face_line e = decimal e.0 ++ codes " 2 2 3 3" ++ spaced e.1.0 ++ codes "\n"

-- the lines in front of the number of nodes
abbrev pub head_lines : List (List ℕ)
head_lines =
    codes "$MeshFormat\n" ∷ codes "2.2 0 8\n" ∷ codes "$EndMeshFormat\n"
    ∷ codes "$PhysicalNames\n" ∷ codes "3\n" ∷ codes "2 3 \"tracked\"\n" ∷ codes "3 1 \"kept\"\n" ∷ codes "3 2 \"outside\"\n" ∷ codes "$EndPhysicalNames\n"
    ∷ codes "$Nodes\n" ∷ []

-- the same in the text of the kept part
abbrev pub kept_head_lines : List (List ℕ)
kept_head_lines =
    codes "$MeshFormat\n" ∷ codes "2.2 0 8\n" ∷ codes "$EndMeshFormat\n"
    ∷ codes "$PhysicalNames\n" ∷ codes "1\n" ∷ codes "3 1 \"kept\"\n" ∷ codes "$EndPhysicalNames\n"
    ∷ codes "$Nodes\n" ∷ []

-- the lines between the nodes and the number of elements
abbrev pub middle_lines : List (List ℕ)
middle_lines = codes "$EndNodes\n" ∷ codes "$Elements\n" ∷ []

-- these lines as one text
unfoldable pub head_text : List ℕ
head_text = joined head_lines

unfoldable pub kept_head_text : List ℕ
kept_head_text = joined kept_head_lines

unfoldable pub middle_text : List ℕ
middle_text = joined middle_lines

-- what stands behind the head; the elements are numbered from 1, the tetrahedra first
abbrev pub body_text : MshMesh → List ℕ
body_text m =
    count_line (length m.nodes) ++ flat_map (node_line m.digits) m.nodes
    ++ middle_text
    ++ count_line (length m.tets + length m.tracked)
    ++ flat_map tet_line (enumerate_from 1 m.tets)
    ++ flat_map face_line (enumerate_from (length m.tets + 1) m.tracked)
    ++ codes "$EndElements\n"

-- the whole text
unfoldable pub msh_text : MshMesh → List ℕ
msh_text m = head_text ++ body_text m

-- the text of the kept part
unfoldable pub kept_text : MshMesh → List ℕ
kept_text m = kept_head_text ++ body_text (kept_part m)
