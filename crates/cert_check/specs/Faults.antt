-- The ten faults, what each carries, and the first of them.
use Rattle.std.specs.Prelude.{◌≡◌, ◌≢◌, ℕ, ◌+◌, ◌*◌, ◌^◌, ◌<◌, max, Option, None, Some, ℤ, pos, unsigned_abs, List, map, length, slice_index_or}
use Rattle.std.specs.List.{Contains, HoldsAt}
use Rattle.grid.specs.declared.shapes.Point.{Point}
use Rattle.grid.specs.declared.shapes.Tri.{Tri}
use Rattle.grid.specs.declared.shapes.Face.{Face}
use Rattle.grid.specs.Boxes.{IsInBox}
use Rattle.grid.specs.Determinants.{IsPositive, volume, point_at}
use Rattle.grid.specs.Simplices.{all_faces, rising}
use Rattle.grid.specs.Regions.{IsOutside}
use Rattle.grid.specs.Meshes.{Mesh}
use Rattle.mesh_types.specs.Certificates.{Covers, most_levels, triangle}
use Rattle.msh_text.specs.declared.file_mesh.MshNode.{MshNode}
use Rattle.msh_text.specs.declared.file_mesh.MshTet.{MshTet}
use Rattle.msh_text.specs.declared.file_mesh.MshMesh.{MshMesh}
use Rattle.soup.specs.declared.raw.Soup.{Soup}
use Rattle.face_table.specs.Pairing.{NoneTwice, IsFirstRepeat, IsFirstLoose}
use Rattle.report_text.specs.declared.report.Report.{Report}
use Rattle.report_text.specs.declared.report.Covering.{Covering}
use Rattle.report_text.specs.declared.report.Second.{Second}
use Rattle.mesh_types.specs.declared.outcome.Outcome.{Outcome}
use Rattle.mesh_types.specs.Turns.{rolled_back}
use Rattle.cert_check.specs.declared.fault.Fault.{Fault}
use Rattle.cert_check.specs.declared.fault.Fault.TheVariants as faults
use Rattle.cert_check.specs.declared.fault.Finding.{Finding}
use Rattle.cert_check.specs.declared.fault.Finding.TheVariants as findings
use Rattle.cert_check.specs.Firsts.{IsFirstFailing}
use Rattle.cert_check.specs.FileMesh.{file_mesh, node_point, node_at, tet_at, triangle_at}

-- what is judged: a mesh file and its report, for a placed soup and the digits behind the point that were asked for, or None
pub record Case : Type 0 where
  pub soup : Soup
  pub mesh : MshMesh
  pub report : Report
  pub digits : Option ℕ

-- the case of these
abbrev pub case_of : Soup → MshMesh → Report → Option ℕ → Case
case_of soup mesh report digits = record { soup = soup; mesh = mesh; report = report; digits = digits }

-- the side of the box
abbrev pub side_of : Case → ℕ
side_of c = unsigned_abs c.soup.side

-- the file's mesh in the box
abbrev pub mesh_in : Case → Mesh
mesh_in c = file_mesh c.soup.shift c.mesh

-- ---- what is to hold
-- the report's box and shift are the soup's, and its digits those asked for
pub record IsHeader (soup : Soup) (report : Report) (digits : Option ℕ) : Type 0 where
  pub side : report.side ≡ soup.side
  pub shift : report.shift ≡ soup.shift
  pub digits_are : report.digits ≡ digits

-- the node at a place lies in the box
abbrev pub IsNodeIn : (l : ℕ) (shift : List ℤ) → List MshNode → ℕ → Type 0
IsNodeIn l shift nodes i = IsInBox l (node_point shift (node_at nodes i))

-- the tetrahedron at a place is positive
abbrev pub IsTetPositive : List Point → List MshTet → ℕ → Type 0
IsTetPositive points tets i = IsPositive points (tet_at tets i).corners

-- the triangle at a place is a face of a tetrahedron
abbrev pub IsFace : (tets : List (List ℕ)) → List Face → ℕ → Type 0
IsFace tets tracked i = Contains (map rising (all_faces tets)) (triangle_at tracked i).0

-- the triangle of three corners in the box
abbrev pub tri_of : List Point → List ℕ → Tri
tri_of points f =
    triangle (point_at points (slice_index_or f 0 0)) (point_at points (slice_index_or f 1 0)) (point_at points (slice_index_or f 2 0))

-- the covering is of that face, and its certificate covers it
pub record IsCoveringOfFace (triangles : List Tri) (e : ℕ) (points : List Point) (face : Face) (covering : Covering) : Type 0 where
  pub same : covering.face ≡ face
  pub covers : Covers triangles e most_levels 0 (tri_of points face.0) covering.cert

-- at the place a triangle is tracked, and the report has its covering
pub record IsCovered (triangles : List Tri) (e : ℕ) (points : List Point) (tracked : List Face) (faces : List Covering) (i : ℕ) : Type 0 where
  pub in_mesh : i < length tracked
  pub in_report : i < length faces
  pub covering : HoldsAt (IsCoveringOfFace triangles e points (triangle_at tracked i)) faces i

-- the tag is 2 where the tetrahedron is outside, and 1 where it is kept
pub record IsTagOf (tets tracked : List (List ℕ)) (t : MshTet) : Type 0 where
  pub outside : IsOutside tets tracked t.corners → t.tag ≡ 2
  pub kept : ¬ IsOutside tets tracked t.corners → t.tag ≡ 1

-- the triangles of the second part, where there is one, are those that were rolled back, in rising order
abbrev pub AreRolledBack : List Outcome → Option Second → Type 0
AreRolledBack outcomes None = Unit {0}
AreRolledBack outcomes (Some second) = map (λ a. a.triangle) second.again ≡ rolled_back 0 outcomes

-- there is a line for each triangle, and in the second part one for each that was rolled back
pub record AreLines (triangles : List Tri) (report : Report) : Type 0 where
  pub one_each : length report.outcomes ≡ length triangles
  pub second : AreRolledBack report.outcomes report.second

-- ---- the faults
-- the fault is there, and this is what it carries
abbrev pub Holds : Case → Fault → Type 0
Holds c faults.Header = ¬ IsHeader c.soup c.report c.digits
Holds c (faults.NotInBox n) =
    IsFirstFailing (length c.mesh.nodes) (IsNodeIn (side_of c) c.soup.shift c.mesh.nodes) (λ i. (node_at c.mesh.nodes i).number) n
Holds c (faults.NotPositive n) = IsFirstFailing (length c.mesh.tets) (IsTetPositive (mesh_in c).points c.mesh.tets) (λ i. i + 1) n
Holds c (faults.Twice f) = IsFirstRepeat (all_faces (mesh_in c).tets) f.0
Holds c (faults.Loose f) =
    NoneTwice (all_faces (mesh_in c).tets) × IsFirstLoose (mesh_in c).points (side_of c) (all_faces (mesh_in c).tets) (all_faces (mesh_in c).tets) f.0
Holds c (faults.Volume s) = (s ≡ volume (mesh_in c).points (mesh_in c).tets) × (s ≢ pos (6 * side_of c ^ 3))
Holds c (faults.NotAFace n) = IsFirstFailing (length c.mesh.tracked) (IsFace (mesh_in c).tets c.mesh.tracked) (λ i. length c.mesh.tets + (i + 1)) n
Holds c (faults.NotCovered n) =
    IsFirstFailing (max (length c.mesh.tracked) (length c.report.faces))
    (IsCovered c.soup.triangles c.report.epsilon (mesh_in c).points c.mesh.tracked c.report.faces) (λ i. i + 1) n
Holds c (faults.Region n) = IsFirstFailing (length c.mesh.tets) (λ i. IsTagOf (mesh_in c).tets (mesh_in c).tracked (tet_at c.mesh.tets i)) (λ i. i + 1) n
Holds c (faults.TriangleLines n) = (n ≡ length c.report.outcomes) × (¬ AreLines c.soup.triangles c.report)

-- their order
abbrev pub rank : Fault → ℕ
rank faults.Header = 0
rank (faults.NotInBox n) = 1
rank (faults.NotPositive n) = 2
rank (faults.Twice f) = 3
rank (faults.Loose f) = 4
rank (faults.Volume s) = 5
rank (faults.NotAFace n) = 6
rank (faults.NotCovered n) = 7
rank (faults.Region n) = 8
rank (faults.TriangleLines n) = 9

-- no fault of a rank below r is there
abbrev pub HasNoneBelow : ℕ → Case → Type 0
HasNoneBelow r c = (f : Fault) → rank f < r → ¬ Holds c f

-- Good where no fault is there, and else the first
abbrev pub IsFinding : Case → Finding → Type 0
IsFinding c findings.Good = (f : Fault) → ¬ Holds c f
IsFinding c (findings.Bad f) = Holds c f × HasNoneBelow (rank f) c
