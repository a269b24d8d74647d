-- What is written of a mesh: its file, and a report with a covering for each tracked face.
use Rattle.std.specs.Prelude.{◌≡◌, ℕ, ◌<◌, Bool, List, [], Option, length, slice_index_or, unsigned_abs, All}
use Rattle.std.specs.List.{HoldsAt}
use Rattle.grid.specs.declared.shapes.Point.{Point}
use Rattle.grid.specs.declared.shapes.Tri.{Tri}
use Rattle.grid.specs.Boxes.{IsInBox}
use Rattle.grid.specs.Meshes.{Mesh, Tiles}
use Rattle.grid.specs.Regions.{AreRegions}
use Rattle.mesh_types.specs.Certificates.{Covers, most_levels}
use Rattle.msh_text.specs.FileMesh.{AreInRange, face_of, msh_of}
use Rattle.report_text.specs.declared.report.Covering.{Covering}
use Rattle.report_text.specs.declared.report.Report.{Report}
use Rattle.soup.specs.declared.raw.Soup.{Soup}
use Rattle.cert_check.specs.Faults.{case_of, IsHeader, AreLines, tri_of}
use Rattle.cert_check.specs.Sound.{IsSound}

-- the covering is of the triple by its numbers in the file, and its certificate covers the face
pub record IsCoveringOfTriple (triangles : List Tri) (e : ℕ) (points : List Point) (t : List ℕ) (covering : Covering) : Type 0 where
  pub face : covering.face ≡ face_of t
  pub covers : Covers triangles e most_levels 0 (tri_of points t) covering.cert

-- the mesh tiles the box, the flags are its regions, and the report has a covering for each tracked triple and the lines of the triangles
pub record IsWritten (soup : Soup) (m : Mesh) (outside : List Bool) (report : Report) (digits : Option ℕ) : Type 0 where
  pub header : IsHeader soup report digits
  pub tiles : Tiles m (unsigned_abs soup.side)
  pub in_box : All (IsInBox (unsigned_abs soup.side)) m.points
  pub in_range : AreInRange (length m.points) m.tets
  pub regions : AreRegions m.tets m.tracked outside
  pub three : All (λ t. length t ≡ 3) m.tracked
  pub one_covering_each : length report.faces ≡ length m.tracked
  pub covered : (i : ℕ) → i < length m.tracked → HoldsAt (IsCoveringOfTriple soup.triangles report.epsilon m.points (slice_index_or m.tracked i [])) report.faces i
  pub lines : AreLines soup.triangles report

-- what is written is sound
abbrev pub WrittenIsSound : Type 0
WrittenIsSound = (soup : Soup) (m : Mesh) (outside : List Bool) (d : ℕ) (report : Report) (digits : Option ℕ)
    → IsWritten soup m outside report digits → IsSound (case_of soup (msh_of m outside soup.shift d) report digits)
