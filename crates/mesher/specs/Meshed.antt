-- The mesh of a soup, and what is told of it.
use Rattle.std.specs.Prelude.{◌≡◌, ℕ, ◌-◌, Option, None, Some, List, [], ◌∷◌, length, nat_abs, All}
use Rattle.std.specs.List.{range_with_len}
use Rattle.grid.specs.declared.shapes.Point.{Point}
use Rattle.grid.specs.declared.shapes.Tri.{Tri}
use Rattle.grid.specs.Boxes.{IsInBox}
use Rattle.grid.specs.Meshes.{Mesh, IsWellFormed, IsWithinLimits, Tiles}
use Rattle.mesh_types.specs.declared.outcome.Outcome.{Outcome}
use Rattle.mesh_types.specs.declared.tries.End.{End}
use Rattle.mesh_types.specs.declared.tries.TryLine.{TryLine}
use Rattle.mesh_types.specs.Certificates.{HasCertificate, IsCertificateOf}
use Rattle.mesh_types.specs.Journals.{JournalRule, last_mesh, setting}
use Rattle.mesh_types.specs.Lattice.{lattice}
use Rattle.mesh_types.specs.Turns.{AreInserted, rolled_back}
use Rattle.mesh_types.specs.Verdicts.{Setting, face_at}
use Rattle.mesh_types.specs.Views.{mesh_of}
use Rattle.insertion.specs.InTurn.{outcomes_of, triangles_of}
use Rattle.msh_text.specs.FileMesh.{face_of}
use Rattle.report_text.specs.declared.report.Covering.{Covering}
use Rattle.report_text.specs.declared.report.Second.{Second}
use Rattle.soup.specs.declared.raw.Soup.{Soup}
use Rattle.mesher.specs.declared.mesh.Meshed.{Meshed}

-- ---- certificates
-- the face of the triple has a certificate
pub record HasItsCertificate (triangles : List Tri) (e : ℕ) (points : List Point) (t : List ℕ) : Type 0 where
  pub certificate : HasCertificate triangles e (face_at points t)

-- the tracked triple by its numbers in the file, and the certificate of its face
pub record IsCoveringOf (triangles : List Tri) (e : ℕ) (points : List Point) (t : List ℕ) (c : Covering) : Type 0 where
  pub face : c.face ≡ face_of t
  pub cert : IsCertificateOf triangles e (face_at points t) c.cert

-- a covering for each triple, in order
abbrev pub AreCoverings : List Tri → ℕ → List Point → List (List ℕ) → List Covering → Type 0
AreCoverings triangles e points [] [] = Unit {0}
AreCoverings triangles e points (t ∷ ts) (c ∷ cs) = IsCoveringOf triangles e points t c × AreCoverings triangles e points ts cs
AreCoverings triangles e points ts cs = ⊥

-- ---- the parts of a run
-- one part: the triangles of these numbers in turn, and then tries within a budget
pub record IsPart (s : Setting) (numbers : List ℕ) (budget : ℕ) (start : Mesh) (outcomes : List Outcome) (lines : List TryLine) (end : End) (last : Mesh) : Type 0 where
  -- the mesh between the triangles and the tries
  pub between : Mesh
  pub inserted : AreInserted s.triangles s.epsilon numbers start outcomes between
  pub journal : JournalRule s between budget lines end
  pub mesh : last ≡ last_mesh s.side between lines

-- the second part: the triangles that were rolled back, by number, with their second outcomes
pub record IsSecond (s : Setting) (numbers : List ℕ) (budget : ℕ) (start : Mesh) (second : Second) (last : Mesh) : Type 0 where
  pub triangles : triangles_of second.again ≡ numbers
  pub part : IsPart s numbers budget start (outcomes_of second.again) second.journal.lines second.end last

-- there is a second part exactly where a triangle was rolled back, and without one nothing more happens
abbrev pub IsSecondOrNone : Setting → List ℕ → ℕ → Mesh → Option Second → Mesh → Type 0
IsSecondOrNone s numbers budget start None last = (numbers ≡ []) × (last ≡ start)
IsSecondOrNone s numbers budget start (Some second) last = (¬ numbers ≡ []) × IsSecond s numbers budget start second last

-- ---- the mesh
-- the lattice after a first part with every triangle and a second one with those rolled back, and the certificates of its tracked faces
pub record IsMeshed (soup : Soup) (epsilon cells budget : ℕ) (made : Meshed) : Type 0 where
  -- the mesh after the first part
  pub middle : Mesh
  pub first : IsPart (setting soup.triangles epsilon soup.side) (range_with_len 0 (length soup.triangles)) budget (lattice (nat_abs soup.side) cells) made.outcomes made.journal.lines made.end middle
  -- its tries are those that the first part left of the budget
  pub second : IsSecondOrNone (setting soup.triangles epsilon soup.side) (rolled_back 0 made.outcomes) (budget - length made.journal.lines) middle made.second (mesh_of made.mesh)
  pub covered : AreCoverings soup.triangles epsilon made.mesh.points (mesh_of made.mesh).tracked made.faces
  pub tiles : Tiles (mesh_of made.mesh) (nat_abs soup.side)
  pub in_box : All (IsInBox (nat_abs soup.side)) made.mesh.points
  pub well_formed : IsWellFormed (mesh_of made.mesh)
  pub within : IsWithinLimits (mesh_of made.mesh)

-- ---- the law
-- of a soup there is one mesh with one list of outcomes, one journal, one second part or none, and one certificate a tracked face
pub record IsSameMesh (made other : Meshed) : Type 0 where
  pub mesh : mesh_of made.mesh ≡ mesh_of other.mesh
  pub outcomes : made.outcomes ≡ other.outcomes
  pub lines : made.journal.lines ≡ other.journal.lines
  pub end : made.end ≡ other.end
  pub second : made.second ≡ other.second
  pub faces : made.faces ≡ other.faces

abbrev pub OneMesh : Type 0
OneMesh = (soup : Soup) (epsilon cells budget : ℕ) (made other : Meshed) → IsMeshed soup epsilon cells budget made → IsMeshed soup epsilon cells budget other → IsSameMesh made other
