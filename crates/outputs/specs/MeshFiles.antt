-- What is made of an accepted input.
use Rattle.std.specs.Prelude.{◌≡◌, ℕ, ◌≤◌, Bool, List, [], ◌∷◌, ◌++◌, Option, Some, None, unwrap_or, IfSome}
use Rattle.grid.specs.Limits.{IsCells, most_epsilon}
use Rattle.grid.specs.Regions.{AreRegions}
use Rattle.mesh_types.specs.Views.{mesh_of}
use Rattle.mesher.specs.declared.mesh.Meshed.{Meshed}
use Rattle.mesher.specs.Meshed.{IsMeshed}
use Rattle.soup.specs.declared.raw.Soup.{Soup}
use Rattle.msh_text.specs.declared.file_mesh.MshMesh.{MshMesh}
use Rattle.msh_text.specs.FileMesh.{msh_of}
use Rattle.msh_text.specs.Text.{msh_text, kept_text}
use Rattle.report_text.specs.declared.report.Report.{Report}
use Rattle.report_text.specs.Text.{report_text}
use Rattle.outputs.specs.declared.request.Asked.{Asked}
use Rattle.outputs.specs.declared.request.Names.{Names}
use Rattle.outputs.specs.declared.output.OutFile.{OutFile}
use Rattle.outputs.specs.declared.output.Texts.{Texts}
use Rattle.outputs.specs.Summary.{summary_line}

-- the numbers are within their limits
pub record IsAsked (asked : Asked) : Type 0 where
  pub epsilon_least : 1 ≤ asked.epsilon
  pub epsilon_most : asked.epsilon ≤ most_epsilon
  pub cells : IsCells asked.cells
  pub budget : asked.budget ≤ 1000000
  pub digits : IfSome asked.digits (λ d. d ≤ 5)

-- ---- the texts
-- what the mesh file holds
abbrev pub file_of : Asked → Soup → Meshed → List Bool → MshMesh
file_of asked soup made regions = msh_of (mesh_of made.mesh) regions soup.shift (unwrap_or asked.digits 0)

-- what the report tells: what was asked for, the box, what became of each triangle and of each try, and the certificates
abbrev pub report_of : Asked → Soup → Meshed → Report
report_of asked soup made = record {
  epsilon = asked.epsilon;
  cells = asked.cells;
  budget = asked.budget;
  digits = asked.digits;
  side = soup.side;
  shift = soup.shift;
  outcomes = made.outcomes;
  journal = made.journal;
  end = made.end;
  faces = made.faces;
  second = made.second;
}

-- the kept part of the mesh, where it is asked for
abbrev pub kept_files : Option (List ℕ) → MshMesh → List OutFile
kept_files (Some name) file = record { name = name; text = kept_text file } ∷ []
kept_files None file = []

-- the mesh and the report, and the kept part
abbrev pub files_of : Names → MshMesh → Report → List OutFile
files_of names file report = record { name = names.mesh; text = msh_text file } ∷ record { name = names.report; text = report_text report } ∷ kept_files names.kept file

-- the files in the order in which they are written, behind those that are first, and the line
unfoldable pub texts_of : Asked → Names → (first : List OutFile) → Soup → Meshed → List Bool → Texts
texts_of asked names first soup made regions = record {
  files = first ++ files_of names (file_of asked soup made regions) (report_of asked soup made);
  line = summary_line (file_of asked soup made regions) made;
}

-- the texts are those of the mesh of the soup, with its regions
pub record IsMade (asked : Asked) (names : Names) (first : List OutFile) (soup : Soup) (texts : Texts) : Type 0 where
  pub made : Meshed
  pub meshed : IsMeshed soup asked.epsilon asked.cells asked.budget made
  pub regions : List Bool
  pub are_regions : AreRegions (mesh_of made.mesh).tets (mesh_of made.mesh).tracked regions
  pub texts_are : texts ≡ texts_of asked names first soup made regions

-- ---- the law
-- of what is asked for and a soup there are no two texts
abbrev pub OneMade : Type 0
OneMade = (asked : Asked) (names : Names) (first : List OutFile) (soup : Soup) (texts other : Texts) → IsMade asked names first soup texts → IsMade asked names first soup other → texts ≡ other
