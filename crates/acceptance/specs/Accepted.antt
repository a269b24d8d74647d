-- What the mesher makes of a soup is accepted: it keeps the rules of the texts, and no fault is found in it.
use Rattle.std.specs.Prelude.{ℕ, ◌*◌, ◌≤◌, Bool, List, Option, unwrap_or, length, nat_abs, All}
use Rattle.grid.specs.Regions.{AreRegions}
use Rattle.mesh_types.specs.Views.{mesh_of}
use Rattle.soup.specs.declared.raw.Soup.{Soup}
use Rattle.mesher.specs.declared.mesh.Meshed.{Meshed}
use Rattle.mesher.specs.Meshed.{IsMeshed}
use Rattle.msh_text.specs.declared.file_mesh.MshMesh.{MshMesh}
use Rattle.msh_text.specs.Rules.{MshRules}
use Rattle.report_text.specs.declared.report.Report.{Report}
use Rattle.report_text.specs.Answers.{ReportRules}
use Rattle.cert_check.specs.declared.fault.Finding.TheVariants as findings
use Rattle.cert_check.specs.Faults.{case_of, IsFinding}
use Rattle.cert_check.specs.Sound.{IsSound}
use Rattle.inputs.specs.Placed.{IsBoxed}
use Rattle.outputs.specs.declared.request.Asked.{Asked}
use Rattle.outputs.specs.MeshFiles.{IsAsked, file_of, report_of}
use Rattle.acceptance.specs.OffBox.{IsOffBox}

-- ---- a run
-- what is asked for is within its limits, and the mesh is that of a soup in its box
pub record IsRun (asked : Asked) (soup : Soup) (made : Meshed) : Type 0 where
  pub is_asked : IsAsked asked
  pub boxed : IsBoxed asked.epsilon asked.cells soup
  pub meshed : IsMeshed soup asked.epsilon asked.cells asked.budget made

-- ---- the laws
-- no corner of a tracked face lies on a side of the box
abbrev pub OffTheBoxLaw : Type 0
OffTheBoxLaw = (asked : Asked) (soup : Soup) (made : Meshed) → IsRun asked soup made → All (IsOffBox made.mesh.points (nat_abs soup.side)) (mesh_of made.mesh).tracked

-- there are at most twice as many tracked faces as tetrahedra
abbrev pub FewTrackedLaw : Type 0
FewTrackedLaw = (asked : Asked) (soup : Soup) (made : Meshed) → IsRun asked soup made → length (mesh_of made.mesh).tracked ≤ 2 * length (mesh_of made.mesh).tets

-- the file and the report keep the rules of their texts and are sound, and the finding is Good
pub record IsAccepted (soup : Soup) (digits : Option ℕ) (file : MshMesh) (report : Report) : Type 0 where
  pub file_rules : MshRules (unwrap_or digits 0) file
  pub report_rules : ReportRules report
  pub sound : IsSound (case_of soup file report digits)
  pub good : IsFinding (case_of soup file report digits) findings.Good

-- every finished run is accepted
abbrev pub AcceptedLaw : Type 0
AcceptedLaw = (asked : Asked) (soup : Soup) (made : Meshed) (regions : List Bool)
    → IsRun asked soup made → AreRegions (mesh_of made.mesh).tets (mesh_of made.mesh).tracked regions
    → IsAccepted soup asked.digits (file_of asked soup made regions) (report_of asked soup made)
