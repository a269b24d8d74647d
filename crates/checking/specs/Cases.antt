-- What is checked.
use Rattle.std.specs.Prelude.{ℕ, Option, unwrap_or, Ok}
use Rattle.msh_text.specs.Rules.{MshRules}
use Rattle.report_text.specs.Answers.{ReportRules}
use Rattle.tet_words.specs.declared.job.CheckJob.{CheckJob}
use Rattle.inputs.specs.Readings.{Inputs, file, known, ◌>>=◌}
use Rattle.inputs.specs.Placed.{IsPlacedFor}
use Rattle.inputs.specs.Texts.{SaysSoup, SaysMesh, SaysReport, placed_soup}
use Rattle.cert_check.specs.Faults as judged
use Rattle.checking.specs.declared.case.Case.{Case}

-- the soup, the mesh and the report; then the soup is placed by the report's epsilon and cells
abbrev pub check_inputs : CheckJob → Inputs Case
check_inputs job =
    file job.input (SaysSoup job.digits) >>= λ raw.
    file job.mesh (SaysMesh (unwrap_or job.digits 0)) >>= λ mesh.
    file job.report SaysReport >>= λ report.
    placed_soup report.epsilon report.cells raw >>= λ soup.
    known (Ok (record { soup = soup; mesh = mesh; report = report }))

-- the soup lies in its box, and the mesh and the report keep the rules of their texts
pub record IsCase (case : Case) : Type 0 where
  pub soup : IsPlacedFor case.report.cells case.soup
  pub mesh : MshRules case.mesh.digits case.mesh
  pub report : ReportRules case.report

-- what is judged of it
abbrev pub judged_of : Case → Option ℕ → judged.Case
judged_of case digits = judged.case_of case.soup case.mesh case.report digits
