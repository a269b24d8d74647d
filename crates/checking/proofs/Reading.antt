-- A case that is read file after file.
use Rattle.std.proofs.Common.{unwrap_or, Result, Ok, Err, refl}
use Rattle.mesh_io.specs.Folder.{FolderState}
use Rattle.soup.specs.declared.raw.Raw.{Raw}
use Rattle.soup.specs.declared.raw.Soup.{Soup}
use Rattle.msh_text.specs.declared.file_mesh.MshMesh.{MshMesh}
use Rattle.report_text.specs.declared.report.Report.{Report}
use Rattle.tet_words.specs.declared.job.CheckJob.{CheckJob}
use Rattle.inputs.specs.declared.issue.InputIssue.{InputIssue}
use Rattle.inputs.specs.Readings.{Inputs, file, known, ◌>>=◌}
use Rattle.inputs.specs.Texts.{SaysSoup, SaysMesh, SaysReport, placed_soup}
use Rattle.inputs.specs.Answers.{Reads}
use Rattle.inputs.proofs.ForCallers.{and_then, at_first, known_value}
use Rattle.checking.specs.declared.case.Case.{Case}
use Rattle.checking.specs.Cases.{check_inputs}

-- ---- the files in turn
abbrev pub soup_of : CheckJob → Inputs Raw
soup_of job = file job.input (SaysSoup job.digits)

abbrev pub mesh_of : CheckJob → Inputs MshMesh
mesh_of job = file job.mesh (SaysMesh (unwrap_or job.digits 0))

abbrev pub report_of : CheckJob → Inputs Report
report_of job = file job.report SaysReport

abbrev pub behind_report : Raw → MshMesh → Report → Inputs Case
behind_report raw mesh report = placed_soup report.epsilon report.cells raw >>= λ soup. known (Ok (record { soup = soup; mesh = mesh; report = report }))

abbrev pub behind_mesh : CheckJob → Raw → MshMesh → Inputs Case
behind_mesh job raw mesh = report_of job >>= behind_report raw mesh

abbrev pub behind_soup : CheckJob → Raw → Inputs Case
behind_soup job raw = mesh_of job >>= behind_mesh job raw

-- ---- how far it came
pub no_soup : (job : CheckJob) (old new : FolderState) (issue : InputIssue) → Reads {X = Raw} (file job.input (SaysSoup job.digits)) old new (Err issue) → Reads {X = Case} (check_inputs job) old new (Err issue)
no_soup job old new issue r = at_first (soup_of job) (behind_soup job) old new issue r

pub behind_soup_of : (job : CheckJob) (old mid new : FolderState) (raw : Raw) (result : Result Case InputIssue) → Reads (file job.input (SaysSoup job.digits)) old mid (Ok raw) → Reads (behind_soup job raw) mid new result → Reads (check_inputs job) old new result
behind_soup_of job old mid new raw result r more = and_then (soup_of job) (behind_soup job) old mid new raw result r more

pub no_mesh : (job : CheckJob) (raw : Raw) (old new : FolderState) (issue : InputIssue) → Reads {X = MshMesh} (file job.mesh (SaysMesh (unwrap_or job.digits 0))) old new (Err issue) → Reads {X = Case} (behind_soup job raw) old new (Err issue)
no_mesh job raw old new issue r = at_first (mesh_of job) (behind_mesh job raw) old new issue r

pub behind_mesh_of : (job : CheckJob) (raw : Raw) (old mid new : FolderState) (mesh : MshMesh) (result : Result Case InputIssue) → Reads (file job.mesh (SaysMesh (unwrap_or job.digits 0))) old mid (Ok mesh) → Reads (behind_mesh job raw mesh) mid new result → Reads (behind_soup job raw) old new result
behind_mesh_of job raw old mid new mesh result r more = and_then (mesh_of job) (behind_mesh job raw) old mid new mesh result r more

pub no_report : (job : CheckJob) (raw : Raw) (mesh : MshMesh) (old new : FolderState) (issue : InputIssue) → Reads {X = Report} (file job.report SaysReport) old new (Err issue) → Reads {X = Case} (behind_mesh job raw mesh) old new (Err issue)
no_report job raw mesh old new issue r = at_first (report_of job) (behind_report raw mesh) old new issue r

pub behind_report_of : (job : CheckJob) (raw : Raw) (mesh : MshMesh) (old mid new : FolderState) (report : Report) (result : Result Case InputIssue) → Reads (file job.report SaysReport) old mid (Ok report) → Reads (behind_report raw mesh report) mid new result → Reads (behind_mesh job raw mesh) old new result
behind_report_of job raw mesh old mid new report result r more = and_then (report_of job) (behind_report raw mesh) old mid new report result r more

pub no_box : (raw : Raw) (mesh : MshMesh) (report : Report) (s : FolderState) (issue : InputIssue) → Reads {X = Soup} (placed_soup report.epsilon report.cells raw) s s (Err issue) → Reads {X = Case} (behind_report raw mesh report) s s (Err issue)
no_box raw mesh report s issue r = at_first (placed_soup report.epsilon report.cells raw) (λ soup. known (Ok (record { soup = soup; mesh = mesh; report = report }))) s s issue r

pub a_case : (raw : Raw) (mesh : MshMesh) (report : Report) (s : FolderState) (soup : Soup) → Reads (placed_soup report.epsilon report.cells raw) s s (Ok soup) → Reads (behind_report raw mesh report) s s (Ok (record { soup = soup; mesh = mesh; report = report }))
a_case raw mesh report s soup r =
    let case : Case = record { soup = soup; mesh = mesh; report = report } in
    and_then (placed_soup report.epsilon report.cells raw) (λ placed. known (Ok (record { soup = placed; mesh = mesh; report = report }))) s s s soup (Ok case) r (known_value (Ok case) s case refl)
