-- What is answered where inputs do not serve.
use Rattle.std.specs.Prelude.{◌≡◌, ◌⊎◌, ℕ, true, false, List, Result, IfOk, IfErr, OnOk}
use Rattle.mesh_io.specs.Folder.{FolderState, ReadCall, ReadRose, SameWriting}
use Rattle.mesh_io.specs.Sink.{SinkState}
use Rattle.printing.specs.Printed.{Says, missing_line, read_failed_line, too_long_line, memory_line}
use Rattle.inputs.specs.declared.issue.InputIssue.{InputIssue}
use Rattle.inputs.specs.declared.issue.InputIssue.TheVariants as issues
use Rattle.inputs.specs.Readings.{Inputs, Gives, Missing, Refused, Reaches}
use Rattle.inputs.specs.Texts.{off_line, too_wide_line, mesh_line, report_line}

-- ---- one issue
-- the line that is printed, and the status
abbrev pub issue_line : InputIssue → List ℕ
issue_line (issues.Missing name) = missing_line name.now
issue_line (issues.Failed name) = read_failed_line name.now
issue_line (issues.TooLong name) = too_long_line name.now
issue_line (issues.Off kind place) = off_line kind place
issue_line (issues.TooWide extent) = too_wide_line extent
issue_line (issues.Mesh line) = mesh_line line
issue_line (issues.Report line) = report_line line
issue_line issues.Memory = memory_line

abbrev pub issue_status : InputIssue → ℕ
issue_status (issues.Missing name) = 4
issue_status (issues.Failed name) = 4
issue_status (issues.TooLong name) = 3
issue_status (issues.Off kind place) = 3
issue_status (issues.TooWide extent) = 3
issue_status (issues.Mesh line) = 3
issue_status (issues.Report line) = 3
issue_status issues.Memory = 6

-- the file is not there and no read failed, where the folder tells its files; else the read count rose
pub record IsMissing {X : Type 0} (inputs : Inputs X) (old new : FolderState) (name : List ℕ) : Type 0 where
  pub found : old.told ≡ true → inputs old.files (Missing name)
  pub quiet : old.told ≡ true → new.read_faults ≡ old.read_faults
  pub untold : old.told ≡ false → ReadRose old new

-- a read of the file failed, behind inputs that are accepted
pub record HasFailed {X : Type 0} (inputs : Inputs X) (old new : FolderState) (name : List ℕ) : Type 0 where
  pub reaches : old.told ≡ true → inputs old.files (Reaches name)
  pub rose : ReadRose old new

-- an input is refused with the line
abbrev pub IsRefusedWith : {X : Type 0} → Inputs X → FolderState → List ℕ → Type 0
IsRefusedWith inputs old line = old.told ≡ true → inputs old.files (Refused line)

abbrev pub Explains : {X : Type 0} → Inputs X → (old new : FolderState) → InputIssue → Type 0
Explains inputs old new (issues.Missing name) = IsMissing inputs old new name.now
Explains inputs old new (issues.Failed name) = HasFailed inputs old new name.now
Explains inputs old new (issues.TooLong name) = IsRefusedWith inputs old (too_long_line name.now)
Explains inputs old new (issues.Off kind place) = IsRefusedWith inputs old (off_line kind place)
Explains inputs old new (issues.TooWide extent) = IsRefusedWith inputs old (too_wide_line extent)
Explains inputs old new (issues.Mesh line) = IsRefusedWith inputs old (mesh_line line)
Explains inputs old new (issues.Report line) = IsRefusedWith inputs old (report_line line)
Explains inputs old new issues.Memory = Unit {0}

-- inputs were read: what they give, or why they do not serve
pub record Reads {X : Type 0} (inputs : Inputs X) (old new : FolderState) (result : Result X InputIssue) : Type 0 where
  pub call : ReadCall old new
  pub gives : IfOk result (λ x. old.told ≡ true → inputs old.files (Gives x))
  pub quiet : OnOk result (new.read_faults ≡ old.read_faults)
  pub why : IfErr result (Explains inputs old new)

-- ---- the answers of a run
-- no file has changed, and none was created
pub record NothingWritten (old new : FolderState) : Type 0 where
  pub files : new.files ≡ old.files
  pub writing : SameWriting old new

-- status 3: an input is refused, and its line printed
pub record IsRefused {X : Type 0} (inputs : Inputs X) (old new : FolderState) (before after : SinkState) : Type 0 where
  pub line : List ℕ
  pub refused : IsRefusedWith inputs old line
  pub printed : Says before after line
  pub nothing : NothingWritten old new

-- status 4: an input is not there, or a read failed
pub record IsUnread {X : Type 0} (inputs : Inputs X) (old new : FolderState) (before after : SinkState) : Type 0 where
  pub name : List ℕ
  pub cause : (Says before after (missing_line name) × IsMissing inputs old new name) ⊎ (Says before after (read_failed_line name) × HasFailed inputs old new name)
  pub nothing : NothingWritten old new

-- status 6: memory ran out
pub record IsOutOfMemory (old new : FolderState) (before after : SinkState) : Type 0 where
  pub printed : Says before after memory_line
  pub nothing : NothingWritten old new

-- the answers where inputs do not serve, and back: refused inputs are answered 3 where no read failed, and a missing one 4, unless memory ran out
pub record AnswersInputs {X : Type 0} (inputs : Inputs X) (old new : FolderState) (before after : SinkState) (status : ℕ) : Type 0 where
  pub refused : status ≡ 3 → IsRefused inputs old new before after
  pub unread : status ≡ 4 → IsUnread inputs old new before after
  pub out_of_memory : status ≡ 6 → IsOutOfMemory old new before after
  pub refused_there : old.told ≡ true → (line : List ℕ) → inputs old.files (Refused line) → ReadRose old new ⊎ ((status ≡ 3) ⊎ (status ≡ 6))
  pub missing_there : old.told ≡ true → (name : List ℕ) → inputs old.files (Missing name) → (status ≡ 4) ⊎ (status ≡ 6)
