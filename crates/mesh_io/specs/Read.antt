-- Reading a whole file.
use Rattle.std.specs.Prelude.{◌≡◌, ℕ, ◌+◌, ◌<◌, ◌≤◌, true, List, length, Vec, Some, Result, IfOk, OnOk, IsErrOf, max}
use Rattle.std.specs.declared.alloc.Global.{Global}
use Rattle.mesh_io.specs.Folder.{FolderState, ReadCall, ReadRose, IsMissing, IsThere, left}
use Rattle.mesh_io.specs.declared.read.ReadIssue.{ReadIssue}
use Rattle.mesh_io.specs.declared.read.ReadIssue.TheVariants as read_issue

-- the file is there, and has more than `limit` bytes
abbrev pub IsLonger : FolderState → List ℕ → ℕ → Type 0
IsLonger s name limit = (content : List ℕ) × (s.files name ≡ Some content) × (limit < length content)

-- a file was read whole; of a longer one at most one byte behind the limit was taken
pub record ReadsAll (old new : FolderState) (name : List ℕ) (limit : ℕ) (result : Result (Vec ℕ Global) ReadIssue) : Type 0 where
  pub call : ReadCall old new
  pub taken : old.told ≡ true → new.place ≤ max old.place (limit + 1)
  pub ok : IfOk result (λ bytes. old.told ≡ true → old.files name ≡ Some bytes.items)
  pub quiet : OnOk result (new.read_faults ≡ old.read_faults)
  pub quiet_too_long : IsErrOf result read_issue.TooLong → new.read_faults ≡ old.read_faults
  pub quiet_memory : IsErrOf result read_issue.Memory → new.read_faults ≡ old.read_faults
  pub fits : IfOk result (λ bytes. length bytes.items ≤ limit)
  pub too_long : IsErrOf result read_issue.TooLong → old.told ≡ true → IsLonger old name limit
  pub missing : IsErrOf result read_issue.Missing → IsMissing old new name
  pub failed : IsErrOf result read_issue.Failed → ReadRose old new
  pub memory : IsErrOf result read_issue.Memory → old.told ≡ true → IsThere old.files name

-- the rest of the opened file was read
pub record ReadsRest (old new : FolderState) (limit : ℕ) (result : Result (Vec ℕ Global) ReadIssue) : Type 0 where
  pub call : ReadCall old new
  pub taken : old.told ≡ true → new.place ≤ old.place + (limit + 1)
  pub ok : IfOk result (λ bytes. old.told ≡ true → bytes.items ≡ left old)
  pub quiet : OnOk result (new.read_faults ≡ old.read_faults)
  pub quiet_too_long : IsErrOf result read_issue.TooLong → new.read_faults ≡ old.read_faults
  pub quiet_memory : IsErrOf result read_issue.Memory → new.read_faults ≡ old.read_faults
  pub fits : IfOk result (λ bytes. length bytes.items ≤ limit)
  pub too_long : IsErrOf result read_issue.TooLong → old.told ≡ true → limit < length (left old)
  pub missing : IsErrOf result read_issue.Missing → ⊥
  pub failed : IsErrOf result read_issue.Failed → ReadRose old new
