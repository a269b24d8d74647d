-- What a folder is, and what its four calls do to it.
use Rattle.std.specs.Prelude.{◌≡◌, ◌≢◌, ℕ, ◌+◌, ◌<◌, ◌≤◌, Bool, true, false, List, [], ◌++◌, length, take, drop, Option, Some, None, unwrap_or, Result, IfOk, OnOk, OnErr, IsErrOf}
use Rattle.mesh_io.specs.Faults.{Rose, OnlyRises}
use Rattle.mesh_io.specs.declared.folder.Failed.{Failed}
use Rattle.mesh_io.specs.declared.folder.OpenIssue.{OpenIssue}
use Rattle.mesh_io.specs.declared.folder.OpenIssue.TheVariants as open_issue

-- the content of each name that has a file
abbrev pub Files : Type 0
Files = List ℕ → Option (List ℕ)

-- what a folder is
pub record FolderState : Type 0 where
  -- whether the folder tells its files; only then the files, names and places below mean anything
  pub told : Bool
  -- whether a call of `open` or `read`, and whether one of `create` or `write`, may ever count a fault
  pub may_fail_reading : Bool
  pub may_fail_writing : Bool
  -- the files
  pub files : List ℕ → Option (List ℕ)
  -- whether a file was opened, and then its name and the reading place
  pub opened : Bool
  pub reading : List ℕ
  pub place : ℕ
  -- whether a file was created, and then the name of the one that is written
  pub created : Bool
  pub writing : List ℕ
  -- the faults of `open` and `read`, and those of `create` and `write`
  pub read_faults : ℕ
  pub write_faults : ℕ

-- what no call changes
pub record SameKind (old new : FolderState) : Type 0 where
  pub told : new.told ≡ old.told
  pub may_fail_reading : new.may_fail_reading ≡ old.may_fail_reading
  pub may_fail_writing : new.may_fail_writing ≡ old.may_fail_writing

-- the same file is read, from the same place
pub record SameReading (old new : FolderState) : Type 0 where
  pub opened : new.opened ≡ old.opened
  pub reading : new.reading ≡ old.reading
  pub place : new.place ≡ old.place

-- the same file is written
pub record SameWriting (old new : FolderState) : Type 0 where
  pub created : new.created ≡ old.created
  pub writing : new.writing ≡ old.writing

-- the read count rose, which it never does where reading may not fail
pub record ReadRose (old new : FolderState) : Type 0 where
  pub may_fail : old.may_fail_reading ≡ true
  pub rose : Rose old.read_faults new.read_faults

-- the write count rose, which it never does where writing may not fail
pub record WriteRose (old new : FolderState) : Type 0 where
  pub may_fail : old.may_fail_writing ≡ true
  pub rose : Rose old.write_faults new.write_faults

-- what holds after calls that read, whatever they answer
pub record ReadCall (old new : FolderState) : Type 0 where
  pub kind : SameKind old new
  pub count : OnlyRises old.read_faults new.read_faults
  pub no_fault : old.may_fail_reading ≡ false → new.read_faults ≡ old.read_faults
  pub other_count : new.write_faults ≡ old.write_faults
  pub files : new.files ≡ old.files
  pub writing : SameWriting old new

-- what holds after calls that write, whatever they answer
pub record WriteCall (old new : FolderState) : Type 0 where
  pub kind : SameKind old new
  pub count : OnlyRises old.write_faults new.write_faults
  pub no_fault : old.may_fail_writing ≡ false → new.write_faults ≡ old.write_faults
  pub other_count : new.read_faults ≡ old.read_faults
  pub opened : new.opened ≡ old.opened
  pub reading : new.reading ≡ old.reading

-- the name has this content now, and every other name what it had
pub record Puts (name content : List ℕ) (old new : Files) : Type 0 where
  pub here : new name ≡ Some content
  pub elsewhere : (other : List ℕ) → other ≢ name → new other ≡ old other

-- the content of a name, nothing where there is no file
abbrev pub content_of : Files → List ℕ → List ℕ
content_of files name = unwrap_or (files name) []

-- there is a file of that name
abbrev pub IsThere : Files → List ℕ → Type 0
IsThere files name = (content : List ℕ) × (files name ≡ Some content)

-- the name is not there and no call failed, where the files are told; else the read count rose
pub record IsMissing (old new : FolderState) (name : List ℕ) : Type 0 where
  pub told : old.told ≡ true → old.files name ≡ None
  pub count : old.told ≡ true → new.read_faults ≡ old.read_faults
  pub untold : old.told ≡ false → ReadRose old new

-- the file of that name is open at its start
pub record IsOpened (old new : FolderState) (name : List ℕ) : Type 0 where
  pub opened : new.opened ≡ true
  pub there : old.told ≡ true → IsThere old.files name
  pub reading : old.told ≡ true → new.reading ≡ name
  pub place : old.told ≡ true → new.place ≡ 0

-- one `open`
pub record Opens {T : Type 0} (old new : FolderState) (name : List ℕ) (result : Result T OpenIssue) : Type 0 where
  pub call : ReadCall old new
  pub ok : OnOk result (IsOpened old new name)
  pub quiet : OnOk result (new.read_faults ≡ old.read_faults)
  pub missing : IsErrOf result open_issue.Missing → IsMissing old new name
  pub failed : IsErrOf result open_issue.Failed → ReadRose old new
  pub err : OnErr result (SameReading old new)

-- what is left to read
abbrev pub left : FolderState → List ℕ
left s = drop s.place (content_of s.files s.reading)

-- the next n bytes stand at the front of `into`, and the place has moved behind them
pub record Gives (old new : FolderState) (into : List ℕ) (n : ℕ) : Type 0 where
  pub there : n ≤ length (left old)
  pub bytes : take n into ≡ take n (left old)
  pub moved : new.place ≡ old.place + n
  pub end : 0 < length into → n ≡ 0 → left old ≡ []

-- one `read`
pub record Reads (old new : FolderState) (into : List ℕ) (result : Result ℕ Failed) : Type 0 where
  pub call : ReadCall old new
  pub opened : new.opened ≡ old.opened
  pub reading : new.reading ≡ old.reading
  pub within : IfOk result (λ n. n ≤ length into)
  pub given : IfOk result (λ n. old.told ≡ true → Gives old new into n)
  pub quiet : OnOk result (new.read_faults ≡ old.read_faults)
  pub failed : OnErr result (ReadRose old new)
  pub err : OnErr result (new.place ≡ old.place)

-- the file of that name holds the content and is the one that is written, and every other file is as it was;
-- where it is also the one that is read, the reading place is its start
pub record IsCreated (old new : FolderState) (name content : List ℕ) : Type 0 where
  pub created : new.created ≡ true
  pub writing : old.told ≡ true → new.writing ≡ name
  pub files : old.told ≡ true → Puts name content old.files new.files
  pub same_place : old.told ≡ true → old.reading ≢ name → new.place ≡ old.place
  pub start : old.told ≡ true → old.opened ≡ true → old.reading ≡ name → new.place ≡ 0

-- nothing of the files, the reading place and the file that is written has changed
pub record SameFiles (old new : FolderState) : Type 0 where
  pub files : new.files ≡ old.files
  pub place : new.place ≡ old.place
  pub writing : SameWriting old new

-- one `create`
pub record Creates {T : Type 0} (old new : FolderState) (name : List ℕ) (result : Result T Failed) : Type 0 where
  pub call : WriteCall old new
  pub ok : OnOk result (IsCreated old new name [])
  pub quiet : OnOk result (new.write_faults ≡ old.write_faults)
  pub failed : OnErr result (WriteRose old new)
  pub err : OnErr result (SameFiles old new)

-- these bytes were appended to the file that is written
abbrev pub Appends : FolderState → FolderState → List ℕ → Type 0
Appends old new bytes = Puts old.writing (content_of old.files old.writing ++ bytes) old.files new.files

-- one `write`
pub record WritesSome (old new : FolderState) (bytes : List ℕ) (result : Result ℕ Failed) : Type 0 where
  pub call : WriteCall old new
  pub place : new.place ≡ old.place
  pub writing : SameWriting old new
  pub within : IfOk result (λ n. n ≤ length bytes)
  pub some : IfOk result (λ n. 0 < length bytes → 0 < n)
  pub appended : IfOk result (λ n. old.told ≡ true → Appends old new (take n bytes))
  pub quiet : OnOk result (new.write_faults ≡ old.write_faults)
  pub failed : OnErr result (WriteRose old new)
  pub err : OnErr result (new.files ≡ old.files)
