-- What the writes of a run leave.
use Rattle.std.specs.Prelude.{◌≡◌, ◌≢◌, ◌⊎◌, ℕ, true, List, [], ◌∷◌, ◌++◌, take, Option, Some, None, All}
use Rattle.std.specs.List.{AllPairs}
use Rattle.mesh_io.specs.Folder.{FolderState, Files, WriteCall, WriteRose}
use Rattle.mesh_io.specs.Sink.{SinkState, SinkCall, SinkRose, Appended}
use Rattle.outputs.specs.declared.output.OutFile.{OutFile}
use Rattle.outputs.specs.declared.output.Texts.{Texts}
use Rattle.printing.specs.Printed.{Says, write_failed_line}

-- ---- the files
abbrev pub NamesDiffer : List OutFile → Type 0
NamesDiffer outs = AllPairs (λ f g. f.name ≢ g.name) outs

-- the file holds its text
abbrev pub Holds : Files → OutFile → Type 0
Holds files f = files f.name ≡ Some f.text

-- the name of none of them
abbrev pub IsOther : List OutFile → List ℕ → Type 0
IsOther outs name = All (λ f. name ≢ f.name) outs

-- each file holds its text, and every other name is as before
pub record AreWhole (outs : List OutFile) (old new : Files) : Type 0 where
  pub each : All (Holds new) outs
  pub others : (name : List ℕ) → IsOther outs name → new name ≡ old name

-- the file that is written behind these, where that one was written before them
abbrev pub last_written : List ℕ → List OutFile → List ℕ
last_written name [] = name
last_written name (f ∷ fs) = last_written f.name fs

-- the file could not be created: it is as before, and the last one before it is the one that is written
pub record IsUncreated (earlier : List OutFile) (file : OutFile) (old new : FolderState) : Type 0 where
  pub here : new.files file.name ≡ old.files file.name
  pub writing : new.writing ≡ last_written old.writing earlier

-- the file was created and could not be written whole: it holds a front of its text
pub record IsCutShort (file : OutFile) (new : FolderState) : Type 0 where
  pub here : (n : ℕ) × (new.files file.name ≡ Some (take n file.text))
  pub writing : new.writing ≡ file.name

-- the earlier files are whole, the file is not, and every other name is as before
pub record IsCutAt (earlier : List OutFile) (file : OutFile) (old new : FolderState) : Type 0 where
  pub each : All (Holds new.files) earlier
  pub cut : IsUncreated earlier file old new ⊎ IsCutShort file new
  pub others : (name : List ℕ) → IsOther earlier name → name ≢ file.name → new.files name ≡ old.files name

-- a write failed at that file
pub record IsFileFault (outs : List OutFile) (file : OutFile) (old new : FolderState) : Type 0 where
  pub earlier : List OutFile
  pub later : List OutFile
  pub splits : outs ≡ earlier ++ file ∷ later
  pub rose : WriteRose old new
  pub files : old.told ≡ true → IsCutAt earlier file old new

-- the files one after the other, up to the first that was not written whole, which is the answer
pub record WritesFiles (outs : List OutFile) (old new : FolderState) (failed : Option OutFile) : Type 0 where
  pub call : WriteCall old new
  pub whole : failed ≡ None → old.told ≡ true → AreWhole outs old.files new.files
  pub cut : (file : OutFile) → failed ≡ Some file → IsFileFault outs file old new

-- ---- all writes
-- a write to a file failed, and the line says to which
pub record IsCutAtFile (texts : Texts) (old new : FolderState) (before after : SinkState) : Type 0 where
  pub file : OutFile
  pub fault : IsFileFault texts.files file old new
  pub line : Says before after (write_failed_line file.name)

-- the files are whole, and the output failed behind a front of the line
pub record IsCutAtOutput (texts : Texts) (old new : FolderState) (before after : SinkState) : Type 0 where
  pub rose : SinkRose before after
  pub files : old.told ≡ true → AreWhole texts.files old.files new.files
  pub printed : (n : ℕ) × Appended before after (take n texts.line)

-- which write failed, and what it left
abbrev pub IsCutOff : Texts → FolderState → FolderState → SinkState → SinkState → Type 0
IsCutOff texts old new before after = IsCutAtFile texts old new before after ⊎ IsCutAtOutput texts old new before after

-- everything was written
pub record AreWritten (texts : Texts) (old new : FolderState) (before after : SinkState) : Type 0 where
  pub files : old.told ≡ true → AreWhole texts.files old.files new.files
  pub line : Appended before after texts.line

-- the writes of a run, which answers 0 or 5
pub record Writes (texts : Texts) (old new : FolderState) (before after : SinkState) (status : ℕ) : Type 0 where
  pub folder : WriteCall old new
  pub sink : SinkCall before after
  pub known : (status ≡ 0) ⊎ (status ≡ 5)
  pub done : status ≡ 0 → AreWritten texts old new before after
  pub cut : status ≡ 5 → IsCutOff texts old new before after
