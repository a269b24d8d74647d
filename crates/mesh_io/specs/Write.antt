-- Writing all of some bytes.
use Rattle.std.specs.Prelude.{◌≡◌, ◌⊎◌, ℕ, List, take, Result, OnOk, OnErr}
use Rattle.mesh_io.specs.Folder.{FolderState, WriteCall, WriteRose, IsCreated, SameFiles}
use Rattle.mesh_io.specs.Sink.{SinkState, SinkCall, SinkRose, Appended}
use Rattle.mesh_io.specs.declared.folder.Failed.{Failed}

-- the file was created and holds a front of the bytes
abbrev pub HoldsFront : FolderState → FolderState → List ℕ → List ℕ → Type 0
HoldsFront old new name bytes = (n : ℕ) × IsCreated old new name (take n bytes)

-- a file was written whole; after a fault nothing has changed, or the file holds a front of the bytes
pub record WritesFile {T : Type 0} (old new : FolderState) (name bytes : List ℕ) (result : Result T Failed) : Type 0 where
  pub call : WriteCall old new
  pub ok : OnOk result (IsCreated old new name bytes)
  pub quiet : OnOk result (new.write_faults ≡ old.write_faults)
  pub failed : OnErr result (WriteRose old new)
  pub err : OnErr result (SameFiles old new ⊎ HoldsFront old new name bytes)

-- all bytes were appended, or after a fault a front of them
pub record WritesAll {T : Type 0} (old new : SinkState) (bytes : List ℕ) (result : Result T Failed) : Type 0 where
  pub call : SinkCall old new
  pub ok : OnOk result (Appended old new bytes)
  pub quiet : OnOk result (new.faults ≡ old.faults)
  pub failed : OnErr result (SinkRose old new)
  pub err : OnErr result ((n : ℕ) × Appended old new (take n bytes))
