-- Folders and outputs that tell no bytes, and whose calls may fail.
use Rattle.std.specs.Prelude.{ℕ, Bool, true, false, None, []}
use Rattle.mesh_io.specs.Folder.{FolderState}
use Rattle.mesh_io.specs.Sink.{SinkState}

-- a folder that tells only whether files were opened and created, and its counts
abbrev pub untold_folder : Bool → Bool → ℕ → ℕ → FolderState
untold_folder opened created read_faults write_faults = record { told = false; may_fail_reading = true; may_fail_writing = true; files = λ _. None; opened = opened; reading = []; place = 0; created = created; writing = []; read_faults = read_faults; write_faults = write_faults }

-- an output that tells only its count
abbrev pub untold_sink : ℕ → SinkState
untold_sink faults = record { told = false; may_fail = true; bytes = []; faults = faults }
