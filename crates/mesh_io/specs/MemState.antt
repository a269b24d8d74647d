-- Folders in memory.
use Rattle.std.specs.Prelude.{ℕ, true, List, [], Option, None, Some, is_some}
use Rattle.mesh_io.specs.Fails.{lists_reading}
use Rattle.mesh_io.specs.Folder.{FolderState}
use Rattle.mesh_io.specs.MemFiles.{lookup, name_at}
use Rattle.mesh_io.specs.declared.mem_file.MemFile.{MemFile}
use Rattle.mesh_io.specs.declared.mem_file.MemFail.{MemFail}

-- what a folder in memory is
pub record MemState : Type 0 where
  -- the files, no two of one name
  pub files : List MemFile
  -- the number of the file that is read, and the reading place
  pub reading : Option (ℕ × ℕ)
  -- the number of the file that is written
  pub writing : Option ℕ
  -- the calls that fail, and the most bytes that a call takes or gives
  pub fails : List MemFail
  pub chunk : ℕ
  -- the calls so far, by kind
  pub opens : ℕ
  pub reads : ℕ
  pub creates : ℕ
  pub writes : ℕ
  pub read_faults : ℕ
  pub write_faults : ℕ

-- the name of the file that is read
abbrev pub name_of_reading : List MemFile → Option (ℕ × ℕ) → List ℕ
name_of_reading files None = []
name_of_reading files (Some r) = name_at files r.0

-- the name of the file that is written
abbrev pub name_of_writing : List MemFile → Option ℕ → List ℕ
name_of_writing files None = []
name_of_writing files (Some w) = name_at files w

-- the reading place
abbrev pub place_of_reading : Option (ℕ × ℕ) → ℕ
place_of_reading None = 0
place_of_reading (Some r) = r.1

-- what it is as a folder: reading may fail where a call that reads is listed, and writing for want of memory
abbrev pub folder_state : MemState → FolderState
folder_state m = record {
  told = true;
  may_fail_reading = lists_reading m.fails;
  may_fail_writing = true;
  files = lookup m.files;
  opened = is_some m.reading;
  reading = name_of_reading m.files m.reading;
  place = place_of_reading m.reading;
  created = is_some m.writing;
  writing = name_of_writing m.files m.writing;
  read_faults = m.read_faults;
  write_faults = m.write_faults;
}

-- a new one: nothing is opened or created, nothing was called, and no fault is counted
abbrev pub new_mem_state : List MemFile → List MemFail → ℕ → MemState
new_mem_state files fails chunk = record { files = files; reading = None; writing = None; fails = fails; chunk = chunk; opens = 0; reads = 0; creates = 0; writes = 0; read_faults = 0; write_faults = 0 }
