-- The fields of a folder in memory.
use Rattle.std.specs.Prelude.{◌<◌, length, option_map, IfSome}
use Rattle.mesh_io.specs.MemFiles.{AllNamesDiffer}
use Rattle.mesh_io.specs.MemState.{MemState}
use Rattle.mesh_io.specs.MemPlace.{place_of}
use Rattle.mesh_io.specs.declared.mem_folder.MemFolder.TheInside.{Inside}

-- what the fields mean
abbrev pub mem_state : Inside → MemState
mem_state m = record {
  files = m.files.items;
  reading = option_map place_of m.reading;
  writing = m.writing;
  fails = m.fails.items;
  chunk = m.chunk;
  opens = m.opens;
  reads = m.reads;
  creates = m.creates;
  writes = m.writes;
  read_faults = m.read_faults;
  write_faults = m.write_faults;
}

-- calls take at least a byte, the names differ, and what is open is there
pub record IsSoundFolder (m : Inside) : Type 0 where
  pub chunk : 0 < m.chunk
  pub names : AllNamesDiffer m.files.items
  pub reading : IfSome (option_map place_of m.reading) (λ r. r.0 < length m.files.items)
  pub writing : IfSome m.writing (λ w. w < length m.files.items)
