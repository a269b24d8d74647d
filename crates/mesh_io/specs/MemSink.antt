-- Outputs in memory.
use Rattle.std.specs.Prelude.{ℕ, true, List}
use Rattle.mesh_io.specs.Sink.{SinkState}

-- what an output in memory is
pub record MemSinkState : Type 0 where
  -- what was written
  pub bytes : List ℕ
  -- the writes that fail, by their numbers, and the writes so far
  pub fails : List ℕ
  pub writes : ℕ
  pub faults : ℕ

-- what it is as an output: a write may fail, for want of memory
abbrev pub sink_state : MemSinkState → SinkState
sink_state m = record { told = true; may_fail = true; bytes = m.bytes; faults = m.faults }
