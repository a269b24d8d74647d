-- Printed lines.
use Rattle.std.specs.Prelude.{◌⊎◌, ℕ, List, ◌++◌, take, codes}
use Rattle.mesh_io.specs.Sink.{SinkState, SinkCall, SinkRose, Appended}

-- the line was written, or after a fault a front of it
pub record Says (before after : SinkState) (line : List ℕ) : Type 0 where
  pub call : SinkCall before after
  pub printed : Appended before after line ⊎ (SinkRose before after × ((n : ℕ) × Appended before after (take n line)))

-- ---- the lines of the refusals
-- a line that names a file
abbrev pub named : List ℕ → List ℕ → List ℕ
named name rest = codes "tetsoup: " ++ name ++ rest

abbrev pub too_long_line : List ℕ → List ℕ
too_long_line name = named name (codes ": too long\n")

abbrev pub missing_line : List ℕ → List ℕ
missing_line name = named name (codes ": no such file\n")

abbrev pub read_failed_line : List ℕ → List ℕ
read_failed_line name = named name (codes ": read failed\n")

abbrev pub write_failed_line : List ℕ → List ℕ
write_failed_line name = named name (codes ": write failed\n")

abbrev pub memory_line : List ℕ
memory_line = codes "tetsoup: out of memory\n"
