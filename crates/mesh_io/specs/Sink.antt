-- What an output is, and what a write does to it.
use Rattle.std.specs.Prelude.{◌≡◌, ℕ, ◌<◌, ◌≤◌, Bool, true, false, List, ◌++◌, length, take, Result, IfOk, OnOk, OnErr}
use Rattle.mesh_io.specs.Faults.{Rose, OnlyRises}
use Rattle.mesh_io.specs.declared.folder.Failed.{Failed}

-- what an output is
pub record SinkState : Type 0 where
  -- whether the sink tells what was written; only then the bytes below mean anything
  pub told : Bool
  -- whether a write may ever count a fault
  pub may_fail : Bool
  pub bytes : List ℕ
  pub faults : ℕ

-- the count rose, which it never does where no write may fail
pub record SinkRose (old new : SinkState) : Type 0 where
  pub may_fail : old.may_fail ≡ true
  pub rose : Rose old.faults new.faults

-- what holds after calls on a sink, whatever they answer
pub record SinkCall (old new : SinkState) : Type 0 where
  pub told : new.told ≡ old.told
  pub may_fail : new.may_fail ≡ old.may_fail
  pub count : OnlyRises old.faults new.faults
  pub no_fault : old.may_fail ≡ false → new.faults ≡ old.faults

-- these bytes were appended, where that is told
abbrev pub Appended : SinkState → SinkState → List ℕ → Type 0
Appended old new bytes = old.told ≡ true → new.bytes ≡ old.bytes ++ bytes

-- one `write`
pub record Writes (old new : SinkState) (bytes : List ℕ) (result : Result ℕ Failed) : Type 0 where
  pub call : SinkCall old new
  pub within : IfOk result (λ n. n ≤ length bytes)
  pub some : IfOk result (λ n. 0 < length bytes → 0 < n)
  pub appended : IfOk result (λ n. Appended old new (take n bytes))
  pub quiet : OnOk result (new.faults ≡ old.faults)
  pub failed : OnErr result (SinkRose old new)
  pub err : OnErr result (new.bytes ≡ old.bytes)
