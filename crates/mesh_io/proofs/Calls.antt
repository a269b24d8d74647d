-- Calls one after the other.
use Rattle.std.proofs.Common.{ℕ, sym, ◌∙◌, arith}
use Rattle.mesh_io.specs.Faults.{OnlyRises}
use Rattle.mesh_io.specs.Folder.{FolderState, SameKind, ReadCall, ReadRose, WriteCall, WriteRose}
use Rattle.mesh_io.specs.Sink.{SinkState, SinkCall, SinkRose}

pub OnlyRises-trans : (first old new : ℕ) → OnlyRises first old → OnlyRises old new → OnlyRises first new
OnlyRises-trans first old new before call = record {
  kept = omega (arith, before.kept, call.kept);
  ends = omega (arith, before.ends, call.ends);
}

pub SameKind-trans : (first old new : FolderState) → SameKind first old → SameKind old new → SameKind first new
SameKind-trans first old new before kind = record {
  told = kind.told ∙ before.told;
  may_fail_reading = kind.may_fail_reading ∙ before.may_fail_reading;
  may_fail_writing = kind.may_fail_writing ∙ before.may_fail_writing;
}

pub ReadCall-trans : (first old new : FolderState) → ReadCall first old → ReadCall old new → ReadCall first new
ReadCall-trans first old new before call = record {
  kind = SameKind-trans first old new before.kind call.kind;
  count = OnlyRises-trans first.read_faults old.read_faults new.read_faults before.count call.count;
  no_fault = λ never. call.no_fault (before.kind.may_fail_reading ∙ never) ∙ before.no_fault never;
  other_count = call.other_count ∙ before.other_count;
  files = call.files ∙ before.files;
  writing = record {
    created = call.writing.created ∙ before.writing.created;
    writing = call.writing.writing ∙ before.writing.writing;
  };
}

pub WriteCall-trans : (first old new : FolderState) → WriteCall first old → WriteCall old new → WriteCall first new
WriteCall-trans first old new before call = record {
  kind = SameKind-trans first old new before.kind call.kind;
  count = OnlyRises-trans first.write_faults old.write_faults new.write_faults before.count call.count;
  no_fault = λ never. call.no_fault (before.kind.may_fail_writing ∙ never) ∙ before.no_fault never;
  other_count = call.other_count ∙ before.other_count;
  opened = call.opened ∙ before.opened;
  reading = call.reading ∙ before.reading;
}

pub SinkCall-trans : (first old new : SinkState) → SinkCall first old → SinkCall old new → SinkCall first new
SinkCall-trans first old new before call = record {
  told = call.told ∙ before.told;
  may_fail = call.may_fail ∙ before.may_fail;
  count = OnlyRises-trans first.faults old.faults new.faults before.count call.count;
  no_fault = λ never. call.no_fault (before.may_fail ∙ never) ∙ before.no_fault never;
}

-- a count that rose later, or earlier, rose on the whole
pub ReadRose-after : (first old new : FolderState) → ReadCall first old → ReadRose old new → ReadRose first new
ReadRose-after first old new before rose = record {
  may_fail = sym before.kind.may_fail_reading ∙ rose.may_fail;
  rose = omega (arith, before.count.kept, rose.rose);
}

pub WriteRose-after : (first old new : FolderState) → WriteCall first old → WriteRose old new → WriteRose first new
WriteRose-after first old new before rose = record {
  may_fail = sym before.kind.may_fail_writing ∙ rose.may_fail;
  rose = omega (arith, before.count.kept, rose.rose);
}

pub SinkRose-after : (first old new : SinkState) → SinkCall first old → SinkRose old new → SinkRose first new
SinkRose-after first old new before rose = record {
  may_fail = sym before.may_fail ∙ rose.may_fail;
  rose = omega (arith, before.count.kept, rose.rose);
}
