-- Writes behind reads: what they leave, seen from before the reads.
use Rattle.std.proofs.Common.{◌≡◌, ◌⊎◌, inl, inr, ℕ, true, List, sym, ap, subst, ◌∙◌}
use Rattle.mesh_io.specs.Faults.{Rose}
use Rattle.mesh_io.specs.Folder.{FolderState, ReadCall, WriteRose}
use Rattle.mesh_io.specs.Sink.{SinkState, SinkRose}
use Rattle.outputs.specs.declared.output.OutFile.{OutFile}
use Rattle.outputs.specs.declared.output.Texts.{Texts}
use Rattle.outputs.specs.Output.{AreWhole, last_written, IsUncreated, IsCutShort, IsCutAt, IsFileFault, IsCutOff}

pub write_rose_of : (old mid new : FolderState) → ReadCall old mid → WriteRose mid new → WriteRose old new
write_rose_of old mid new call rose = record {
  may_fail = sym call.kind.may_fail_writing ∙ rose.may_fail;
  rose = subst (λ (n : ℕ). Rose n new.write_faults) call.other_count rose.rose;
}

-- what was not read has not been written
cut_at_of : (earlier : List OutFile) (file : OutFile) (old mid new : FolderState) → ReadCall old mid → IsCutAt earlier file mid new → IsCutAt earlier file old new
cut_at_of earlier file old mid new call cut = record {
  each = cut.each;
  cut = cause cut.cut;
  others = λ name h ne. cut.others name h ne ∙ (λ i. call.files i name);
}
  where
    cause : IsUncreated earlier file mid new ⊎ IsCutShort file new → IsUncreated earlier file old new ⊎ IsCutShort file new
    cause (inl none) = inl (record { here = none.here ∙ (λ i. call.files i file.name); writing = none.writing ∙ ap (λ name. last_written name earlier) call.writing.writing })
    cause (inr front) = inr front

file_fault_of : (outs : List OutFile) (file : OutFile) (old mid new : FolderState) → ReadCall old mid → IsFileFault outs file mid new → IsFileFault outs file old new
file_fault_of outs file old mid new call fault = record {
  earlier = fault.earlier;
  later = fault.later;
  splits = fault.splits;
  rose = write_rose_of old mid new call fault.rose;
  files = λ told. cut_at_of fault.earlier file old mid new call (fault.files (call.kind.told ∙ told));
}

pub whole_of : (outs : List OutFile) (old mid new : FolderState) → ReadCall old mid → (mid.told ≡ true → AreWhole outs mid.files new.files) → old.told ≡ true → AreWhole outs old.files new.files
whole_of outs old mid new call whole told = subst (λ f. AreWhole outs f new.files) call.files (whole (call.kind.told ∙ told))

pub cut_off_of : (texts : Texts) (old mid new : FolderState) (before after : SinkState) → ReadCall old mid → IsCutOff texts mid new before after → IsCutOff texts old new before after
cut_off_of texts old mid new before after call (inl at_file) = inl (record { file = at_file.file; fault = file_fault_of texts.files at_file.file old mid new call at_file.fault; line = at_file.line })
cut_off_of texts old mid new before after call (inr at_output) = inr (record { rose = at_output.rose; files = whole_of texts.files old mid new call at_output.files; printed = at_output.printed })

pub cause_of : (texts : Texts) (old new : FolderState) (before after : SinkState) → IsCutOff texts old new before after → WriteRose old new ⊎ SinkRose before after
cause_of texts old new before after (inl at_file) = inl at_file.fault.rose
cause_of texts old new before after (inr at_output) = inr at_output.rose
