-- What the writes of a run leave, by the first that failed.
use Rattle.std.proofs.Common.{◌≡◌, ◌≢◌, ◌⊎◌, inl, inr, ℕ, ◌+◌, ◌<◌, ◌≤◌, suc, true, List, [], ◌∷◌, ◌++◌, length, take, drop, get_or, None, Some, Ok, Err, All, refl, sym, ap, subst, ◌∙◌, arith}
use Rattle.std.proofs.lemmas.List.{get_or_append_left, take_more, take_all, get_or-take, get_or_default, length-append, length-take}
use Rattle.std.proofs.lemmas.List.Elements.{All-append, All-cons}
use Rattle.std.proofs.Math.Seq.{get_or-append_seam, split_at}
use Rattle.mesh_io.specs.Folder.{FolderState, Files, Puts, SameFiles, WriteCall}
use Rattle.mesh_io.specs.Sink.{SinkState}
use Rattle.mesh_io.specs.Write.{WritesFile, WritesAll, HoldsFront}
use Rattle.mesh_io.specs.declared.folder.Failed.{Failed}
use Rattle.mesh_io.proofs.Calls.{WriteCall-trans, WriteRose-after}
use Rattle.printing.specs.Printed.{Says, write_failed_line}
use Rattle.outputs.specs.declared.output.OutFile.{OutFile}
use Rattle.outputs.specs.declared.output.Texts.{Texts}
use Rattle.outputs.specs.Output.{NamesDiffer, Holds, IsOther, AreWhole, last_written, IsCutAt, IsFileFault, WritesFiles, Writes}

-- ---- all of a list with one more
all_front : {X : Type 0} (P : X → Type 0) (xs : List X) (y : X) → All P (xs ++ y ∷ []) → All P xs
all_front P xs y h = λ k d lt. subst P (get_or_append_left xs (y ∷ []) d k lt) (h k d (omega (arith, length-append xs (y ∷ []), lt)))

all_last : {X : Type 0} (P : X → Type 0) (xs : List X) (y : X) → All P (xs ++ y ∷ []) → P y
all_last P xs y h = subst P (get_or-append_seam xs y [] y) (h (length xs) y (omega (arith, length-append xs (y ∷ []))))

all_more : {X : Type 0} (P : X → Type 0) (xs : List X) (y : X) → All P xs → P y → All P (xs ++ y ∷ [])
all_more P xs y h one = All-append P xs (y ∷ []) h (All-cons P y [] one (λ k d lt. absurd (omega (arith, lt))))

-- ---- one more file
last_more : (name : List ℕ) (fs : List OutFile) (file : OutFile) → last_written name (fs ++ file ∷ []) ≡ file.name
last_more name [] file = refl
last_more name (f ∷ fs) file = last_more f.name fs file

-- the earlier files keep their texts
still : (earlier : List OutFile) (file : OutFile) (mid new : Files) → IsOther earlier file.name → ((name : List ℕ) → name ≢ file.name → new name ≡ mid name) → All (Holds mid) earlier → All (Holds new) earlier
still earlier file mid new other elsewhere each = λ k d lt. elsewhere (get_or earlier k d).name (λ e. other k d lt (sym e)) ∙ each k d lt

whole_more : (earlier : List OutFile) (file : OutFile) (old mid new : Files) → IsOther earlier file.name → AreWhole earlier old mid → Puts file.name file.text mid new → AreWhole (earlier ++ file ∷ []) old new
whole_more earlier file old mid new other whole puts = record {
  each = all_more (Holds new) earlier file (still earlier file mid new other puts.elsewhere whole.each) puts.here;
  others = λ name h. puts.elsewhere name (all_last (λ (f : OutFile). name ≢ f.name) earlier file h) ∙ whole.others name (all_front (λ (f : OutFile). name ≢ f.name) earlier file h);
}

-- ---- the files so far
-- these were written, one after the other
pub record SoFar (outs : List OutFile) (old new : FolderState) : Type 0 where
  pub call : WriteCall old new
  pub whole : old.told ≡ true → AreWhole outs old.files new.files
  pub writing : old.told ≡ true → new.writing ≡ last_written old.writing outs

pub begun : (old : FolderState) → SoFar [] old old
begun old = record {
  call = record {
    kind = record { told = refl; may_fail_reading = refl; may_fail_writing = refl };
    count = record { kept = omega arith; ends = omega arith };
    no_fault = λ never. refl;
    other_count = refl;
    opened = refl;
    reading = refl;
  };
  whole = λ told. record { each = λ k d lt. absurd (omega (arith, lt)); others = λ name h. refl };
  writing = λ told. refl;
}

-- the name of a file is that of none before it
is_other : (outs : List OutFile) (i : ℕ) (file : OutFile) → file ≡ get_or outs i file → NamesDiffer outs → i < length outs → IsOther (take i outs) file.name
is_other outs i file is differ lt =
    λ k d below same.
    let less : k < i = omega (arith, below, length-take i outs, lt) in
    let moved : get_or (take i outs) k d ≡ get_or outs k file = get_or-take i outs k d less ∙ get_or_default outs k d file (omega (arith, less, lt)) in
    differ k i file less lt (sym (ap (λ (f : OutFile). f.name) (sym is) ∙ same ∙ ap (λ (f : OutFile). f.name) moved))

more : {T : Type 0} (earlier : List OutFile) (file : OutFile) (old mid new : FolderState) (x : T) → IsOther earlier file.name → SoFar earlier old mid → WritesFile mid new file.name file.text (Ok x) → SoFar (earlier ++ file ∷ []) old new
more earlier file old mid new x other far writes = record {
  call = WriteCall-trans old mid new far.call writes.call;
  whole = λ told. whole_more earlier file old.files mid.files new.files other (far.whole told) (writes.ok.files (far.call.kind.told ∙ told));
  writing = λ told. writes.ok.writing (far.call.kind.told ∙ told) ∙ sym (last_more old.writing earlier file);
}

pub goes_on : {T : Type 0} (outs : List OutFile) (i : ℕ) (file : OutFile) (old mid new : FolderState) (x : T) → file ≡ get_or outs i file → NamesDiffer outs → i < length outs → SoFar (take i outs) old mid → WritesFile mid new file.name file.text (Ok x) → SoFar (take (i + 1) outs) old new
goes_on outs i file old mid new x is differ lt far writes =
    subst (λ fs. SoFar fs old new) (sym (take_more outs i file lt ∙ ap (λ f. take i outs ++ f ∷ []) (sym is))) (more (take i outs) file old mid new x (is_other outs i file is differ lt) far writes)

-- all of them
pub all_files : (outs : List OutFile) (i : ℕ) (old new : FolderState) → length outs ≤ i → SoFar (take i outs) old new → WritesFiles outs old new None
all_files outs i old new all far = record {
  call = far.call;
  whole = λ none told. subst (λ fs. AreWhole fs old.files new.files) (take_all i outs all) (far.whole told);
  cut = λ file some. (cc);
}

-- ---- a file that was not written whole
cut_at : (earlier : List OutFile) (file : OutFile) (old mid new : FolderState) → IsOther earlier file.name → mid.told ≡ true → AreWhole earlier old.files mid.files → mid.writing ≡ last_written old.writing earlier → (SameFiles mid new ⊎ HoldsFront mid new file.name file.text) → IsCutAt earlier file old new
cut_at earlier file old mid new other told whole writing (inl same) = record {
  each = still earlier file mid.files new.files other (λ name ne i. same.files i name) whole.each;
  cut = inl (record { here = (λ i. same.files i file.name) ∙ whole.others file.name other; writing = same.writing.writing ∙ writing });
  others = λ name h ne. (λ i. same.files i name) ∙ whole.others name h;
}
cut_at earlier file old mid new other told whole writing (inr front) =
    let puts = front.1.files told in
    record {
      each = still earlier file mid.files new.files other puts.elsewhere whole.each;
      cut = inr (record { here = (front.0, puts.here); writing = front.1.writing told });
      others = λ name h ne. puts.elsewhere name ne ∙ whole.others name h;
    }

same_file : (file other : OutFile) → Some file ≡ Some other → file ≡ other
same_file file other e = cc

pub fails : {T : Type 0} (outs : List OutFile) (i : ℕ) (file : OutFile) (old mid new : FolderState) (e : Failed) → file ≡ get_or outs i file → NamesDiffer outs → i < length outs → SoFar (take i outs) old mid → WritesFile {T = T} mid new file.name file.text (Err e) → WritesFiles outs old new (Some file)
fails outs i file old mid new e is differ lt far writes = record {
  call = WriteCall-trans old mid new far.call writes.call;
  whole = λ none told. (cc);
  cut = λ other some. subst (λ f. IsFileFault outs f old new) (same_file file other some) fault;
}
  where
    fault : IsFileFault outs file old new
    fault = record {
      earlier = take i outs;
      later = drop (suc i) outs;
      splits = split_at outs i file lt ∙ ap (λ f. take i outs ++ f ∷ drop (suc i) outs) (sym is);
      rose = WriteRose-after old mid new far.call writes.failed;
      files = λ told. cut_at (take i outs) file old mid new (is_other outs i file is differ lt) (far.call.kind.told ∙ told) (far.whole told) (far.writing told) writes.err;
    }

-- ---- all writes
pub cut_at_file : (texts : Texts) (old new : FolderState) (before after : SinkState) (file : OutFile) → WritesFiles texts.files old new (Some file) → Says before after (write_failed_line file.name) → Writes texts old new before after 5
cut_at_file texts old new before after file writes says = record {
  folder = writes.call;
  sink = says.call;
  known = inr refl;
  done = λ zero_is. (cc);
  cut = λ five. inl (record { file = file; fault = writes.cut file refl; line = says });
}

pub cut_at_output : {T : Type 0} (texts : Texts) (old new : FolderState) (before after : SinkState) (e : Failed) → WritesFiles texts.files old new None → WritesAll {T = T} before after texts.line (Err e) → Writes texts old new before after 5
cut_at_output texts old new before after e writes line = record {
  folder = writes.call;
  sink = line.call;
  known = inr refl;
  done = λ zero_is. (cc);
  cut = λ five. inr (record { rose = line.failed; files = writes.whole refl; printed = line.err });
}

pub all_written : {T : Type 0} (texts : Texts) (old new : FolderState) (before after : SinkState) (x : T) → WritesFiles texts.files old new None → WritesAll before after texts.line (Ok x) → Writes texts old new before after 0
all_written texts old new before after x writes line = record {
  folder = writes.call;
  sink = line.call;
  known = inl refl;
  done = λ zero_is. record { files = writes.whole refl; line = line.ok };
  cut = λ five. (cc);
}
