-- A front of the bytes has been written.
use Rattle.std.proofs.Common.{◌≡◌, ℕ, ◌+◌, List, [], ◌++◌, take, drop, Some, Ok, sym, ◌∙◌, ap, append_assoc, unwrap_or}
use Rattle.std.proofs.lemmas.List.{drop-drop}
use Rattle.std.proofs.Math.Seq.{take-add}
use Rattle.mesh_io.specs.Folder.{FolderState, IsCreated, WriteCall, WritesSome}
use Rattle.mesh_io.specs.Sink.{SinkState, SinkCall, Appended, Writes}
use Rattle.mesh_io.proofs.Calls.{SinkCall-trans, WriteCall-trans}

-- the next part of the bytes
next_part : (n k : ℕ) (bytes rest : List ℕ) → rest ≡ drop n bytes → take (n + k) bytes ≡ take n bytes ++ take k rest
next_part n k bytes rest e = take-add n k bytes ∙ ap (λ r. take n bytes ++ take k r) (sym e)

next_rest : (n k : ℕ) (bytes rest : List ℕ) → rest ≡ drop n bytes → drop k rest ≡ drop (n + k) bytes
next_rest n k bytes rest e = ap (drop k) e ∙ drop-drop k n bytes

-- of the bytes all but the rest was appended since the first state
pub record HasAppended (first now : SinkState) (bytes rest : List ℕ) : Type 0 where
  pub call : SinkCall first now
  pub quiet : now.faults ≡ first.faults
  pub done : ℕ
  pub rest_is : rest ≡ drop done bytes
  pub appended : Appended first now (take done bytes)

pub appends_on : (first old new : SinkState) (bytes rest after : List ℕ) (n : ℕ) → HasAppended first old bytes rest → Writes old new rest (Ok n) → after ≡ drop n rest → HasAppended first new bytes after
appends_on first old new bytes rest after n had write is = record {
  call = SinkCall-trans first old new had.call write.call;
  quiet = write.quiet ∙ had.quiet;
  done = had.done + n;
  rest_is = is ∙ next_rest had.done n bytes rest had.rest_is;
  appended = λ told. write.appended (had.call.told ∙ told) ∙ ap (λ bs. bs ++ take n rest) (had.appended told) ∙ append_assoc first.bytes (take had.done bytes) (take n rest) ∙ ap (λ bs. first.bytes ++ bs) (sym (next_part had.done n bytes rest had.rest_is));
}

-- of the bytes all but the rest was written to the new file since the first state
pub record HasWritten (first now : FolderState) (name bytes rest : List ℕ) : Type 0 where
  pub call : WriteCall first now
  pub quiet : now.write_faults ≡ first.write_faults
  pub done : ℕ
  pub rest_is : rest ≡ drop done bytes
  pub file : IsCreated first now name (take done bytes)

pub writes_on : (first old new : FolderState) (name bytes rest after : List ℕ) (n : ℕ) → HasWritten first old name bytes rest → WritesSome old new rest (Ok n) → after ≡ drop n rest → HasWritten first new name bytes after
writes_on first old new name bytes rest after n had write is = record {
  call = WriteCall-trans first old new had.call write.call;
  quiet = write.quiet ∙ had.quiet;
  done = had.done + n;
  rest_is = is ∙ next_rest had.done n bytes rest had.rest_is;
  file = record {
    created = write.writing.created ∙ had.file.created;
    writing = λ told. write.writing.writing ∙ had.file.writing told;
    files = λ told.
        let puts = write.appended (had.call.kind.told ∙ told) in
        let before = had.file.files told in
        let same : old.writing ≡ name = had.file.writing told in
        let content : unwrap_or (old.files old.writing) [] ++ take n rest ≡ take (had.done + n) bytes =
        ap (λ w. unwrap_or (old.files w) [] ++ take n rest) same ∙ ap (λ o. unwrap_or o [] ++ take n rest) before.here ∙ sym (next_part had.done n bytes rest had.rest_is) in
        record {
          here = ap new.files (sym same) ∙ puts.here ∙ ap Some content;
          elsewhere = λ other ne. puts.elsewhere other (λ e. ne (e ∙ same)) ∙ before.elsewhere other ne;
        };
    same_place = λ told ne. write.place ∙ had.file.same_place told ne;
    start = λ told opened same. write.place ∙ had.file.start told opened same;
  };
}
