-- Reading a file piece by piece.
use Rattle.std.proofs.Common.{◌≡◌, ℕ, ◌+◌, true, List, [], ◌++◌, Vec, length, take, drop, Some, Result, Ok, Err, sym, ◌∙◌, ap, arith, append_assoc, unwrap_or, length-append, length-take}
use Rattle.std.proofs.lemmas.List.{take-append-drop, drop-drop}
use Rattle.std.specs.declared.alloc.Global.{Global}
use Rattle.mesh_io.specs.Folder.{FolderState, ReadCall, IsOpened, Reads, left, content_of}
use Rattle.mesh_io.specs.Read.{ReadsAll, ReadsRest}
use Rattle.mesh_io.proofs.Calls.{ReadCall-trans, ReadRose-after}
use Rattle.mesh_io.specs.declared.read.ReadIssue.{ReadIssue}

-- the items and what is left now make up what was left first
pub record IsFront (first now : FolderState) (items : List ℕ) : Type 0 where
  pub joined : items ++ left now ≡ left first
  pub place : now.place ≡ first.place + length items

-- what holds after each piece
pub record HasRead (first now : FolderState) (items : List ℕ) : Type 0 where
  pub call : ReadCall first now
  pub quiet : now.read_faults ≡ first.read_faults
  pub opened : now.opened ≡ true
  pub front : first.told ≡ true → IsFront first now items

-- what is left after a piece
left-after : (old new : FolderState) (into : List ℕ) (n : ℕ) → old.told ≡ true → Reads old new into (Ok n) → left new ≡ drop n (left old)
left-after old new into n told read =
    ap (λ fs. drop new.place (content_of fs new.reading)) read.call.files ∙ ap (λ r. drop new.place (content_of old.files r)) read.reading ∙ ap (λ p. drop p (content_of old.files old.reading)) (read.given told).moved ∙ sym (drop-drop n old.place (content_of old.files old.reading))

pub goes_on : (first old new : FolderState) (items into after : List ℕ) (n : ℕ) → HasRead first old items → Reads old new into (Ok n) → after ≡ items ++ take n into → HasRead first new after
goes_on first old new items into after n had read is = record {
  call = ReadCall-trans first old new had.call read.call;
  quiet = read.quiet ∙ had.quiet;
  opened = read.opened ∙ had.opened;
  front = λ told.
      let front = had.front told in
      let given = read.given (had.call.kind.told ∙ told) in
      record {
        joined = ap (λ xs. xs ++ left new) is ∙ ap (λ l. (items ++ take n into) ++ l) (left-after old new into n (had.call.kind.told ∙ told) read) ∙ ap (λ t. (items ++ t) ++ drop n (left old)) given.bytes ∙ append_assoc items (take n (left old)) (drop n (left old)) ∙ ap (λ l. items ++ l) (take-append-drop n (left old)) ∙ front.joined;
        place = omega (arith, given.moved, front.place, ap length is, length-append items (take n into), ap length given.bytes, length-take n (left old), given.there);
      };
}

-- right after the opening all of the file is left
left-opened : (first old : FolderState) (name content : List ℕ) → first.told ≡ true → ReadCall first old → IsOpened first old name → first.files name ≡ Some content → left old ≡ content
left-opened first old name content told call opened there =
    ap (λ p. drop p (content_of old.files old.reading)) (opened.place told) ∙ ap (λ r. content_of old.files r) (opened.reading told) ∙ ap (λ fs. content_of fs name) call.files ∙ ap (λ o. unwrap_or o []) there

-- a file was opened, and the rest of it read
pub whole : (first old new : FolderState) (name : List ℕ) (limit : ℕ) (result : Result (Vec ℕ Global) ReadIssue) → ReadCall first old → old.read_faults ≡ first.read_faults → IsOpened first old name → ReadsRest old new limit result → ReadsAll first new name limit result
whole first old new name limit (Ok bytes) call quiet opened rest = record {
  call = ReadCall-trans first old new call rest.call;
  taken = λ told. omega (arith, rest.taken (call.kind.told ∙ told), opened.place told);
  ok = λ told.
      let there = opened.there told in
      there.1 ∙ ap Some (sym (left-opened first old name there.0 told call opened there.1) ∙ sym (rest.ok (call.kind.told ∙ told)));
  quiet = rest.quiet ∙ quiet;
  quiet_too_long = λ is. cc;
  quiet_memory = λ is. cc;
  fits = rest.fits;
  too_long = λ is. cc;
  missing = λ is. cc;
  failed = λ is. cc;
  memory = λ is. cc;
}
whole first old new name limit (Err issue) call quiet opened rest = record {
  call = ReadCall-trans first old new call rest.call;
  taken = λ told. omega (arith, rest.taken (call.kind.told ∙ told), opened.place told);
  ok = tt;
  quiet = tt;
  quiet_too_long = λ is. rest.quiet_too_long is ∙ quiet;
  quiet_memory = λ is. rest.quiet_memory is ∙ quiet;
  fits = tt;
  too_long = λ is told.
      let there = opened.there told in
      let longer = rest.too_long is (call.kind.told ∙ told) in
      (there.0, there.1, omega (arith, longer, ap length (left-opened first old name there.0 told call opened there.1)));
  missing = λ is. absurd (rest.missing is);
  failed = λ is. ReadRose-after first old new call (rest.failed is);
  memory = λ is told. opened.there told;
}
