-- What is found of one input after another.
use Rattle.std.proofs.Common.{◌≡◌, inl, inr, ℕ, true, List, Result, Ok, Err, refl, subst, ◌∙◌, arith}
use Rattle.mesh_io.specs.Folder.{FolderState, Files, ReadCall}
use Rattle.mesh_io.proofs.Calls.{ReadCall-trans, ReadRose-after}
use Rattle.inputs.specs.declared.issue.InputIssue.{InputIssue}
use Rattle.inputs.specs.declared.issue.InputIssue.TheVariants as issues
use Rattle.inputs.specs.Readings.{Found, Gives, Missing, Refused, Reaches, Inputs, ◌>>=◌, known}
use Rattle.inputs.specs.Answers.{IsMissing, HasFailed, IsRefusedWith, Explains, Reads}

-- ---- one input behind another
told_of : (old mid : FolderState) → ReadCall old mid → old.told ≡ true → mid.told ≡ true
told_of old mid call told = call.kind.told ∙ told

-- what the files give when the first is behind
behind : {X Y : Type 0} (first : Inputs X) (next : X → Inputs Y) (files : Files) (x : X) (name : List ℕ) → first files (Gives x) → next x files (Missing name) → (first >>= next) files (Missing name)
unfolding ◌>>=◌
behind first next files x name gives missing = inr (x, gives, missing)

gives_behind : {X Y : Type 0} (first : Inputs X) (next : X → Inputs Y) (files : Files) (x : X) (y : Y) → first files (Gives x) → next x files (Gives y) → (first >>= next) files (Gives y)
unfolding ◌>>=◌
gives_behind first next files x y gives more = (x, gives, more)

refused_behind : {X Y : Type 0} (first : Inputs X) (next : X → Inputs Y) (files : Files) (x : X) (line : List ℕ) → first files (Gives x) → next x files (Refused line) → (first >>= next) files (Refused line)
unfolding ◌>>=◌
refused_behind first next files x line gives refused = inr (x, gives, refused)

reaches_behind : {X Y : Type 0} (first : Inputs X) (next : X → Inputs Y) (files : Files) (x : X) (name : List ℕ) → first files (Gives x) → next x files (Reaches name) → (first >>= next) files (Reaches name)
unfolding ◌>>=◌
reaches_behind first next files x name gives reaches = inr (x, gives, reaches)

-- the files of a folder that was only read
same_files : {X : Type 0} (inputs : Inputs X) (old mid : FolderState) (found : Found X) → ReadCall old mid → inputs mid.files found → inputs old.files found
same_files inputs old mid found call h = subst (λ f. inputs f found) call.files h

pub record IsBehind {X : Type 0} (first : Inputs X) (old mid : FolderState) (x : X) : Type 0 where
  pub call : ReadCall old mid
  pub gives : old.told ≡ true → first old.files (Gives x)
  pub quiet : mid.read_faults ≡ old.read_faults

missing_of : {X Y : Type 0} (first : Inputs X) (next : X → Inputs Y) (old mid new : FolderState) (x : X) (name : List ℕ) → IsBehind first old mid x → IsMissing (next x) mid new name → IsMissing (first >>= next) old new name
missing_of first next old mid new x name b m = record {
  found = λ told. behind first next old.files x name (b.gives told) (same_files (next x) old mid (Missing name) b.call (m.found (told_of old mid b.call told)));
  quiet = λ told. m.quiet (told_of old mid b.call told) ∙ b.quiet;
  untold = λ untold. ReadRose-after old mid new b.call (m.untold (b.call.kind.told ∙ untold));
}

failed_of : {X Y : Type 0} (first : Inputs X) (next : X → Inputs Y) (old mid new : FolderState) (x : X) (name : List ℕ) → IsBehind first old mid x → HasFailed (next x) mid new name → HasFailed (first >>= next) old new name
failed_of first next old mid new x name b f = record {
  reaches = λ told. reaches_behind first next old.files x name (b.gives told) (same_files (next x) old mid (Reaches name) b.call (f.reaches (told_of old mid b.call told)));
  rose = ReadRose-after old mid new b.call f.rose;
}

refused_of : {X Y : Type 0} (first : Inputs X) (next : X → Inputs Y) (old mid : FolderState) (x : X) (line : List ℕ) → IsBehind first old mid x → IsRefusedWith (next x) mid line → IsRefusedWith (first >>= next) old line
refused_of first next old mid x line b r told = refused_behind first next old.files x line (b.gives told) (same_files (next x) old mid (Refused line) b.call (r (told_of old mid b.call told)))

explains_behind : {X Y : Type 0} (first : Inputs X) (next : X → Inputs Y) (old mid new : FolderState) (x : X) (issue : InputIssue) → IsBehind first old mid x → Explains (next x) mid new issue → Explains (first >>= next) old new issue
explains_behind first next old mid new x (issues.Missing name) b e = missing_of first next old mid new x name.now b e
explains_behind first next old mid new x (issues.Failed name) b e = failed_of first next old mid new x name.now b e
explains_behind first next old mid new x (issues.TooLong name) b e = refused_of first next old mid x _ b e
explains_behind first next old mid new x (issues.Off kind place) b e = refused_of first next old mid x _ b e
explains_behind first next old mid new x (issues.TooWide extent) b e = refused_of first next old mid x _ b e
explains_behind first next old mid new x (issues.Mesh line) b e = refused_of first next old mid x _ b e
explains_behind first next old mid new x (issues.Report line) b e = refused_of first next old mid x _ b e
explains_behind first next old mid new x issues.Memory b e = tt

is_behind : {X : Type 0} (first : Inputs X) (old mid : FolderState) (x : X) → Reads first old mid (Ok x) → IsBehind first old mid x
is_behind first old mid x r = record { call = r.call; gives = r.gives; quiet = r.quiet }

-- the first gives a value, and the others were read behind it
pub and_then : {X Y : Type 0} (first : Inputs X) (next : X → Inputs Y) (old mid new : FolderState) (x : X) (result : Result Y InputIssue) → Reads first old mid (Ok x) → Reads (next x) mid new result → Reads (first >>= next) old new result
and_then first next old mid new x (Ok y) r s = record {
  call = ReadCall-trans old mid new r.call s.call;
  gives = λ told. gives_behind first next old.files x y (r.gives told) (same_files (next x) old mid (Gives y) r.call (s.gives (told_of old mid r.call told)));
  quiet = s.quiet ∙ r.quiet;
  why = tt;
}
and_then first next old mid new x (Err issue) r s = record {
  call = ReadCall-trans old mid new r.call s.call;
  gives = tt;
  quiet = tt;
  why = explains_behind first next old mid new x issue (is_behind first old mid x r) s.why;
}

-- ---- the first does not serve
missing_first : {X Y : Type 0} (first : Inputs X) (next : X → Inputs Y) (old new : FolderState) (name : List ℕ) → IsMissing first old new name → IsMissing (first >>= next) old new name
unfolding ◌>>=◌
missing_first first next old new name m = record { found = λ told. inl (m.found told); quiet = m.quiet; untold = m.untold }

failed_first : {X Y : Type 0} (first : Inputs X) (next : X → Inputs Y) (old new : FolderState) (name : List ℕ) → HasFailed first old new name → HasFailed (first >>= next) old new name
unfolding ◌>>=◌
failed_first first next old new name f = record { reaches = λ told. inl (f.reaches told); rose = f.rose }

refused_first : {X Y : Type 0} (first : Inputs X) (next : X → Inputs Y) (old : FolderState) (line : List ℕ) → IsRefusedWith first old line → IsRefusedWith (first >>= next) old line
unfolding ◌>>=◌
refused_first first next old line r told = inl (r told)

explains_first : {X Y : Type 0} (first : Inputs X) (next : X → Inputs Y) (old new : FolderState) (issue : InputIssue) → Explains first old new issue → Explains (first >>= next) old new issue
explains_first first next old new (issues.Missing name) e = missing_first first next old new name.now e
explains_first first next old new (issues.Failed name) e = failed_first first next old new name.now e
explains_first first next old new (issues.TooLong name) e = refused_first first next old _ e
explains_first first next old new (issues.Off kind place) e = refused_first first next old _ e
explains_first first next old new (issues.TooWide extent) e = refused_first first next old _ e
explains_first first next old new (issues.Mesh line) e = refused_first first next old _ e
explains_first first next old new (issues.Report line) e = refused_first first next old _ e
explains_first first next old new issues.Memory e = tt

pub at_first : {X Y : Type 0} (first : Inputs X) (next : X → Inputs Y) (old new : FolderState) (issue : InputIssue) → Reads first old new (Err issue) → Reads {X = Y} (first >>= next) old new (Err issue)
at_first first next old new issue r = record { call = r.call; gives = tt; quiet = tt; why = explains_first first next old new issue r.why }

-- ---- what is known without a read
pub no_call : (s : FolderState) → ReadCall s s
no_call s = record {
  kind = record { told = refl; may_fail_reading = refl; may_fail_writing = refl };
  count = record { kept = omega arith; ends = omega arith };
  no_fault = λ never. refl;
  other_count = refl;
  files = refl;
  writing = record { created = refl; writing = refl };
}

pub known_value : {X : Type 0} (r : Result X (List ℕ)) (s : FolderState) (x : X) → r ≡ Ok x → Reads (known r) s s (Ok x)
known_value r s x is = record { call = no_call s; gives = λ told. is; quiet = refl; why = tt }

pub known_issue : {X : Type 0} (r : Result X (List ℕ)) (s : FolderState) (issue : InputIssue) → Explains (known r) s s issue → Reads {X = X} (known r) s s (Err issue)
known_issue r s issue e = record { call = no_call s; gives = tt; quiet = tt; why = e }

-- memory ran out before anything was read
pub no_reads : {X : Type 0} (inputs : Inputs X) (s : FolderState) → Reads {X = X} inputs s s (Err issues.Memory)
no_reads inputs s = record { call = no_call s; gives = tt; quiet = tt; why = tt }
