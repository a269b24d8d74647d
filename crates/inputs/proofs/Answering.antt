-- What is answered where inputs serve, and where they do not.
use Rattle.std.proofs.Common.{◌≡◌, ◌⊎◌, inl, inr, ℕ, ◌<◌, true, List, Err, refl, sym, ◌∙◌, arith, lit<}
use Rattle.mesh_io.specs.Folder.{FolderState, ReadCall, ReadRose}
use Rattle.mesh_io.specs.Sink.{SinkState}
use Rattle.printing.specs.Printed.{Says, memory_line}
use Rattle.inputs.specs.declared.issue.InputIssue.{InputIssue}
use Rattle.inputs.specs.declared.issue.InputIssue.TheVariants as issues
use Rattle.inputs.specs.Readings.{Inputs, Gives}
use Rattle.inputs.specs.Answers.{IsMissing, IsRefusedWith, Reads, NothingWritten, IsUnread, AnswersInputs, issue_line, issue_status}
use Rattle.inputs.proofs.Ones.{IsOne}

-- ---- other statuses
pub differ : {X : Type 0} (a b : ℕ) → a < b → a ≡ b → X
differ a b lt e = absurd (omega (arith, lt, e))

pub nothing : (old new : FolderState) → ReadCall old new → NothingWritten old new
nothing old new call = record { files = call.files; writing = call.writing }

-- ---- an input does not serve
answers_missing : {X : Type 0} (inputs : Inputs X) (old new : FolderState) (before after : SinkState) (name line : List ℕ) → IsOne inputs → ReadCall old new → IsMissing inputs old new name → (Says before after line) → IsUnread inputs old new before after → AnswersInputs inputs old new before after 4
answers_missing inputs old new before after name line one call m says unread = record {
  refused = λ e. differ 3 4 (lit< tt) (sym e);
  unread = λ e. unread;
  out_of_memory = λ e. differ 4 6 (lit< tt) e;
  refused_there = λ told l r. absurd (one.apart old.files name l (m.found told) r);
  missing_there = λ told other h. inl refl;
}

answers_failed : {X : Type 0} (inputs : Inputs X) (old new : FolderState) (before after : SinkState) → ReadRose old new → IsUnread inputs old new before after → AnswersInputs inputs old new before after 4
answers_failed inputs old new before after rose unread = record {
  refused = λ e. differ 3 4 (lit< tt) (sym e);
  unread = λ e. unread;
  out_of_memory = λ e. differ 4 6 (lit< tt) e;
  refused_there = λ told l r. inl rose;
  missing_there = λ told other h. inl refl;
}

answers_refused : {X : Type 0} (inputs : Inputs X) (old new : FolderState) (before after : SinkState) (line : List ℕ) → IsOne inputs → ReadCall old new → IsRefusedWith inputs old line → Says before after line → AnswersInputs inputs old new before after 3
answers_refused inputs old new before after line one call r says = record {
  refused = λ e. record { line = line; refused = r; printed = says; nothing = nothing old new call };
  unread = λ e. differ 3 4 (lit< tt) e;
  out_of_memory = λ e. differ 3 6 (lit< tt) e;
  refused_there = λ told l h. inr (inl refl);
  missing_there = λ told name h. absurd (one.apart old.files name line h (r told));
}

-- memory ran out
pub answers_memory : {X : Type 0} (inputs : Inputs X) (old new : FolderState) (before after : SinkState) → ReadCall old new → Says before after memory_line → AnswersInputs inputs old new before after 6
answers_memory inputs old new before after call says = record {
  refused = λ e. differ 3 6 (lit< tt) (sym e);
  unread = λ e. differ 4 6 (lit< tt) (sym e);
  out_of_memory = λ e. record { printed = says; nothing = nothing old new call };
  refused_there = λ told l r. inr (inr refl);
  missing_there = λ told name h. inr refl;
}

pub answers_issue : {X : Type 0} (inputs : Inputs X) (old new : FolderState) (before after : SinkState) (issue : InputIssue) → IsOne inputs → Reads {X = X} inputs old new (Err issue) → Says before after (issue_line issue) → AnswersInputs inputs old new before after (issue_status issue)
answers_issue inputs old new before after (issues.Missing name) one r says =
    answers_missing inputs old new before after name.now _ one r.call r.why says (record { name = name.now; cause = inl (says, r.why); nothing = nothing old new r.call })
answers_issue inputs old new before after (issues.Failed name) one r says =
    answers_failed inputs old new before after r.why.rose (record { name = name.now; cause = inr (says, r.why); nothing = nothing old new r.call })
answers_issue inputs old new before after (issues.TooLong name) one r says = answers_refused inputs old new before after _ one r.call r.why says
answers_issue inputs old new before after (issues.Off kind place) one r says = answers_refused inputs old new before after _ one r.call r.why says
answers_issue inputs old new before after (issues.TooWide extent) one r says = answers_refused inputs old new before after _ one r.call r.why says
answers_issue inputs old new before after (issues.Mesh line) one r says = answers_refused inputs old new before after _ one r.call r.why says
answers_issue inputs old new before after (issues.Report line) one r says = answers_refused inputs old new before after _ one r.call r.why says
answers_issue inputs old new before after issues.Memory one r says = answers_memory inputs old new before after r.call says

-- ---- all inputs serve, and the status is another one
pub answers_served : {X : Type 0} (inputs : Inputs X) (old new : FolderState) (before after : SinkState) (x : X) (status : ℕ) → IsOne inputs → (old.told ≡ true → inputs old.files (Gives x)) → ¬ (status ≡ 3) → ¬ (status ≡ 4) → ¬ (status ≡ 6) → AnswersInputs inputs old new before after status
answers_served inputs old new before after x status one gives not_three not_four not_six = record {
  refused = λ e. absurd (not_three e);
  unread = λ e. absurd (not_four e);
  out_of_memory = λ e. absurd (not_six e);
  refused_there = λ told l r. absurd (one.not_refused old.files x l (gives told) r);
  missing_there = λ told name m. absurd (one.not_missing old.files x name (gives told) m);
}

-- ---- the status of an issue
pub known_status : (issue : InputIssue) → (issue_status issue ≡ 3) ⊎ ((issue_status issue ≡ 4) ⊎ (issue_status issue ≡ 6))
known_status (issues.Missing name) = inr (inl refl)
known_status (issues.Failed name) = inr (inl refl)
known_status (issues.TooLong name) = inl refl
known_status (issues.Off kind place) = inl refl
known_status (issues.TooWide extent) = inl refl
known_status (issues.Mesh line) = inl refl
known_status (issues.Report line) = inl refl
known_status issues.Memory = inr (inr refl)

-- it is no other one
pub other_status : {X : Type 0} (issue : InputIssue) (status : ℕ) → ¬ (status ≡ 3) → ¬ (status ≡ 4) → ¬ (status ≡ 6) → issue_status issue ≡ status → X
other_status {X = X} issue status not_three not_four not_six e = cases (known_status issue)
  where
    cases : (issue_status issue ≡ 3) ⊎ ((issue_status issue ≡ 4) ⊎ (issue_status issue ≡ 6)) → X
    cases (inl k) = absurd (not_three (sym e ∙ k))
    cases (inr (inl k)) = absurd (not_four (sym e ∙ k))
    cases (inr (inr k)) = absurd (not_six (sym e ∙ k))

-- inputs that are accepted have none, but where a read failed or memory ran out
pub accepted_not : {X : Type 0} (inputs : Inputs X) (old new : FolderState) (issue : InputIssue) (x : X) → IsOne inputs → Reads {X = X} inputs old new (Err issue) → old.told ≡ true → inputs old.files (Gives x) → ReadRose old new ⊎ (issue_status issue ≡ 6)
accepted_not inputs old new (issues.Missing name) x one r told g = absurd (one.not_missing old.files x name.now g (r.why.found told))
accepted_not inputs old new (issues.Failed name) x one r told g = inl r.why.rose
accepted_not inputs old new (issues.TooLong name) x one r told g = absurd (one.not_refused old.files x _ g (r.why told))
accepted_not inputs old new (issues.Off kind place) x one r told g = absurd (one.not_refused old.files x _ g (r.why told))
accepted_not inputs old new (issues.TooWide extent) x one r told g = absurd (one.not_refused old.files x _ g (r.why told))
accepted_not inputs old new (issues.Mesh line) x one r told g = absurd (one.not_refused old.files x _ g (r.why told))
accepted_not inputs old new (issues.Report line) x one r told g = absurd (one.not_refused old.files x _ g (r.why told))
accepted_not inputs old new issues.Memory x one r told g = inr refl
