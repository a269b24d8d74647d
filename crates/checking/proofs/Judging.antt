-- What a check answers, by how far it came.
use Rattle.std.proofs.Common.{◌≡◌, ◌⊎◌, inl, inr, true, unwrap_or, Ok, Err, refl, sym, ap, subst, lit<}
use Rattle.mesh_io.specs.Folder.{FolderState, ReadRose}
use Rattle.mesh_io.specs.Sink.{SinkState, SinkRose, Appended}
use Rattle.mesh_io.specs.Write.{WritesAll}
use Rattle.mesh_io.specs.declared.folder.Failed.{Failed}
use Rattle.printing.specs.Printed.{Says, memory_line}
use Rattle.tet_words.specs.declared.job.CheckJob.{CheckJob}
use Rattle.inputs.specs.declared.issue.InputIssue.{InputIssue}
use Rattle.inputs.specs.Readings.{Gives}
use Rattle.inputs.specs.Texts.{SaysSoup, SaysMesh, SaysReport, soup_in}
use Rattle.inputs.specs.Answers.{Reads, issue_line, issue_status}
use Rattle.inputs.proofs.ForCallers.{IsOne, known-IsOne, file-IsOne, then-IsOne, soup-SaysOne, mesh-SaysOne, report-SaysOne, differ, nothing, answers_issue, answers_memory, answers_served, known_status, other_status, accepted_not}
use Rattle.cert_check.specs.declared.fault.Finding.{Finding}
use Rattle.cert_check.specs.declared.fault.Finding.TheVariants as findings
use Rattle.cert_check.specs.Faults.{IsFinding}
use Rattle.cert_check.specs.Sound.{IsSound}
use Rattle.cert_check.proofs.ForCallers.{one_finding}
use Rattle.checking.specs.declared.case.Case.{Case}
use Rattle.checking.specs.Cases.{check_inputs, judged_of}
use Rattle.checking.specs.Lines.{finding_line, finding_status}
use Rattle.checking.specs.Checks.{IsJudged, Checks}

-- ---- the files give one case
pub case-IsOne : (job : CheckJob) → IsOne (check_inputs job)
case-IsOne job =
    then-IsOne _ _ (file-IsOne job.input (SaysSoup job.digits) (soup-SaysOne job.digits)) (λ raw.
    then-IsOne _ _ (file-IsOne job.mesh (SaysMesh (unwrap_or job.digits 0)) (mesh-SaysOne (unwrap_or job.digits 0))) (λ mesh.
    then-IsOne _ _ (file-IsOne job.report SaysReport report-SaysOne) (λ report.
    then-IsOne _ _ (known-IsOne (soup_in report.epsilon report.cells raw)) (λ soup. known-IsOne _))))

-- ---- the inputs do not serve
pub refused : (job : CheckJob) (old new : FolderState) (before after : SinkState) (issue : InputIssue) → Reads {X = Case} (check_inputs job) old new (Err issue) → Says before after (issue_line issue) → Checks job old new before after (issue_status issue)
refused job old new before after issue r says = record {
  known = known_of (known_status issue);
  good = λ e. other_status issue 0 (λ k. differ 0 3 (lit< tt) k) (λ k. differ 0 4 (lit< tt) k) (λ k. differ 0 6 (lit< tt) k) e;
  bad = λ e. other_status issue 1 (λ k. differ 1 3 (lit< tt) k) (λ k. differ 1 4 (lit< tt) k) (λ k. differ 1 6 (lit< tt) k) e;
  unsaid = λ e. other_status issue 5 (λ k. differ 3 5 (lit< tt) (sym k)) (λ k. differ 4 5 (lit< tt) (sym k)) (λ k. differ 5 6 (lit< tt) k) e;
  inputs = answers_issue (check_inputs job) old new before after issue (case-IsOne job) r says;
  accepted_there = λ told case g finding is. accepted finding (accepted_not (check_inputs job) old new issue case (case-IsOne job) r told g);
}
  where
    known_of : (issue_status issue ≡ 3) ⊎ ((issue_status issue ≡ 4) ⊎ (issue_status issue ≡ 6)) → (issue_status issue ≡ 0) ⊎ ((issue_status issue ≡ 1) ⊎ ((issue_status issue ≡ 3) ⊎ ((issue_status issue ≡ 4) ⊎ ((issue_status issue ≡ 5) ⊎ (issue_status issue ≡ 6)))))
    known_of (inl k) = inr (inr (inl k))
    known_of (inr (inl k)) = inr (inr (inr (inl k)))
    known_of (inr (inr k)) = inr (inr (inr (inr (inr k))))

    accepted : (finding : Finding) → ReadRose old new ⊎ (issue_status issue ≡ 6) → ReadRose old new ⊎ (SinkRose before after ⊎ ((issue_status issue ≡ finding_status finding) ⊎ (issue_status issue ≡ 6)))
    accepted finding (inl rose) = inl rose
    accepted finding (inr k) = inr (inr (inr k))

-- ---- the files were judged
pub judged : (job : CheckJob) (old new : FolderState) (case : Case) (finding : Finding) → Reads (check_inputs job) old new (Ok case) → IsFinding (judged_of case job.digits) finding → (finding ≡ findings.Good → IsSound (judged_of case job.digits)) → IsJudged job old new finding
judged job old new case finding r is sound = record { case = case; given = r.gives; is_finding = is; sound = sound; nothing = nothing old new r.call }

-- memory ran out behind the inputs
pub no_line : (job : CheckJob) (old new : FolderState) (before after : SinkState) (case : Case) → Reads (check_inputs job) old new (Ok case) → Says before after memory_line → Checks job old new before after 6
no_line job old new before after case r says = record {
  known = inr (inr (inr (inr (inr refl))));
  good = λ e. differ 0 6 (lit< tt) (sym e);
  bad = λ e. differ 1 6 (lit< tt) (sym e);
  unsaid = λ e. differ 5 6 (lit< tt) (sym e);
  inputs = answers_memory (check_inputs job) old new before after r.call says;
  accepted_there = λ told other g finding is. inr (inr (inr refl));
}

-- the line was written
same_finding : (job : CheckJob) (old new : FolderState) (case other : Case) (finding found : Finding) → Reads (check_inputs job) old new (Ok case) → old.told ≡ true → check_inputs job old.files (Gives other) → IsFinding (judged_of case job.digits) finding → IsFinding (judged_of other job.digits) found → finding ≡ found
same_finding job old new case other finding found r told g is also =
    one_finding (judged_of case job.digits) finding found is (subst (λ c. IsFinding (judged_of c job.digits) found) (sym ((case-IsOne job).same old.files case other (r.gives told) g)) also)

pub told_of : (job : CheckJob) (old new : FolderState) (before after : SinkState) (case : Case) (finding : Finding) → Reads (check_inputs job) old new (Ok case) → IsJudged job old new finding → IsFinding (judged_of case job.digits) finding → Appended before after (finding_line finding) → Checks job old new before after (finding_status finding)
told_of job old new before after case findings.Good r j is printed = record {
  known = inl refl;
  good = λ e. record { judged = j; printed = printed };
  bad = λ e. differ 0 1 (lit< tt) e;
  unsaid = λ e. differ 0 5 (lit< tt) e;
  inputs = answers_served (check_inputs job) old new before after case 0 (case-IsOne job) r.gives (λ k. differ 0 3 (lit< tt) k) (λ k. differ 0 4 (lit< tt) k) (λ k. differ 0 6 (lit< tt) k);
  accepted_there = λ told other g found also. inr (inr (inl (ap finding_status (same_finding job old new case other findings.Good found r told g is also))));
}
told_of job old new before after case (findings.Bad fault) r j is printed = record {
  known = inr (inl refl);
  good = λ e. differ 0 1 (lit< tt) (sym e);
  bad = λ e. (fault, record { judged = j; printed = printed });
  unsaid = λ e. differ 1 5 (lit< tt) e;
  inputs = answers_served (check_inputs job) old new before after case 1 (case-IsOne job) r.gives (λ k. differ 1 3 (lit< tt) k) (λ k. differ 1 4 (lit< tt) k) (λ k. differ 1 6 (lit< tt) k);
  accepted_there = λ told other g found also. inr (inr (inl (ap finding_status (same_finding job old new case other (findings.Bad fault) found r told g is also))));
}

-- the output failed
pub unsaid : {T : Type 0} (job : CheckJob) (old new : FolderState) (before after : SinkState) (case : Case) (finding : Finding) (e : Failed) → Reads (check_inputs job) old new (Ok case) → IsJudged job old new finding → WritesAll {T = T} before after (finding_line finding) (Err e) → Checks job old new before after 5
unsaid job old new before after case finding e r j writes = record {
  known = inr (inr (inr (inr (inl refl))));
  good = λ k. differ 0 5 (lit< tt) (sym k);
  bad = λ k. differ 1 5 (lit< tt) (sym k);
  unsaid = λ k. record { finding = finding; judged = j; rose = writes.failed; printed = writes.err };
  inputs = answers_served (check_inputs job) old new before after case 5 (case-IsOne job) r.gives (λ k. differ 3 5 (lit< tt) (sym k)) (λ k. differ 4 5 (lit< tt) (sym k)) (λ k. differ 5 6 (lit< tt) k);
  accepted_there = λ told other g found also. inr (inl writes.failed);
}
