-- What the commands that mesh a soup answer, by how far they came.
use Rattle.std.proofs.Common.{◌≡◌, ◌⊎◌, inl, inr, ℕ, true, List, [], ◌∷◌, Ok, Err, refl, sym, ◌∙◌, arith, lit<, lit≤}
use Rattle.std.proofs.lemmas.List.Elements.{All-head}
use Rattle.mesh_io.specs.Folder.{FolderState, ReadCall, ReadRose, WriteRose}
use Rattle.mesh_io.specs.Sink.{SinkState, SinkRose}
use Rattle.printing.specs.Printed.{Says, memory_line}
use Rattle.soup.specs.declared.raw.Soup.{Soup}
use Rattle.tet_words.specs.declared.job.MeshJob.{MeshJob}
use Rattle.tet_words.specs.declared.job.DemoJob.{DemoJob}
use Rattle.tet_words.specs.Facts.{IsMeshJob, IsDemoJob}
use Rattle.inputs.specs.Placed.{IsBoxed}
use Rattle.inputs.specs.Readings.{Gives}
use Rattle.inputs.specs.declared.issue.InputIssue.{InputIssue}
use Rattle.inputs.specs.Answers.{Reads, NothingWritten, IsOutOfMemory, issue_line, issue_status}
use Rattle.inputs.proofs.ForCallers.{IsOne, soup_file-IsOne, differ, answers_issue, known_status, other_status, accepted_not}
use Rattle.outputs.specs.declared.request.Asked.{Asked}
use Rattle.outputs.specs.declared.request.Names.{Names}
use Rattle.outputs.specs.declared.output.OutFile.{OutFile}
use Rattle.outputs.specs.declared.output.Texts.{Texts}
use Rattle.outputs.specs.MeshFiles.{IsAsked, IsMade}
use Rattle.outputs.specs.Output.{Writes}
use Rattle.acceptance.specs.InFolder.{IsShort, AreShort, IsFoundGood}
use Rattle.acceptance.proofs.ForCallers.{accepted, found_good, found_good_beside, field_gives, first_there}
use Rattle.mesh_run.specs.Meshing.{IsOut, IsCutOut, Finishes, asked_of, names_of, mesh_inputs, IsDone, Meshes, demo_asked, demo_names, demo_files, demo_soup, demo_check, Demos}
use Rattle.mesh_run.proofs.Behind.{write_rose_of, whole_of, cut_off_of, cause_of}

-- ---- behind an accepted soup
same_folder : (old : FolderState) → NothingWritten old old
same_folder old = record { files = refl; writing = record { created = refl; writing = refl } }

pub no_texts : (asked : Asked) (names : Names) (first : List OutFile) (soup : Soup) (old : FolderState) (before after : SinkState) → Says before after memory_line → Finishes asked names first soup old old before after 6
no_texts asked names first soup old before after says = record {
  known = inr (inr refl);
  done = λ e. differ 0 6 (lit< tt) (sym e);
  cut = λ e. differ 5 6 (lit< tt) (sym e);
  out_of_memory = λ e. record { printed = says; nothing = same_folder old };
  all_there = inr (inr (inr refl));
}

pub written : (asked : Asked) (names : Names) (first : List OutFile) (soup : Soup) (texts : Texts) → IsAsked asked → IsBoxed asked.epsilon asked.cells soup → (old new : FolderState) (before after : SinkState) (status : ℕ) → IsMade asked names first soup texts → Writes texts old new before after status → Finishes asked names first soup old new before after status
written asked names first soup texts is_asked boxed old new before after status made writes = record {
  known = known_of writes.known;
  done = λ e. record {
    texts = texts;
    made = made;
    accepted = accepted asked soup made.made made.regions (record { is_asked = is_asked; boxed = boxed; meshed = made.meshed }) made.are_regions;
    written = writes.done e;
  };
  cut = λ e. record { texts = texts; made = made; cut = writes.cut e };
  out_of_memory = λ e. not_six writes.known e;
  all_there = ends writes.known;
}
  where
    known_of : (status ≡ 0) ⊎ (status ≡ 5) → (status ≡ 0) ⊎ ((status ≡ 5) ⊎ (status ≡ 6))
    known_of (inl e) = inl e
    known_of (inr e) = inr (inl e)

    not_six : {X : Type 0} → (status ≡ 0) ⊎ (status ≡ 5) → status ≡ 6 → X
    not_six (inl e) f = absurd (omega (arith, e, f))
    not_six (inr e) f = absurd (omega (arith, e, f))

    by_cause : WriteRose old new ⊎ SinkRose before after → WriteRose old new ⊎ (SinkRose before after ⊎ ((status ≡ 0) ⊎ (status ≡ 6)))
    by_cause (inl rose) = inl rose
    by_cause (inr rose) = inr (inl rose)

    ends : (status ≡ 0) ⊎ (status ≡ 5) → WriteRose old new ⊎ (SinkRose before after ⊎ ((status ≡ 0) ⊎ (status ≡ 6)))
    ends (inl e) = inr (inr (inl e))
    ends (inr e) = by_cause (cause_of texts old new before after (writes.cut e))

-- ---- the mesh of a file
one : (job : MeshJob) → IsOne (mesh_inputs job)
one job = soup_file-IsOne job.input job.digits job.epsilon job.cells

-- the input does not serve
pub refused : (job : MeshJob) (old new : FolderState) (before after : SinkState) (issue : InputIssue) → Reads {X = Soup} (mesh_inputs job) old new (Err issue) → Says before after (issue_line issue) → Meshes job old new before after (issue_status issue)
refused job old new before after issue r says = record {
  known = known_of (known_status issue);
  done = λ e. other_status issue 0 (λ k. differ 0 3 (lit< tt) k) (λ k. differ 0 4 (lit< tt) k) (λ k. differ 0 6 (lit< tt) k) e;
  cut = λ e. other_status issue 5 (λ k. differ 3 5 (lit< tt) (sym k)) (λ k. differ 4 5 (lit< tt) (sym k)) (λ k. differ 5 6 (lit< tt) k) e;
  inputs = answers_issue (mesh_inputs job) old new before after issue (one job) r says;
  accepted_there = λ told soup g. accepted (accepted_not (mesh_inputs job) old new issue soup (one job) r told g);
}
  where
    known_of : (issue_status issue ≡ 3) ⊎ ((issue_status issue ≡ 4) ⊎ (issue_status issue ≡ 6)) → (issue_status issue ≡ 0) ⊎ ((issue_status issue ≡ 3) ⊎ ((issue_status issue ≡ 4) ⊎ ((issue_status issue ≡ 5) ⊎ (issue_status issue ≡ 6))))
    known_of (inl k) = inr (inl k)
    known_of (inr (inl k)) = inr (inr (inl k))
    known_of (inr (inr k)) = inr (inr (inr (inr k)))

    accepted : ReadRose old new ⊎ (issue_status issue ≡ 6) → ReadRose old new ⊎ (WriteRose old new ⊎ (SinkRose before after ⊎ ((issue_status issue ≡ 0) ⊎ (issue_status issue ≡ 6))))
    accepted (inl rose) = inl rose
    accepted (inr k) = inr (inr (inr (inr k)))

-- the same seen from before the reads
out_of : (asked : Asked) (names : Names) (first : List OutFile) (soup : Soup) (old mid new : FolderState) (before after : SinkState) → ReadCall old mid → IsOut asked names first soup mid new before after → IsOut asked names first soup old new before after
out_of asked names first soup old mid new before after call out = record {
  texts = out.texts;
  made = out.made;
  accepted = out.accepted;
  written = record { files = whole_of out.texts.files old mid new call out.written.files; line = out.written.line };
}

cut_out_of : (asked : Asked) (names : Names) (first : List OutFile) (soup : Soup) (old mid new : FolderState) (before after : SinkState) → ReadCall old mid → IsCutOut asked names first soup mid new before after → IsCutOut asked names first soup old new before after
cut_out_of asked names first soup old mid new before after call out = record { texts = out.texts; made = out.made; cut = cut_off_of out.texts old mid new before after call out.cut }

no_memory_of : (old mid new : FolderState) (before after : SinkState) → ReadCall old mid → IsOutOfMemory mid new before after → IsOutOfMemory old new before after
no_memory_of old mid new before after call none = record {
  printed = none.printed;
  nothing = record {
    files = none.nothing.files ∙ call.files;
    writing = record { created = none.nothing.writing.created ∙ call.writing.created; writing = none.nothing.writing.writing ∙ call.writing.writing };
  };
}

is_done : (job : MeshJob) → IsMeshJob job → (old new : FolderState) (before after : SinkState) (soup : Soup) → (old.told ≡ true → mesh_inputs job old.files (Gives soup)) → IsOut (asked_of job) (names_of job) [] soup old new before after → IsDone job old new before after
is_done job is old new before after soup gives out = record {
  soup = soup;
  accepted = gives;
  out = out;
  checked = λ told short. found_good_beside (asked_of job) (names_of job) soup out.texts out.made job.input old.files new.files out.accepted (out.written.files told) is.names.different (gives told) short;
}

pub meshed : (job : MeshJob) → IsMeshJob job → (old mid new : FolderState) (before after : SinkState) (soup : Soup) (status : ℕ) → Reads (mesh_inputs job) old mid (Ok soup) → Finishes (asked_of job) (names_of job) [] soup mid new before after status → Meshes job old new before after status
meshed job is old mid new before after soup status r ends = record {
  known = known_of ends.known;
  done = λ e. is_done job is old new before after soup r.gives (out_of (asked_of job) (names_of job) [] soup old mid new before after r.call (ends.done e));
  cut = λ e. record { soup = soup; accepted = r.gives; out = cut_out_of (asked_of job) (names_of job) [] soup old mid new before after r.call (ends.cut e) };
  inputs = record {
    refused = λ e. not_this 3 (λ k. differ 0 3 (lit< tt) k) (λ k. differ 3 5 (lit< tt) (sym k)) (λ k. differ 3 6 (lit< tt) (sym k)) ends.known e;
    unread = λ e. not_this 4 (λ k. differ 0 4 (lit< tt) k) (λ k. differ 4 5 (lit< tt) (sym k)) (λ k. differ 4 6 (lit< tt) (sym k)) ends.known e;
    out_of_memory = λ e. no_memory_of old mid new before after r.call (ends.out_of_memory e);
    refused_there = λ told line h. absurd ((one job).not_refused old.files soup line (r.gives told) h);
    missing_there = λ told name h. absurd ((one job).not_missing old.files soup name (r.gives told) h);
  };
  accepted_there = λ told other g. inr (all_of ends.all_there);
}
  where
    known_of : (status ≡ 0) ⊎ ((status ≡ 5) ⊎ (status ≡ 6)) → (status ≡ 0) ⊎ ((status ≡ 3) ⊎ ((status ≡ 4) ⊎ ((status ≡ 5) ⊎ (status ≡ 6))))
    known_of (inl e) = inl e
    known_of (inr e) = inr (inr (inr e))

    not_this : {X : Type 0} (other : ℕ) → ¬ (0 ≡ other) → ¬ (5 ≡ other) → ¬ (6 ≡ other) → (status ≡ 0) ⊎ ((status ≡ 5) ⊎ (status ≡ 6)) → status ≡ other → X
    not_this other zero five six (inl k) e = absurd (zero (sym k ∙ e))
    not_this other zero five six (inr (inl k)) e = absurd (five (sym k ∙ e))
    not_this other zero five six (inr (inr k)) e = absurd (six (sym k ∙ e))

    all_of : WriteRose mid new ⊎ (SinkRose before after ⊎ ((status ≡ 0) ⊎ (status ≡ 6))) → WriteRose old new ⊎ (SinkRose before after ⊎ ((status ≡ 0) ⊎ (status ≡ 6)))
    all_of (inl rose) = inl (write_rose_of old mid new r.call rose)
    all_of (inr other) = inr other

-- ---- the mesh of a height field
pub no_demo : (job : DemoJob) (old : FolderState) (before after : SinkState) → Says before after memory_line → Demos job old old before after 6
no_demo job old before after says = record {
  finishes = no_texts demo_asked (demo_names job) (demo_files job) (demo_soup job) old before after says;
  checked = λ e. differ 0 6 (lit< tt) (sym e);
}

found_of : (job : DemoJob) → IsDemoJob job → (old new : FolderState) (before after : SinkState) → IsOut demo_asked (demo_names job) (demo_files job) (demo_soup job) old new before after → old.told ≡ true → AreShort (demo_check job) new.files → IsFoundGood (demo_check job) new.files
found_of job is old new before after out told short =
    let whole = out.written.files told in
    let off = first_there demo_asked (demo_names job) _ (demo_soup job) out.texts out.made old.files new.files whole in
    found_good demo_asked (demo_names job) (demo_files job) (demo_soup job) out.texts out.made job.off old.files new.files out.accepted whole
    (field_gives job.k job.seed job.off new.files is.k_most off (All-head (IsShort new.files) job.off (job.mesh ∷ job.report ∷ []) short _ off)) short

pub demoed : (job : DemoJob) → IsDemoJob job → (old new : FolderState) (before after : SinkState) (status : ℕ) → Finishes demo_asked (demo_names job) (demo_files job) (demo_soup job) old new before after status → Demos job old new before after status
demoed job is old new before after status ends = record { finishes = ends; checked = λ e told short. found_of job is old new before after (ends.done e) told short }

-- ---- limits
-- the numbers of a job are within their limits
pub asked-limits : (job : MeshJob) → IsMeshJob job → IsAsked (asked_of job)
asked-limits job is = record { epsilon_least = is.epsilon_least; epsilon_most = is.epsilon_most; cells = is.cells; budget = is.budget; digits = is.digits }

pub demo-limits : IsAsked demo_asked
demo-limits = record { epsilon_least = lit≤ tt; epsilon_most = lit≤ tt; cells = record { power = 2; power_most = lit≤ tt; is = refl }; budget = lit≤ tt; digits = tt }
