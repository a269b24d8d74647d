-- What a run answers to its words.
use Rattle.std.proofs.Common.{◌≡◌, ◌⊎◌, inl, inr, ℕ, List, Result, Ok, Err, refl, sym, subst, arith, lit<}
use Rattle.tet_words.specs.declared.fault.WordFault.{WordFault}
use Rattle.tet_words.specs.declared.job.MeshJob.{MeshJob}
use Rattle.tet_words.specs.declared.job.CheckJob.{CheckJob}
use Rattle.tet_words.specs.declared.job.DemoJob.{DemoJob}
use Rattle.tet_words.specs.declared.job.Job.{Job}
use Rattle.tet_words.specs.declared.job.Job.TheVariants as jobs
use Rattle.tet_words.specs.Words.{meaning}
use Rattle.mesh_io.specs.Folder.{FolderState}
use Rattle.mesh_io.specs.Sink.{SinkState}
use Rattle.printing.specs.Printed.{Says, memory_line}
use Rattle.inputs.specs.Answers.{IsOutOfMemory}
use Rattle.inputs.specs.declared.issue.InputIssue.TheVariants as issues
use Rattle.inputs.proofs.ForCallers.{differ, no_reads}
use Rattle.checking.specs.Cases.{check_inputs}
use Rattle.checking.specs.Checks.{Checks}
use Rattle.checking.proofs.Judging as judging
use Rattle.mesh_run.specs.Meshing.{Meshes, Demos, mesh_inputs}
use Rattle.mesh_run.specs.Run.{DoesJob, Answers, words_line}
use Rattle.mesh_run.proofs.Working as working

fault_clash : {X : Type 0} (r : Result Job WordFault) (job : Job) (fault : WordFault) → r ≡ Ok job → r ≡ Err fault → X
fault_clash r job fault f g = cc

same_job : (r : Result Job WordFault) (job other : Job) → r ≡ Ok job → r ≡ Ok other → job ≡ other
same_job r job other f g = cc

-- the answers to a job
pub record IsJobDone (job : Job) (old new : FolderState) (before after : SinkState) (status : ℕ) : Type 0 where
  pub does : DoesJob job old new before after status
  pub not_two : ¬ (status ≡ 2)
  pub out_of_memory : status ≡ 6 → IsOutOfMemory old new before after

pub answered : (words : List (List ℕ)) (job : Job) (old new : FolderState) (before after : SinkState) (status : ℕ) → meaning words ≡ Ok job → IsJobDone job old new before after status → Answers words old new before after status
answered words job old new before after status is done = record {
  words_refused = λ two. absurd (done.not_two two);
  out_of_memory = done.out_of_memory;
  refused_words_there = λ fault e. fault_clash (meaning words) job fault is e;
  does = λ other e. subst (λ j. DoesJob j old new before after status) (same_job (meaning words) job other is e) done.does;
}

-- ---- each command
pub mesh_done : (job : MeshJob) (old new : FolderState) (before after : SinkState) (status : ℕ) → Meshes job old new before after status → IsJobDone (jobs.Mesh job) old new before after status
mesh_done job old new before after status m = record { does = m; not_two = not_two m.known; out_of_memory = m.inputs.out_of_memory }
  where
    not_two : (status ≡ 0) ⊎ ((status ≡ 3) ⊎ ((status ≡ 4) ⊎ ((status ≡ 5) ⊎ (status ≡ 6)))) → ¬ (status ≡ 2)
    not_two (inl k) e = absurd (omega (arith, k, e))
    not_two (inr (inl k)) e = absurd (omega (arith, k, e))
    not_two (inr (inr (inl k))) e = absurd (omega (arith, k, e))
    not_two (inr (inr (inr (inl k)))) e = absurd (omega (arith, k, e))
    not_two (inr (inr (inr (inr k)))) e = absurd (omega (arith, k, e))

pub check_done : (job : CheckJob) (old new : FolderState) (before after : SinkState) (status : ℕ) → Checks job old new before after status → IsJobDone (jobs.Check job) old new before after status
check_done job old new before after status m = record { does = m; not_two = not_two m.known; out_of_memory = m.inputs.out_of_memory }
  where
    not_two : (status ≡ 0) ⊎ ((status ≡ 1) ⊎ ((status ≡ 3) ⊎ ((status ≡ 4) ⊎ ((status ≡ 5) ⊎ (status ≡ 6))))) → ¬ (status ≡ 2)
    not_two (inl k) e = absurd (omega (arith, k, e))
    not_two (inr (inl k)) e = absurd (omega (arith, k, e))
    not_two (inr (inr (inl k))) e = absurd (omega (arith, k, e))
    not_two (inr (inr (inr (inl k)))) e = absurd (omega (arith, k, e))
    not_two (inr (inr (inr (inr (inl k))))) e = absurd (omega (arith, k, e))
    not_two (inr (inr (inr (inr (inr k))))) e = absurd (omega (arith, k, e))

pub demo_done : (job : DemoJob) (old new : FolderState) (before after : SinkState) (status : ℕ) → Demos job old new before after status → IsJobDone (jobs.Demo job) old new before after status
demo_done job old new before after status m = record { does = m; not_two = not_two m.finishes.known; out_of_memory = m.finishes.out_of_memory }
  where
    not_two : (status ≡ 0) ⊎ ((status ≡ 5) ⊎ (status ≡ 6)) → ¬ (status ≡ 2)
    not_two (inl k) e = absurd (omega (arith, k, e))
    not_two (inr (inl k)) e = absurd (omega (arith, k, e))
    not_two (inr (inr k)) e = absurd (omega (arith, k, e))

-- ---- no job
pub words_refused : (words : List (List ℕ)) (fault : WordFault) (old : FolderState) (before after : SinkState) → meaning words ≡ Err fault → Says before after (words_line fault) → Answers words old old before after 2
words_refused words fault old before after is says = record {
  words_refused = λ two. record { fault = fault; refused = is; printed = says; folder = refl };
  out_of_memory = λ six. differ 2 6 (lit< tt) six;
  refused_words_there = λ other e. inl refl;
  does = λ job e. fault_clash (meaning words) job fault e is;
}

no_memory : (old : FolderState) (before after : SinkState) → Says before after memory_line → IsOutOfMemory old old before after
no_memory old before after says = record { printed = says; nothing = record { files = refl; writing = record { created = refl; writing = refl } } }

-- memory ran out before the job was known
no_job_done : (job : Job) (old : FolderState) (before after : SinkState) → Says before after memory_line → DoesJob job old old before after 6
no_job_done (jobs.Mesh job) old before after says = working.refused job old old before after issues.Memory (no_reads (mesh_inputs job) old) says
no_job_done (jobs.Check job) old before after says = judging.refused job old old before after issues.Memory (no_reads (check_inputs job) old) says
no_job_done (jobs.Demo job) old before after says = working.no_demo job old before after says

pub no_job : (words : List (List ℕ)) (old : FolderState) (before after : SinkState) → Says before after memory_line → Answers words old old before after 6
no_job words old before after says = record {
  words_refused = λ two. differ 2 6 (lit< tt) (sym two);
  out_of_memory = λ six. no_memory old before after says;
  refused_words_there = λ fault e. inr refl;
  does = λ job e. no_job_done job old before after says;
}
