-- What a check answers, and what it leaves.
use Rattle.std.specs.Prelude.{◌≡◌, ◌⊎◌, ℕ, true, take}
use Rattle.mesh_io.specs.Folder.{FolderState, ReadRose}
use Rattle.mesh_io.specs.Sink.{SinkState, SinkRose, Appended}
use Rattle.inputs.specs.Readings.{Gives}
use Rattle.inputs.specs.Answers.{AnswersInputs, NothingWritten}
use Rattle.tet_words.specs.declared.job.CheckJob.{CheckJob}
use Rattle.cert_check.specs.declared.fault.Fault.{Fault}
use Rattle.cert_check.specs.declared.fault.Finding.{Finding}
use Rattle.cert_check.specs.declared.fault.Finding.TheVariants as findings
use Rattle.cert_check.specs.Faults.{IsFinding}
use Rattle.cert_check.specs.Sound.{IsSound}
use Rattle.checking.specs.declared.case.Case.{Case}
use Rattle.checking.specs.Cases.{check_inputs, judged_of}
use Rattle.checking.specs.Lines.{finding_line, finding_status}

-- the files were judged, with that finding, and nothing was written
pub record IsJudged (job : CheckJob) (old new : FolderState) (finding : Finding) : Type 0 where
  pub case : Case
  pub given : old.told ≡ true → check_inputs job old.files (Gives case)
  pub is_finding : IsFinding (judged_of case job.digits) finding
  -- where it is Good, the files are sound
  pub sound : finding ≡ findings.Good → IsSound (judged_of case job.digits)
  pub nothing : NothingWritten old new

-- status 0 or 1: the finding was printed
pub record IsFound (job : CheckJob) (old new : FolderState) (before after : SinkState) (finding : Finding) : Type 0 where
  pub judged : IsJudged job old new finding
  pub printed : Appended before after (finding_line finding)

-- status 5: the output failed behind a front of the line
pub record IsUnsaid (job : CheckJob) (old new : FolderState) (before after : SinkState) : Type 0 where
  pub finding : Finding
  pub judged : IsJudged job old new finding
  pub rose : SinkRose before after
  pub printed : (n : ℕ) × Appended before after (take n (finding_line finding))

-- the answers to a job
pub record Checks (job : CheckJob) (old new : FolderState) (before after : SinkState) (status : ℕ) : Type 0 where
  pub known : (status ≡ 0) ⊎ ((status ≡ 1) ⊎ ((status ≡ 3) ⊎ ((status ≡ 4) ⊎ ((status ≡ 5) ⊎ (status ≡ 6)))))
  pub good : status ≡ 0 → IsFound job old new before after findings.Good
  pub bad : status ≡ 1 → (fault : Fault) × IsFound job old new before after (findings.Bad fault)
  pub unsaid : status ≡ 5 → IsUnsaid job old new before after
  pub inputs : AnswersInputs (check_inputs job) old new before after status
  -- accepted files are answered with their finding where nothing failed
  pub accepted_there : old.told ≡ true → (case : Case) → check_inputs job old.files (Gives case) → (finding : Finding) → IsFinding (judged_of case job.digits) finding
      → ReadRose old new ⊎ (SinkRose before after ⊎ ((status ≡ finding_status finding) ⊎ (status ≡ 6)))
