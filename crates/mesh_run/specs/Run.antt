-- What a run answers, and what it leaves.
use Rattle.std.specs.Prelude.{◌≡◌, ◌⊎◌, ℕ, List, ◌++◌, codes, Ok, Err}
use Rattle.mesh_io.specs.Folder.{FolderState}
use Rattle.mesh_io.specs.Sink.{SinkState}
use Rattle.printing.specs.Printed.{Says}
use Rattle.tet_words.specs.declared.fault.WordFault.{WordFault}
use Rattle.tet_words.specs.Faults.{fault_text}
use Rattle.tet_words.specs.declared.job.Job.{Job}
use Rattle.tet_words.specs.declared.job.Job.TheVariants as jobs
use Rattle.tet_words.specs.Words.{meaning}
use Rattle.inputs.specs.Answers.{IsOutOfMemory}
use Rattle.checking.specs.Checks.{Checks}
use Rattle.mesh_run.specs.Meshing.{Meshes, Demos}

-- the line of refused words
abbrev pub words_line : WordFault → List ℕ
words_line fault = codes "tetsoup: words: " ++ (fault_text fault ++ codes "\n")

-- status 2: the words are refused
pub record AreWordsRefused (words : List (List ℕ)) (old new : FolderState) (before after : SinkState) : Type 0 where
  pub fault : WordFault
  pub refused : meaning words ≡ Err fault
  pub printed : Says before after (words_line fault)
  pub folder : new ≡ old

-- the answers to a job
abbrev pub DoesJob : Job → (old new : FolderState) → (before after : SinkState) → (status : ℕ) → Type 0
DoesJob (jobs.Mesh job) old new before after status = Meshes job old new before after status
DoesJob (jobs.Check job) old new before after status = Checks job old new before after status
DoesJob (jobs.Demo job) old new before after status = Demos job old new before after status

-- the answers to the words
pub record Answers (words : List (List ℕ)) (old new : FolderState) (before after : SinkState) (status : ℕ) : Type 0 where
  pub words_refused : status ≡ 2 → AreWordsRefused words old new before after
  pub out_of_memory : status ≡ 6 → IsOutOfMemory old new before after
  -- refused words are answered 2, unless memory ran out
  pub refused_words_there : (fault : WordFault) → meaning words ≡ Err fault → (status ≡ 2) ⊎ (status ≡ 6)
  pub does : (job : Job) → meaning words ≡ Ok job → DoesJob job old new before after status
