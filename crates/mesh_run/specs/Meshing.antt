-- What the commands that mesh a soup answer, and what they leave.
use Rattle.std.specs.Prelude.{◌≡◌, ◌⊎◌, ℕ, true, List, [], ◌∷◌, None}
use Rattle.mesh_io.specs.Folder.{FolderState, ReadRose, WriteRose}
use Rattle.mesh_io.specs.Sink.{SinkState, SinkRose}
use Rattle.soup.specs.declared.raw.Soup.{Soup}
use Rattle.soup.specs.Placement.{placed}
use Rattle.soup.specs.HeightField.{height_field}
use Rattle.off_text.specs.Text.{off_text}
use Rattle.tet_words.specs.declared.job.CheckJob.{CheckJob}
use Rattle.tet_words.specs.declared.job.MeshJob.{MeshJob}
use Rattle.tet_words.specs.declared.job.DemoJob.{DemoJob}
use Rattle.inputs.specs.Readings.{Inputs, Gives}
use Rattle.inputs.specs.Answers.{AnswersInputs, IsOutOfMemory}
use Rattle.inputs.specs.Texts.{soup_file}
use Rattle.outputs.specs.declared.request.Asked.{Asked}
use Rattle.outputs.specs.declared.request.Names.{Names}
use Rattle.outputs.specs.declared.output.OutFile.{OutFile}
use Rattle.outputs.specs.declared.output.Texts.{Texts}
use Rattle.outputs.specs.MeshFiles.{IsMade}
use Rattle.outputs.specs.Output.{AreWritten, IsCutOff}
use Rattle.acceptance.specs.InFolder.{check_of, AreShort, IsFoundGood, AreAccepted}

-- ---- the writes
-- all texts of the mesh of a soup were made and written; the mesh and the report keep the rules of their texts, are sound, and are found Good
pub record IsOut (asked : Asked) (names : Names) (first : List OutFile) (soup : Soup) (old new : FolderState) (before after : SinkState) : Type 0 where
  pub texts : Texts
  pub made : IsMade asked names first soup texts
  pub accepted : AreAccepted asked names first soup texts made
  pub written : AreWritten texts old new before after

-- they were made, and a write failed
pub record IsCutOut (asked : Asked) (names : Names) (first : List OutFile) (soup : Soup) (old new : FolderState) (before after : SinkState) : Type 0 where
  pub texts : Texts
  pub made : IsMade asked names first soup texts
  pub cut : IsCutOff texts old new before after

-- the answers behind an accepted soup: 0, 5 or 6
pub record Finishes (asked : Asked) (names : Names) (first : List OutFile) (soup : Soup) (old new : FolderState) (before after : SinkState) (status : ℕ) : Type 0 where
  pub known : (status ≡ 0) ⊎ ((status ≡ 5) ⊎ (status ≡ 6))
  pub done : status ≡ 0 → IsOut asked names first soup old new before after
  pub cut : status ≡ 5 → IsCutOut asked names first soup old new before after
  pub out_of_memory : status ≡ 6 → IsOutOfMemory old new before after
  -- where nothing failed and memory lasted, all is written
  pub all_there : WriteRose old new ⊎ (SinkRose before after ⊎ ((status ≡ 0) ⊎ (status ≡ 6)))

-- ---- the mesh of a file
abbrev pub asked_of : MeshJob → Asked
asked_of job = record { epsilon = job.epsilon; cells = job.cells; budget = job.budget; digits = job.digits }

abbrev pub names_of : MeshJob → Names
names_of job = record { mesh = job.mesh; report = job.report; kept = job.kept }

-- the soup of the input, in its box
abbrev pub mesh_inputs : MeshJob → Inputs Soup
mesh_inputs job = soup_file job.input job.digits job.epsilon job.cells

-- the check of what is written for a job
abbrev pub mesh_check : MeshJob → CheckJob
mesh_check job = check_of job.input (asked_of job) (names_of job)

-- status 0: the input is accepted, all texts of its mesh were written, and a check of the files finds them Good where each can be read
pub record IsDone (job : MeshJob) (old new : FolderState) (before after : SinkState) : Type 0 where
  pub soup : Soup
  pub accepted : old.told ≡ true → mesh_inputs job old.files (Gives soup)
  pub out : IsOut (asked_of job) (names_of job) [] soup old new before after
  pub checked : old.told ≡ true → AreShort (mesh_check job) new.files → IsFoundGood (mesh_check job) new.files

-- status 5: the input is accepted, and a write failed
pub record IsCut (job : MeshJob) (old new : FolderState) (before after : SinkState) : Type 0 where
  pub soup : Soup
  pub accepted : old.told ≡ true → mesh_inputs job old.files (Gives soup)
  pub out : IsCutOut (asked_of job) (names_of job) [] soup old new before after

-- the answers to a job
pub record Meshes (job : MeshJob) (old new : FolderState) (before after : SinkState) (status : ℕ) : Type 0 where
  pub known : (status ≡ 0) ⊎ ((status ≡ 3) ⊎ ((status ≡ 4) ⊎ ((status ≡ 5) ⊎ (status ≡ 6))))
  pub done : status ≡ 0 → IsDone job old new before after
  pub cut : status ≡ 5 → IsCut job old new before after
  pub inputs : AnswersInputs (mesh_inputs job) old new before after status
  -- an accepted input is answered 0 where nothing failed
  pub accepted_there : old.told ≡ true → (soup : Soup) → mesh_inputs job old.files (Gives soup) → ReadRose old new ⊎ (WriteRose old new ⊎ (SinkRose before after ⊎ ((status ≡ 0) ⊎ (status ≡ 6))))

-- ---- the mesh of a height field
abbrev pub demo_asked : Asked
demo_asked = record { epsilon = 2; cells = 4; budget = 1000; digits = None }

abbrev pub demo_names : DemoJob → Names
demo_names job = record { mesh = job.mesh; report = job.report; kept = None }

-- the file of the soup
abbrev pub demo_files : DemoJob → List OutFile
demo_files job = record { name = job.off; text = off_text (height_field job.k job.seed) } ∷ []

abbrev pub demo_soup : DemoJob → Soup
demo_soup job = placed (height_field job.k job.seed) 2 4

abbrev pub demo_check : DemoJob → CheckJob
demo_check job = check_of job.off demo_asked (demo_names job)

-- the answers to a job: the soup's file, the mesh and the report are written, and a check of them finds them Good where each can be read
pub record Demos (job : DemoJob) (old new : FolderState) (before after : SinkState) (status : ℕ) : Type 0 where
  pub finishes : Finishes demo_asked (demo_names job) (demo_files job) (demo_soup job) old new before after status
  pub checked : status ≡ 0 → old.told ≡ true → AreShort (demo_check job) new.files → IsFoundGood (demo_check job) new.files
