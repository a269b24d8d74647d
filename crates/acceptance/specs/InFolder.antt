-- What the check finds of the files that a run wrote.
use Rattle.std.specs.Prelude.{◌≡◌, ℕ, ◌≤◌, List, [], ◌∷◌, length, Some, All}
use Rattle.mesh_io.specs.Folder.{Files}
use Rattle.soup.specs.declared.raw.Soup.{Soup}
use Rattle.tet_words.specs.declared.job.CheckJob.{CheckJob}
use Rattle.cert_check.specs.declared.fault.Finding.TheVariants as findings
use Rattle.cert_check.specs.Faults.{IsFinding}
use Rattle.cert_check.specs.Sound.{IsSound}
use Rattle.inputs.specs.Readings.{Gives, most_bytes}
use Rattle.inputs.specs.Texts.{soup_file}
use Rattle.checking.specs.declared.case.Case.{Case}
use Rattle.checking.specs.Cases.{check_inputs, judged_of}
use Rattle.outputs.specs.declared.request.Asked.{Asked}
use Rattle.outputs.specs.declared.request.Names.{Names}
use Rattle.outputs.specs.declared.output.OutFile.{OutFile}
use Rattle.outputs.specs.declared.output.Texts.{Texts}
use Rattle.outputs.specs.MeshFiles.{IsMade, file_of, report_of}
use Rattle.outputs.specs.Output.{AreWhole}
use Rattle.acceptance.specs.Accepted.{IsAccepted}

-- the check of a mesh and its report against an input
abbrev pub check_of : (input : List ℕ) → Asked → Names → CheckJob
check_of input asked names = record { input = input; mesh = names.mesh; report = names.report; digits = asked.digits }

-- the file has at most 2^30 bytes, where it is there
abbrev pub IsShort : Files → List ℕ → Type 0
IsShort files name = (bytes : List ℕ) → files name ≡ Some bytes → length bytes ≤ most_bytes

-- each of the three files has
abbrev pub AreShort : CheckJob → Files → Type 0
AreShort job files = All (IsShort files) (job.input ∷ job.mesh ∷ job.report ∷ [])

-- the readers accept the files, what they give is sound, and the finding is Good
pub record IsFoundGood (job : CheckJob) (files : Files) : Type 0 where
  pub case : Case
  pub given : check_inputs job files (Gives case)
  pub sound : IsSound (judged_of case job.digits)
  pub good : IsFinding (judged_of case job.digits) findings.Good

-- the texts of a mesh
abbrev pub AreAccepted : (asked : Asked) (names : Names) (first : List OutFile) (soup : Soup) (texts : Texts) → IsMade asked names first soup texts → Type 0
AreAccepted asked names first soup texts made = IsAccepted soup asked.digits (file_of asked soup made.made made.regions) (report_of asked soup made.made)

-- the check finds accepted texts Good where they were written beside an input that gives their soup
abbrev pub FoundGoodLaw : Type 0
FoundGoodLaw = (asked : Asked) (names : Names) (first : List OutFile) (soup : Soup) (texts : Texts) (made : IsMade asked names first soup texts) (input : List ℕ) (old new : Files)
    → AreAccepted asked names first soup texts made → AreWhole texts.files old new
    → soup_file input asked.digits asked.epsilon asked.cells new (Gives soup) → AreShort (check_of input asked names) new
    → IsFoundGood (check_of input asked names) new
