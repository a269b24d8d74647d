-- Results of which the refusals are those that are meant.
use Rattle.std.specs.Prelude.{◌≡◌, Result, Ok, Err}
use Rattle.tet_words.specs.declared.fault.WordFault.{WordFault}
use Rattle.tet_words.specs.declared.fault.WordsIssue.{WordsIssue}
use Rattle.tet_words.specs.declared.fault.WordsIssue.TheVariants as issues

-- the result, seen by view, or the fault that is meant, unless memory ran out
abbrev pub Answers : {R X : Type 0} → (R → X) → Result X WordFault → Result R WordsIssue → Type 0
Answers view meant (Ok r) = meant ≡ Ok (view r)
Answers view meant (Err (issues.Refused fault)) = meant ≡ Err fault
Answers view meant (Err issues.Memory) = Unit {0}
