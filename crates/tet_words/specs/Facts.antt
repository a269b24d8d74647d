-- What holds of each job.
use Rattle.std.specs.Prelude.{◌≡◌, ◌≢◌, ℕ, ◌≤◌, false, List, [], ◌∷◌, Option, All, IfSome}
use Rattle.grid.specs.Limits.{IsCells, most_epsilon}
use Rattle.tet_words.specs.declared.job.MeshJob.{MeshJob}
use Rattle.tet_words.specs.declared.job.CheckJob.{CheckJob}
use Rattle.tet_words.specs.declared.job.DemoJob.{DemoJob}
use Rattle.tet_words.specs.declared.job.Job.{Job}
use Rattle.tet_words.specs.declared.job.Job.TheVariants as jobs
use Rattle.tet_words.specs.Names.{is_bad}
use Rattle.tet_words.specs.Words.{kept_names}

-- no two of them are equal
abbrev pub AreDifferent : List (List ℕ) → Type 0
AreDifferent [] = Unit {0}
AreDifferent (name ∷ names) = All (λ n. name ≢ n) names × AreDifferent names

-- names of different files
pub record AreNames (names : List (List ℕ)) : Type 0 where
  pub good : All (λ name. is_bad name ≡ false) names
  pub different : AreDifferent names

abbrev pub AreDigits : Option ℕ → Type 0
AreDigits digits = IfSome digits (λ d. d ≤ 5)

pub record IsMeshJob (job : MeshJob) : Type 0 where
  pub epsilon_least : 1 ≤ job.epsilon
  pub epsilon_most : job.epsilon ≤ most_epsilon
  pub cells : IsCells job.cells
  pub budget : job.budget ≤ 1000000
  pub digits : AreDigits job.digits
  pub names : AreNames (job.input ∷ job.mesh ∷ job.report ∷ kept_names job.kept)

pub record IsCheckJob (job : CheckJob) : Type 0 where
  pub digits : AreDigits job.digits
  pub names : AreNames (job.input ∷ job.mesh ∷ job.report ∷ [])

pub record IsDemoJob (job : DemoJob) : Type 0 where
  pub k_least : 1 ≤ job.k
  pub k_most : job.k ≤ 64
  pub names : AreNames (job.off ∷ job.mesh ∷ job.report ∷ [])

-- the numbers are in their ranges, and the names are names of different files
abbrev pub IsJob : Job → Type 0
IsJob (jobs.Mesh job) = IsMeshJob job
IsJob (jobs.Check job) = IsCheckJob job
IsJob (jobs.Demo job) = IsDemoJob job
