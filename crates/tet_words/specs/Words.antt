-- What the words of a command line mean: a job, or the first fault in them.
use Rattle.std.specs.Prelude.{ℕ, List, [], ◌∷◌, Option, Some, None, Result, Ok, Err}
use Rattle.grid.specs.Limits.{most_epsilon}
use Rattle.tet_words.specs.declared.commands.Command.{Command}
use Rattle.tet_words.specs.declared.commands.Command.TheVariants as commands
use Rattle.tet_words.specs.declared.fault.WordFault.{WordFault}
use Rattle.tet_words.specs.declared.fault.WordFault.TheVariants as faults
use Rattle.tet_words.specs.declared.job.Job.{Job}
use Rattle.tet_words.specs.declared.job.Job.TheVariants as jobs
use Rattle.tet_words.specs.Steps.{◌>>=◌}
use Rattle.tet_words.specs.Commands.{command_of}
use Rattle.tet_words.specs.Numbers.{number_in, given_number, given_cells, given_digits}
use Rattle.tet_words.specs.Names.{check_names}
use Rattle.tet_words.specs.Sorting.{Given, Read, nothing, sorted}

-- the name of the kept file, where it is asked for
abbrev pub kept_names : Option (List ℕ) → List (List ℕ)
kept_names (Some name) = name ∷ []
kept_names None = []

-- three names, and options
abbrev pub mesh_job : List (List ℕ) → Given → Result Job WordFault
mesh_job (input ∷ mesh ∷ report ∷ []) given = do
  epsilon ← given_number 2 1 most_epsilon faults.Epsilon given.epsilon
  cells ← given_cells given.cells
  budget ← given_number 100000 0 1000000 faults.Budget given.budget
  digits ← given_digits given.digits
  names ← check_names (input ∷ mesh ∷ report ∷ kept_names given.kept)
  Ok (jobs.Mesh (record { input = input; mesh = mesh; report = report; epsilon = epsilon; cells = cells; budget = budget; digits = digits; kept = given.kept }))
mesh_job words given = Err faults.Words

abbrev pub check_job : List (List ℕ) → Given → Result Job WordFault
check_job (input ∷ mesh ∷ report ∷ []) given = do
  digits ← given_digits given.digits
  names ← check_names (input ∷ mesh ∷ report ∷ [])
  Ok (jobs.Check (record { input = input; mesh = mesh; report = report; digits = digits }))
check_job words given = Err faults.Words

-- two numbers and three names
abbrev pub demo_job : List (List ℕ) → Result Job WordFault
demo_job (k ∷ seed ∷ off ∷ mesh ∷ report ∷ []) = do
  k ← number_in 1 64 faults.K k
  seed ← number_in 0 4294967295 faults.Seed seed
  names ← check_names (off ∷ mesh ∷ report ∷ [])
  Ok (jobs.Demo (record { k = k; seed = seed; off = off; mesh = mesh; report = report }))
demo_job words = Err faults.Words

abbrev pub job_of : Command → Read → Result Job WordFault
job_of commands.Mesh read = mesh_job read.words read.values
job_of commands.Check read = check_job read.words read.values
job_of commands.Demo read = demo_job read.words

abbrev pub asked : Option Command → List (List ℕ) → Result Job WordFault
asked (Some command) words = sorted command nothing words >>= job_of command
asked None words = Err faults.Command

-- the first word is the command
abbrev pub meaning : List (List ℕ) → Result Job WordFault
meaning [] = Err faults.NoCommand
meaning (word ∷ words) = asked (command_of word) words
