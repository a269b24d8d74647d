-- The further words of a command, read from left to right.
use Rattle.std.specs.Prelude.{ℕ, Bool, true, false, ◌&&◌, ◌==◌, nat_le, if◌then◌else◌, List, [], ◌∷◌, ◌++◌, length, codes, Option, Some, None, Result, Ok, Err}
use Rattle.std.specs.List.{list_any, before_first, after_first}
use Rattle.std.specs.Str.{bytes_eq}
use Rattle.tet_words.specs.declared.commands.Command.{Command}
use Rattle.tet_words.specs.declared.commands.Key.{Key}
use Rattle.tet_words.specs.declared.commands.Key.TheVariants as keys
use Rattle.tet_words.specs.declared.fault.WordFault.{WordFault}
use Rattle.tet_words.specs.declared.fault.WordFault.TheVariants as faults
use Rattle.tet_words.specs.declared.sorting.Next.{Next}
use Rattle.tet_words.specs.declared.sorting.Next.TheVariants as nexts
use Rattle.tet_words.specs.Commands.{option_of}
use Rattle.tet_words.specs.Steps.{◌>>=◌}

-- the values of the options that are given
pub record Given : Type 0 where
  pub epsilon : Option (List ℕ)
  pub cells : Option (List ℕ)
  pub budget : Option (List ℕ)
  pub digits : Option (List ℕ)
  pub kept : Option (List ℕ)

-- what was read: the positional words and the values, and what the next word is read as
pub record Read : Type 0 where
  pub words : List (List ℕ)
  pub values : Given
  pub next : Next

abbrev pub nothing : Read
nothing = record { words = []; values = record { epsilon = None; cells = None; budget = None; digits = None; kept = None }; next = nexts.Any }

abbrev pub is_some : Option (List ℕ) → Bool
is_some (Some text) = true
is_some None = false

abbrev pub is_given : Given → Key → Bool
is_given v keys.Epsilon = is_some v.epsilon
is_given v keys.Cells = is_some v.cells
is_given v keys.Budget = is_some v.budget
is_given v keys.Digits = is_some v.digits
is_given v keys.Kept = is_some v.kept

abbrev pub set_value : Key → List ℕ → Given → Given
set_value keys.Epsilon text v = record { epsilon = Some text; cells = v.cells; budget = v.budget; digits = v.digits; kept = v.kept }
set_value keys.Cells text v = record { epsilon = v.epsilon; cells = Some text; budget = v.budget; digits = v.digits; kept = v.kept }
set_value keys.Budget text v = record { epsilon = v.epsilon; cells = v.cells; budget = Some text; digits = v.digits; kept = v.kept }
set_value keys.Digits text v = record { epsilon = v.epsilon; cells = v.cells; budget = v.budget; digits = Some text; kept = v.kept }
set_value keys.Kept text v = record { epsilon = v.epsilon; cells = v.cells; budget = v.budget; digits = v.digits; kept = Some text }

-- one more positional word
abbrev pub take_word : List ℕ → Read → Read
take_word word before = record { words = before.words ++ word ∷ []; values = before.values; next = before.next }

abbrev pub with_next : Next → Read → Read
with_next next before = record { words = before.words; values = before.values; next = next }

-- the value of an option, which may stand once
abbrev pub take_value : Key → List ℕ → Read → Result Read WordFault
take_value key text before =
    if is_given before.values key then Err faults.Words
    else Ok (record { words = before.words; values = set_value key text before.values; next = nexts.Any })

abbrev pub is_dashed : List ℕ → Bool
is_dashed [] = false
is_dashed (c ∷ cs) = c == 45

-- neither an option nor positional
abbrev pub is_refused : List ℕ → Bool
is_refused word = is_dashed word && nat_le 2 (length word)

abbrev pub is_equals : ℕ → Bool
is_equals c = c == 61

abbrev pub with_text : Option Key → List ℕ → Option (Key × List ℕ)
with_text (Some key) text = Some (key, text)
with_text None text = None

-- an option and its value in one word, with `=` between them
abbrev pub option_with_value : Command → List ℕ → Option (Key × List ℕ)
option_with_value command word =
    if list_any is_equals word then with_text (option_of command (before_first is_equals word)) (after_first is_equals word) else None

-- ---- one word
abbrev pub read_other : Option (Key × List ℕ) → List ℕ → Read → Result Read WordFault
read_other (Some (key, text)) word before = take_value key text before
read_other None word before = if is_refused word then Err faults.Words else Ok (take_word word before)

abbrev pub read_option : Option Key → Option (Key × List ℕ) → List ℕ → Read → Result Read WordFault
read_option (Some key) with_value word before = Ok (with_next (nexts.Value key) before)
read_option None with_value word before = read_other with_value word before

-- a word that may be an option: `--`, an option, an option with its value, or a positional word
abbrev pub read_any : Command → List ℕ → Read → Result Read WordFault
read_any command word before =
    if bytes_eq word (codes "--") then Ok (with_next nexts.Positional before)
    else read_option (option_of command word) (option_with_value command word) word before

-- the value of an option that stands in a word of its own
abbrev pub read_value : Key → List ℕ → Read → Result Read WordFault
read_value key word before = if is_dashed word then Err faults.Words else take_value key word before

abbrev pub read_as : Next → Command → List ℕ → Read → Result Read WordFault
read_as nexts.Any command word before = read_any command word before
read_as (nexts.Value key) command word before = read_value key word before
read_as nexts.Positional command word before = Ok (take_word word before)

abbrev pub step : Command → List ℕ → Read → Result Read WordFault
step command word before = read_as before.next command word before

-- ---- all words
-- no option waits for its value
abbrev pub closed : Next → Read → Result Read WordFault
closed nexts.Any read = Ok read
closed (nexts.Value key) read = Err faults.Words
closed nexts.Positional read = Ok read

abbrev pub sorted : Command → Read → List (List ℕ) → Result Read WordFault
sorted command before [] = closed before.next before
sorted command before (word ∷ words) = step command word before >>= λ after. sorted command after words
