-- The commands and their options.
use Rattle.std.specs.Prelude.{ℕ, Bool, true, false, if◌then◌else◌, List, codes, Option, Some, None}
use Rattle.std.specs.Str.{bytes_eq}
use Rattle.tet_words.specs.declared.commands.Command.{Command}
use Rattle.tet_words.specs.declared.commands.Command.TheVariants as commands
use Rattle.tet_words.specs.declared.commands.Key.{Key}
use Rattle.tet_words.specs.declared.commands.Key.TheVariants as keys

-- the command of that name
abbrev pub command_of : List ℕ → Option Command
command_of word =
    if bytes_eq word (codes "mesh") then Some commands.Mesh
    else if bytes_eq word (codes "check") then Some commands.Check
    else if bytes_eq word (codes "demo") then Some commands.Demo else None

-- the option of that name
abbrev pub key_of : List ℕ → Option Key
key_of word =
    if bytes_eq word (codes "--epsilon") then Some keys.Epsilon
    else if bytes_eq word (codes "--cells") then Some keys.Cells
    else if bytes_eq word (codes "--budget") then Some keys.Budget
    else if bytes_eq word (codes "--digits") then Some keys.Digits
    else if bytes_eq word (codes "--kept") then Some keys.Kept else None

-- the options of each command
abbrev pub takes : Command → Key → Bool
takes commands.Mesh key = true
takes commands.Check keys.Epsilon = false
takes commands.Check keys.Cells = false
takes commands.Check keys.Budget = false
takes commands.Check keys.Digits = true
takes commands.Check keys.Kept = false
takes commands.Demo key = false

abbrev pub taken : Command → Option Key → Option Key
taken command (Some key) = if takes command key then Some key else None
taken command None = None

-- the option of that name, where the command takes it
abbrev pub option_of : Command → List ℕ → Option Key
option_of command word = taken command (key_of word)
