-- What input files give, one after the other, up to the first that does not serve.
use Rattle.std.specs.Prelude.{◌≡◌, ◌⊎◌, ℕ, ◌<◌, ◌≤◌, ◌^◌, List, length, Some, None, Result, Ok, Err}
use Rattle.mesh_io.specs.Folder.{Files}
use Rattle.printing.specs.Printed.{too_long_line}

-- the most bytes of a file that is read
abbrev pub most_bytes : ℕ
most_bytes = 2 ^ 30

-- what is found of inputs
pub data Found (X : Type 0) : Type 0 where
  -- all are accepted, and give the value
  Gives : X → Found X
  -- the file of that name is not there, and those before it are accepted
  Missing : List ℕ → Found X
  -- one is refused with that line, and those before it are accepted
  Refused : List ℕ → Found X
  -- those before the file of that name are accepted
  Reaches : List ℕ → Found X

-- what is found in the files of a folder
abbrev pub Inputs : Type 0 → Type 1
Inputs X = Files → Found X → Type 0

-- an input, and then those that follow it, by what it gives
infixl 10 ◌>>=◌
unfoldable pub ◌>>=◌ : {X Y : Type 0} → Inputs X → (X → Inputs Y) → Inputs Y
◌>>=◌ {X} first next files (Gives y) = (x : X) × first files (Gives x) × next x files (Gives y)
◌>>=◌ {X} first next files (Missing name) = first files (Missing name) ⊎ ((x : X) × first files (Gives x) × next x files (Missing name))
◌>>=◌ {X} first next files (Refused line) = first files (Refused line) ⊎ ((x : X) × first files (Gives x) × next x files (Refused line))
◌>>=◌ {X} first next files (Reaches name) = first files (Reaches name) ⊎ ((x : X) × first files (Gives x) × next x files (Reaches name))

-- nothing is read: the value is there, or a line refuses it
abbrev pub known : {X : Type 0} → Result X (List ℕ) → Inputs X
known result files (Gives x) = result ≡ Ok x
known result files (Missing name) = ⊥
known result files (Refused line) = result ≡ Err line
known result files (Reaches name) = ⊥

-- what a text says: a value, or the line that refuses it
abbrev pub Text : Type 0 → Type 1
Text X = List ℕ → Result X (List ℕ) → Type 0

-- a file of which the text says the value; one that is too long is refused
abbrev pub file : {X : Type 0} → (name : List ℕ) → Text X → Inputs X
file name Says files (Gives x) = (bytes : List ℕ) × (files name ≡ Some bytes) × (length bytes ≤ most_bytes) × Says bytes (Ok x)
file name Says files (Missing other) = (files name ≡ None) × (other ≡ name)
file name Says files (Refused line) =
    (bytes : List ℕ) × (files name ≡ Some bytes)
    × (((most_bytes < length bytes) × (line ≡ too_long_line name)) ⊎ ((length bytes ≤ most_bytes) × Says bytes (Err line)))
file name Says files (Reaches other) = other ≡ name

-- the bytes themselves
abbrev pub AreBytes : Text (List ℕ)
AreBytes bytes result = result ≡ Ok bytes
