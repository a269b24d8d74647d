-- A list of files in memory.
use Rattle.std.specs.Prelude.{◌≡◌, ℕ, zero, suc, List, [], ◌∷◌, if◌then◌else◌, Option, None, Some}
use Rattle.std.specs.Str.{bytes_eq}
use Rattle.mesh_io.specs.declared.mem_file.MemFile.{MemFile}

-- the content of the first file of that name
abbrev pub lookup : List MemFile → List ℕ → Option (List ℕ)
lookup [] name = None
lookup (f ∷ fs) name = if bytes_eq f.name name then Some f.bytes else lookup fs name

-- no two files have the same name
abbrev pub AllNamesDiffer : List MemFile → Type 0
AllNamesDiffer [] = Unit {0}
AllNamesDiffer (f ∷ fs) = (lookup fs f.name ≡ None) × AllNamesDiffer fs

-- the name of the file with that number, counted from 0
abbrev pub name_at : List MemFile → ℕ → List ℕ
name_at [] i = []
name_at (f ∷ fs) zero = f.name
name_at (f ∷ fs) (suc i) = name_at fs i

-- the content of the file with that number, counted from 0
abbrev pub bytes_at : List MemFile → ℕ → List ℕ
bytes_at [] i = []
bytes_at (f ∷ fs) zero = f.bytes
bytes_at (f ∷ fs) (suc i) = bytes_at fs i
