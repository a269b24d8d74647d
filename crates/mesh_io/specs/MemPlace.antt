-- Files by their numbers in the list.
use Rattle.std.specs.Prelude.{◌≡◌, ◌==◌, ℕ, ◌<◌, zero, suc, if◌then◌else◌, List, [], ◌∷◌, length, Option, None, Some}
use Rattle.mesh_io.specs.MemFiles.{name_at}
use Rattle.mesh_io.specs.declared.mem_file.MemFile.{MemFile}
use Rattle.mesh_io.specs.declared.mem_place.Place.{Place}

-- a place as the number of its file and the bytes before it
abbrev pub place_of : Place → ℕ × ℕ
place_of p = (p.file, p.at)

-- the file with that number is there and has that name
abbrev pub HasName : List MemFile → ℕ → List ℕ → Type 0
HasName files i name = (i < length files) × (name_at files i ≡ name)

-- the file with that number has this content now
abbrev pub put : List MemFile → ℕ → List ℕ → List MemFile
put [] i bytes = []
put (f ∷ fs) zero bytes = record { name = f.name; bytes = bytes } ∷ fs
put (f ∷ fs) (suc i) bytes = f ∷ put fs i bytes

-- the reading place after the file with that number was emptied
abbrev pub restart : Option (ℕ × ℕ) → ℕ → Option (ℕ × ℕ)
restart None i = None
restart (Some r) i = if r.0 == i then Some (i, 0) else Some r
