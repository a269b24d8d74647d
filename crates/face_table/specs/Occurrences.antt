-- How often an oriented face occurs in a list of faces.
use Rattle.std.specs.Prelude.{◌≡◌, ℕ, List, count_by}
use Rattle.grid.specs.Simplices.{is_rotation}

-- how often the face occurs, rotations being the same face
abbrev pub occurrences : List ℕ → List (List ℕ) → ℕ
occurrences f faces = count_by (λ g. is_rotation f g) faces

-- each face occurs as often in the one list as in the other
abbrev pub HaveSameFaces : List (List ℕ) → List (List ℕ) → Type 0
HaveSameFaces faces others = (f : List ℕ) → occurrences f faces ≡ occurrences f others
