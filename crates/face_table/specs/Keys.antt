-- Faces by their least rotations, each with its count.
use Rattle.std.specs.Prelude.{◌≡◌, ℕ, Bool, None, List, [], ◌∷◌, replicate}
use Rattle.std.specs.Cmp.Lexicographic.{slice_cmp}
use Rattle.std.specs.List.{flat_map}
use Rattle.std.specs.Map.{lookup}
use Rattle.std.specs.Ordering.{nat_cmp, ord_min}
use Rattle.grid.specs.declared.shapes.Face.{Face}
use Rattle.grid.specs.Simplices.{same_triple}

-- the lesser of two triples, in the order of their numbers
abbrev pub lesser : List ℕ → List ℕ → List ℕ
lesser f g = ord_min (slice_cmp nat_cmp) f g

-- the least of a face's three rotations
abbrev pub least_rotation : List ℕ → List ℕ
least_rotation (a ∷ b ∷ c ∷ []) = lesser (lesser (a ∷ b ∷ c ∷ []) (b ∷ c ∷ a ∷ [])) (c ∷ a ∷ b ∷ [])
least_rotation f = f

abbrev pub same_key : Face → Face → Bool
same_key f g = same_triple f.0 g.0

-- the faces that are counted, each as often as it is
abbrev pub faces_of : List (Face × ℕ) → List (List ℕ)
faces_of entries = flat_map (λ e. replicate e.1 e.0.0) entries

-- each key is the least of its rotations, and none stands twice
abbrev pub AreKeys : List (Face × ℕ) → Type 0
AreKeys [] = Unit {0}
AreKeys (e ∷ es) = (least_rotation e.0.0 ≡ e.0.0) × (lookup (same_key e.0) es ≡ None) × AreKeys es
