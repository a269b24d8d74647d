-- Tracked triples as a set in rising order.
use Rattle.std.specs.Prelude.{ℕ, if◌then◌else◌, List, [], ◌∷◌, ◌++◌}
use Rattle.grid.specs.Meshes.{Mesh, is_below}

-- x in its place in a list in rising order, unless it is there
abbrev pub place : List ℕ → List (List ℕ) → List (List ℕ)
place x [] = x ∷ []
place x (y ∷ ys) = if is_below x y then x ∷ y ∷ ys else if is_below y x then y ∷ place x ys else y ∷ ys

-- the triples in rising order, each once
abbrev pub in_order_once : List (List ℕ) → List (List ℕ)
in_order_once [] = []
in_order_once (x ∷ xs) = place x (in_order_once xs)

-- the mesh with these triples tracked too
unfoldable pub with_tracked : Mesh → List (List ℕ) → Mesh
with_tracked m triples =
    record { points = m.points; tets = m.tets; tracked = in_order_once (m.tracked ++ triples); made = m.made }
