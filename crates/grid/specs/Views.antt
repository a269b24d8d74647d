-- Tetrahedra and faces of the code as those of the definitions.
use Rattle.std.specs.Prelude.{ℕ, List, map}
use Rattle.grid.specs.declared.shapes.Tet.{Tet}
use Rattle.grid.specs.declared.shapes.Face.{Face}

-- tetrahedra by their corners
abbrev pub corners_of : List Tet → List (List ℕ)
corners_of tets = map (λ t. t.0) tets

-- faces by their corners
abbrev pub triples_of : List Face → List (List ℕ)
triples_of faces = map (λ f. f.0) faces
