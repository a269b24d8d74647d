-- What the searches stand on: tags by flags, and the triples of faces as a set.
use Rattle.std.specs.Prelude.{◌≡◌, ◌↔◌, ℕ, Bool, true, List, map, slice_index_or, if◌then◌else◌}
use Rattle.std.specs.List.{Contains}
use Rattle.grid.specs.declared.shapes.Face.{Face}
use Rattle.grid.specs.Simplices.{rising}
use Rattle.msh_text.specs.declared.file_mesh.MshTet.{MshTet}
use Rattle.cert_check.specs.FileMesh.{tet_at}

-- the tag at a place is 2 where it is flagged, and 1 where it is not
abbrev pub IsFlagged : List MshTet → List Bool → ℕ → Type 0
IsFlagged tets flags i = (tet_at tets i).tag ≡ (if slice_index_or flags i true then 2 else 1)

-- the keys are the triples of these faces, their corners in rising order
pub record AreTriplesOf (faces : List (List ℕ)) (keys : List Face) : Type 0 where
  pub same : (f : Face) → Contains keys f ↔ Contains (map rising faces) f.0
