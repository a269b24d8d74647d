use Rattle.std.proofs.Common.{◌≡◌, ◌||◌, drop}
use Rattle.std.specs.List.{find}
use Rattle.grid.specs.Simplices.{reversed}
use Rattle.grid.specs.Views.{corners_of}
use Rattle.mesh_types.specs.Results.{has_face}
use Rattle.plain_ops.proofs.swaps.first_with_face.Given as goal

abbrev pub invariant-loop-tet : goal.invariant-loop-tet
invariant-loop-tet l = find (λ x. has_face l.face.0 x || has_face (reversed l.face.0) x) (corners_of (drop l.tet-index l.tets)) ≡ find (λ x. has_face l.face.0 x || has_face (reversed l.face.0) x) (corners_of l.tets)
