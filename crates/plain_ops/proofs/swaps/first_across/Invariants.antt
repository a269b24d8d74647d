use Rattle.std.proofs.Common.{◌≡◌, drop}
use Rattle.std.specs.List.{find}
use Rattle.grid.specs.Views.{corners_of}
use Rattle.mesh_types.specs.Results.{is_across}
use Rattle.plain_ops.proofs.swaps.first_across.Given as goal

abbrev pub invariant-loop-other : goal.invariant-loop-other
invariant-loop-other l = find (is_across l.face.0 l.tet.0) (corners_of (drop l.other-index l.tets)) ≡ find (is_across l.face.0 l.tet.0) (corners_of l.tets)
