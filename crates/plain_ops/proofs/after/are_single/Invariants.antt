use Rattle.std.proofs.Common.{◌≡◌, drop}
use Rattle.std.specs.List.{list_all}
use Rattle.grid.specs.Views.{corners_of}
use Rattle.plain_ops.specs.Afters.{has_single_faces}
use Rattle.plain_ops.proofs.after.are_single.Given as goal

abbrev pub invariant-loop-tet : goal.invariant-loop-tet
invariant-loop-tet l = list_all (has_single_faces (corners_of l.tets)) (corners_of (drop l.tet-index l.fresh)) ≡ list_all (has_single_faces (corners_of l.tets)) (corners_of l.fresh)
