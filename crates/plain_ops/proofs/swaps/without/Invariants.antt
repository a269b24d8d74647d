use Rattle.std.proofs.Common.{◌≡◌, ◌++◌, drop}
use Rattle.grid.specs.Views.{corners_of}
use Rattle.mesh_types.specs.Results.{without}
use Rattle.plain_ops.specs.PlainResults.{left_of}
use Rattle.plain_ops.proofs.swaps.without.Given as goal

abbrev pub invariant-loop-other : goal.invariant-loop-other
invariant-loop-other l = corners_of l.left.items ++ left_of l.is_out l.tet.0 (corners_of (drop l.other-index l.tets)) ≡ without l.tet.0 (corners_of l.tets)
