use Rattle.std.proofs.Common.{◌≡◌, drop}
use Rattle.mesh_types.specs.Results.{first_outside}
use Rattle.plain_ops.proofs.swaps.first_outside.Given as goal

abbrev pub invariant-loop-corner : goal.invariant-loop-corner
invariant-loop-corner l = first_outside l.tet.0 (drop l.corner-index l.corners) ≡ first_outside l.tet.0 l.corners
