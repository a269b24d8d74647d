use Rattle.std.proofs.Common.{◌≡◌, ◌++◌, drop}
use Rattle.local_ops.specs.Smoothing.{corners_but}
use Rattle.local_ops.proofs.smoothing.push_corners.Given as goal

abbrev pub invariant-loop-corner : goal.invariant-loop-corner
invariant-loop-corner l = record {
  are : l.corner-items ≡ l.fn.tet.0;
  rest : l.found.items ++ corners_but l.u (drop l.corner-index l.corner-items) ≡ l.initial.found.items ++ corners_but l.u l.corner-items;
}
