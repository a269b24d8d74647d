use Rattle.std.proofs.Common.{◌≡◌, ◌+◌, ◌*◌, ◌≤◌, drop}
use Rattle.grid.specs.Simplices.{count}
use Rattle.grid.specs.Views.{corners_of}
use Rattle.local_ops.proofs.worsening.count_of.Given as goal

abbrev pub invariant-loop-tet : goal.invariant-loop-tet
invariant-loop-tet l = record {
  few : l.found ≤ 4 * l.tet-index;
  rest : l.found + count l.fn.face.0 (corners_of (drop l.tet-index l.tets)) ≡ count l.fn.face.0 (corners_of l.tets);
}
