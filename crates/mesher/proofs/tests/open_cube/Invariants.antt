use Rattle.std.proofs.Common.{◌≡◌, All, length}
use Rattle.grid.specs.Boxes.{IsTriInBox}
use Rattle.grid.specs.Limits.{largest_side}
use Rattle.mesher.proofs.tests.open_cube.Given as goal

abbrev pub invariant-loop-i : goal.invariant-loop-i
invariant-loop-i l = record {
  count : length l.triangles.items ≡ l.i;
  inside : All (IsTriInBox largest_side) l.triangles.items;
}
