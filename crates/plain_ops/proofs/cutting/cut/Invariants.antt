use Rattle.std.proofs.Common.{◌≡◌, All}
use Rattle.grid.specs.Boxes.{IsInBox}
use Rattle.grid.specs.Meshes.{IsWithinLimits}
use Rattle.grid.specs.Limits.{largest_side}
use Rattle.mesh_types.specs.Views.{mesh_of}
use Rattle.cutting_rule.specs.Until.{until}
use Rattle.plain_ops.proofs.cutting.cut.Given as goal

abbrev pub invariant-loop-i : goal.invariant-loop-i
invariant-loop-i l = record {
  mesh : mesh_of l.cut ≡ until (mesh_of l.mesh) l.triangle l.i;
  within : IsWithinLimits (mesh_of l.cut);
  in_box : All (IsInBox largest_side) l.cut.points;
}
