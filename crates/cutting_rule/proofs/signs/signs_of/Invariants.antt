use Rattle.std.proofs.Common.{◌≡◌, ◌||◌, drop}
use Rattle.std.specs.List.{list_any}
use Rattle.mesh_types.specs.CuttingRule.{lies_above, lies_below, lies_on}
use Rattle.cutting_rule.proofs.signs.signs_of.Given as goal

abbrev pub invariant-loop-point : goal.invariant-loop-point
invariant-loop-point l = record {
  below : (l.signs.below || list_any (lies_below l.plane) (drop l.point-index l.points)) ≡ list_any (lies_below l.plane) l.points;
  on : (l.signs.on || list_any (lies_on l.plane) (drop l.point-index l.points)) ≡ list_any (lies_on l.plane) l.points;
  above : (l.signs.above || list_any (lies_above l.plane) (drop l.point-index l.points)) ≡ list_any (lies_above l.plane) l.points;
}
