use Rattle.std.proofs.Common.{◌≡◌, drop}
use Rattle.std.specs.List.{list_any}
use Rattle.mesh_types.specs.CuttingRule.{lies_above, phase_plane}
use Rattle.cutting_rule.proofs.triangle.CuttingTriangle.is_above.Given as goal

abbrev pub invariant-loop-point : goal.invariant-loop-point
invariant-loop-point l = list_any (lies_above (phase_plane l.self l.i)) (drop l.point-index l.points) ≡ list_any (lies_above (phase_plane l.self l.i)) l.points
