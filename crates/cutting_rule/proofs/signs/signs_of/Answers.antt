use Rattle.std.proofs.Common.{arith}
use Rattle.std.proofs.lemmas.Grind.{common_steps}
use Rattle.mesh_types.specs.CuttingRule.{lies_above, lies_below, lies_on}
use Rattle.cutting_rule.proofs.signs.signs_of.Goals as goal

pub loop-point-preserved : goal.loop-point-preserved
unfolding lies_below lies_above lies_on
loop-point-preserved c = grind (arith, common_steps)
