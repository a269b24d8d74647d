use Rattle.std.proofs.Common.{◌∙◌}
use Rattle.cutting_rule.proofs.CornerSigns.{signs-below, signs-on, signs-above}
use Rattle.cutting_rule.proofs.signs.snap_corners.Goals as goal

pub returns-clause-below : goal.returns-clause-below
returns-clause-below c = c.sides_of.ensures.below ∙ signs-below c.args.plane.now c.args.corners.now c.corner_signs-each.result c.corner_signs-each.ensures

pub returns-clause-on : goal.returns-clause-on
returns-clause-on c = c.sides_of.ensures.on ∙ signs-on c.args.plane.now c.args.corners.now c.corner_signs-each.result c.corner_signs-each.ensures

pub returns-clause-above : goal.returns-clause-above
returns-clause-above c = c.sides_of.ensures.above ∙ signs-above c.args.plane.now c.args.corners.now c.corner_signs-each.result c.corner_signs-each.ensures
