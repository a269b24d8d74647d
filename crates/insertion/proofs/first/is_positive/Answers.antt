use Rattle.grid.specs.Limits.{largest_side}
use Rattle.cutting_rule.proofs.ForCallers.{points-in}
use Rattle.insertion.proofs.first.is_positive.Goals as goal

pub is_positive_at-requires : goal.is_positive_at-requires
is_positive_at-requires c =
    points-in largest_side c.args.slots.now.points c.corner_points.result c.args.tet.0 c.corner_points.ensures c.requires.in_box c.requires.there.in_range
