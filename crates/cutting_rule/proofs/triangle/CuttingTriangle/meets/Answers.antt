use Rattle.std.proofs.Common.{◌∙◌, ap}
use Rattle.grid.specs.declared.shapes.Tri.{Tri}
use Rattle.mesh_types.specs.CuttingRule.{boxes_meet}
use Rattle.cutting_rule.proofs.Meeting.{is_met-boxes}
use Rattle.cutting_rule.proofs.triangle.CuttingTriangle.meets.Goals as goal

pub returns : goal.returns
returns c =
    c.meets.ensures
    ∙ (is_met-boxes c.self.inside.bounds.lo c.self.inside.bounds.hi c.self.inside.tri.0 c.args.points.now c.self.invariant.bounds
    ∙ ap (λ (t : Tri). boxes_meet c.args.points.now t.0) c.self.view_is)
