use Rattle.std.proofs.Common.{◌∙◌, sym, rules, SFits, to_z-of_z}
use mir.Syntax.{w128}
use Rattle.grid.specs.Determinants.{det}
use Rattle.local_ops.proofs.Moved.{det_with-four}
use Rattle.local_ops.proofs.moving.det_with.Goals as goal

pub returns : goal.returns
returns c =
    let fits : SFits w128 c.det.result = search rules in
    to_z-of_z fits
    ∙ (c.det.ensures
    ∙ ((λ j. det (c.point_with.ensures.value j) (c.point_with-2.ensures.value j) (c.point_with-3.ensures.value j) (c.point_with-4.ensures.value j)) ∙ sym (det_with-four c.args.slots.now.points c.args.u c.args.at c.args.tet.0 c.requires.there.four)))
