use Rattle.std.proofs.Common.{◌≡◌, ◌∙◌, length, sym, arith, rules, SFits, to_z-of_z}
use mir.Syntax.{w128}
use Rattle.grid.specs.Determinants.{det}
use Rattle.plain_ops.proofs.after.det_of.Goals as goal
use Rattle.mesh_types.proofs.ForCallers.{det-four}

pub returns : goal.returns
returns c =
    let fits : SFits w128 c.det.result = search rules in
    let four : length c.args.tet.0 ≡ 4 = omega arith in
    to_z-of_z fits
    ∙ (c.det.ensures
    ∙ ((λ j. det (c.point_or_origin.ensures.value j) (c.point_or_origin-2.ensures.value j) (c.point_or_origin-3.ensures.value j) (c.point_or_origin-4.ensures.value j)) ∙ sym (det-four c.args.points.now c.args.tet.0 four)))
