use Rattle.std.proofs.Common.{◌∙◌, sym, arith, rules, SFits, to_z-of_z}
use mir.Syntax.{w128}
use Rattle.grid.specs.Determinants.{det}
use Rattle.mesh_types.proofs.ForCallers.{det-four, corner-in}
use Rattle.local_ops.proofs.measures.det_of.Goals as goal

pub det-requires-clause-a_in : goal.det-requires-clause-a_in
det-requires-clause-a_in c = corner-in _ c.args.slots.now.points c.args.tet.0 0 c.point.result c.requires.in_box c.requires.there.in_range (omega (arith, c.requires.there.four)) c.point.ensures

pub det-requires-clause-b_in : goal.det-requires-clause-b_in
det-requires-clause-b_in c = corner-in _ c.args.slots.now.points c.args.tet.0 1 c.point-2.result c.requires.in_box c.requires.there.in_range (omega (arith, c.requires.there.four)) c.point-2.ensures

pub det-requires-clause-c_in : goal.det-requires-clause-c_in
det-requires-clause-c_in c = corner-in _ c.args.slots.now.points c.args.tet.0 2 c.point-3.result c.requires.in_box c.requires.there.in_range (omega (arith, c.requires.there.four)) c.point-3.ensures

pub det-requires-clause-d_in : goal.det-requires-clause-d_in
det-requires-clause-d_in c = corner-in _ c.args.slots.now.points c.args.tet.0 3 c.point-4.result c.requires.in_box c.requires.there.in_range (omega (arith, c.requires.there.four)) c.point-4.ensures

pub returns : goal.returns
returns c =
    let fits : SFits w128 c.det.result = search rules in
    to_z-of_z fits
    ∙ (c.det.ensures
    ∙ ((λ j. det (c.point.ensures j) (c.point-2.ensures j) (c.point-3.ensures j) (c.point-4.ensures j)) ∙ sym (det-four c.args.slots.now.points c.args.tet.0 c.requires.there.four)))
