use Rattle.std.proofs.Common.{[], refl, arith, get_or}
use Rattle.grid.specs.declared.shapes.Tet.{Tet}
use Rattle.grid.specs.Limits.{largest_side}
use Rattle.cutting_rule.specs.Section.{section_in}
use Rattle.cutting_rule.proofs.ForCallers.{points-in, mapped-step, mapped-end}
use Rattle.plain_ops.proofs.wanted.section_of.Goals as goal

abbrev no_tet : Tet
no_tet = record { 0 = [] }

pub corner_points-corners-requires : goal.corner_points-corners-requires
corner_points-corners-requires c = c.requires.tets_are c.loop-tet.tet-index no_tet (omega arith)

pub signs-signs-requires : goal.signs-signs-requires
signs-signs-requires c =
    points-in largest_side c.args.points.now c.corner_points-corners.result (get_or c.args.tets.now c.loop-tet.tet-index no_tet).0 c.corner_points-corners.ensures c.requires.in_box (c.requires.tets_are c.loop-tet.tet-index no_tet (omega arith)).in_range

pub push_section-requires-clause-corners_in : goal.push_section-requires-clause-corners_in
push_section-requires-clause-corners_in c =
    points-in largest_side c.args.points.now c.corner_points-corners.result (get_or c.args.tets.now c.loop-tet.tet-index no_tet).0 c.corner_points-corners.ensures c.requires.in_box (c.requires.tets_are c.loop-tet.tet-index no_tet (omega arith)).in_range

pub loop-tet-preserved : goal.loop-tet-preserved
loop-tet-preserved c =
    let points = c.args.points.now in
    mapped-step (λ (x : Tet). x.0) (section_in points c.args.triangle.now) c.args.tets.now c.loop-tet.tet-index no_tet _ _ _ _ (omega arith) refl (c.in_ok-push_section.ensures points c.corner_points-corners.ensures) c.loop-tet.invariant

pub returns : goal.returns
returns c = mapped-end (λ (x : Tet). x.0) (section_in c.args.points.now c.args.triangle.now) c.args.tets.now c.loop-tet.tet-index _ _ (omega arith) c.loop-tet.invariant
