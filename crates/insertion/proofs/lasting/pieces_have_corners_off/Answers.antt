use Rattle.std.proofs.Common.{◌≡◌, ◌∙◌, false, pos, List, ap, sym}
use Rattle.std.specs.List.{list_all}
use Rattle.std.specs.Ordering.{int_eq}
use Rattle.std.proofs.lemmas.List.Elements.{All-more}
use Rattle.grid.specs.declared.shapes.Point.{Point}
use Rattle.grid.specs.declared.shapes.Tet.{Tet}
use Rattle.cutting_rule.specs.Touching.{signs_at}
use Rattle.mesh_types.specs.Phases.{points_of}
use Rattle.insertion.specs.Lasting.{points_with}
use Rattle.insertion.proofs.PieceCorners.{corners-in}
use Rattle.insertion.proofs.lasting.pieces_have_corners_off.Goals as goal

pub points_after-corners-requires : goal.points_after-corners-requires
points_after-corners-requires c = c.requires.tets c.loop-tet.tet-index _ c.loop-tet-test.true

pub signs-requires : goal.signs-requires
signs-requires c =
    corners-in c.args.slots.now.points c.args.cuts.now c.points_after-corners.result _ c.points_after-corners.ensures c.requires.in_box (c.requires.tets c.loop-tet.tet-index _ c.loop-tet-test.true)

pub loop-tet-preserved : goal.loop-tet-preserved
loop-tet-preserved c =
    let points = points_with c.args.slots.now.points c.args.cuts.now in
    All-more (λ (t : Tet). list_all (λ s. int_eq s (pos 0)) (signs_at c.args.triangle.now (points_of points t.0)) ≡ false) c.args.pieces.now c.loop-tet.tet-index _ c.loop-tet-test.true c.loop-tet.invariant
    (ap (λ (ps : List Point). list_all (λ s. int_eq s (pos 0)) (signs_at c.args.triangle.now ps)) (sym c.points_after-corners.ensures)
    ∙ (ap (λ ss. list_all (λ s. int_eq s (pos 0)) ss) (sym c.signs.ensures) ∙ (sym c.are_all_on.ensures ∙ c.if-are_all_on.false)))
