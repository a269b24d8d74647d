use Rattle.std.proofs.Common.{Ok, [], ap, below_more}
use Rattle.grid.specs.declared.shapes.Tet.{Tet}
use Rattle.cutting_rule.proofs.ForCallers.{names-at}
use Rattle.insertion.specs.Lasting.{IsLastingFault, points_with}
use Rattle.insertion.proofs.PieceCorners.{corners-in}
use Rattle.insertion.proofs.lasting.first_lasting.Goals as goal

pub points_after-corners-requires : goal.points_after-corners-requires
points_after-corners-requires c = c.requires.tets c.loop-tet.tet-index _ c.loop-tet-test.true

pub is_lasting_fault-requires : goal.is_lasting_fault-requires
is_lasting_fault-requires c = record { in_box = corners-in c.args.slots.now.points c.args.cuts.now c.points_after-corners.result _ c.points_after-corners.ensures c.requires.in_box (c.requires.tets c.loop-tet.tet-index _ c.loop-tet-test.true) }

pub returns-then-is_fault : goal.returns-then-is_fault
returns-then-is_fault c =
    let points = points_with c.args.slots.now.points c.args.cuts.now in
    let none : Tet = record { 0 = [] } in
    names-at (λ (t : Tet). t.0) (IsLastingFault points c.args.triangle.now) points c.args.pieces.now c.loop-tet.tet-index none c.points_after-corners.result c.loop-tet-test.true
    c.loop-tet.invariant
    (c.in_ok-is_fault.ensures.yes points c.points_after-corners.ensures (ap Ok c.if-is_fault.true)) c.points_after-corners.ensures

pub loop-tet-preserved : goal.loop-tet-preserved
loop-tet-preserved c =
    let points = points_with c.args.slots.now.points c.args.cuts.now in
    below_more _ _ c.loop-tet.invariant (c.in_ok-is_fault.ensures.no points c.points_after-corners.ensures (ap Ok c.if-is_fault.false))
