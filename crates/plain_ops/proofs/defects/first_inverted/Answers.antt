use Rattle.std.proofs.Common.{refl, arith, [], below_more}
use Rattle.grid.specs.declared.shapes.Tet.{Tet}
use Rattle.grid.specs.Determinants.{IsPositive}
use Rattle.cutting_rule.proofs.ForCallers.{names-at, all-at}
use Rattle.plain_ops.proofs.defects.first_inverted.Goals as goal

abbrev no_tet : Tet
no_tet = record { 0 = [] }

pub is_positive-requires-clause-there : goal.is_positive-requires-clause-there
is_positive-requires-clause-there c = c.requires.tets_are c.loop-tet.tet-index no_tet (omega arith)

pub corner_points-requires : goal.corner_points-requires
corner_points-requires c = c.requires.tets_are c.loop-tet.tet-index no_tet (omega arith)

pub returns-then-not-is_positive : goal.returns-then-not-is_positive
returns-then-not-is_positive c =
    let points = c.args.points.now in
    names-at (λ (x : Tet). x.0) (λ x. ¬ IsPositive points x) points c.args.tets.now c.loop-tet.tet-index no_tet c.corner_points.result (omega arith)
    (λ k below inverted. inverted (c.loop-tet.invariant k below))
    (λ p. let no_way = c.if-not-is_positive.ensures.1 p in cc no_way) c.corner_points.ensures

pub loop-tet-preserved : goal.loop-tet-preserved
loop-tet-preserved c = below_more _ _ c.loop-tet.invariant (c.if-not-is_positive.ensures.0 refl)

pub returns : goal.returns
returns c = all-at (λ (x : Tet). x.0) (IsPositive c.args.points.now) c.args.tets.now no_tet (λ k lt. c.loop-tet.invariant k (omega arith))
