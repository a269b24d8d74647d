use Rattle.std.proofs.Common.{[], refl, sym, arith, below_more}
use Rattle.std.proofs.lemmas.Bool.{true≢false}
use Rattle.grid.specs.declared.shapes.Tet.{Tet}
use Rattle.grid.specs.Determinants.{IsPositive}
use Rattle.cutting_rule.proofs.ForCallers.{all-at}
use Rattle.plain_ops.proofs.RimPoints.{at-place}
use Rattle.plain_ops.proofs.after.are_positive.Goals as goal

abbrev no_tet : Tet
no_tet = record { 0 = [] }

pub returns-then-not-is_positive : goal.returns-then-not-is_positive
returns-then-not-is_positive c =
    (λ t. absurd (true≢false (sym t)), λ a. c.if-not-is_positive.ensures.1 (at-place (λ (x : Tet). x.0) (IsPositive c.args.points.now) c.args.tets.now no_tet c.loop-tet.tet-index a (omega arith)))

pub loop-tet-preserved : goal.loop-tet-preserved
loop-tet-preserved c = below_more _ _ c.loop-tet.invariant (c.if-not-is_positive.ensures.0 refl)

pub returns : goal.returns
returns c = (λ _. all-at (λ (x : Tet). x.0) (IsPositive c.args.points.now) c.args.tets.now no_tet (λ k lt. c.loop-tet.invariant k (omega arith)), λ _. refl)
