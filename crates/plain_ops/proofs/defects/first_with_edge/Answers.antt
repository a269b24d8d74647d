use Rattle.std.proofs.Common.{◌≡◌, ◌∙◌, sym, arith, [], true, false, below_more}
use Rattle.std.specs.List.{list_any}
use Rattle.std.proofs.lemmas.Bool.{true≢false}
use Rattle.grid.specs.declared.shapes.Tet.{Tet}
use Rattle.grid.specs.Simplices.{has_all}
use Rattle.cutting_rule.specs.Edges.{numbers_of}
use Rattle.cutting_rule.proofs.ForCallers.{names-at, all-at}
use Rattle.plain_ops.proofs.defects.first_with_edge.Goals as goal

abbrev no_tet : Tet
no_tet = record { 0 = [] }

pub corner_points-requires : goal.corner_points-requires
corner_points-requires c = c.requires c.loop-tet.tet-index no_tet (omega arith)

pub returns-then-has_one_of : goal.returns-then-has_one_of
returns-then-has_one_of c =
    let es = numbers_of c.args.edges.now in
    names-at (λ (x : Tet). x.0) (λ x. list_any (has_all x) es ≡ true) c.args.points.now c.args.tets.now c.loop-tet.tet-index no_tet c.corner_points.result (omega arith)
    (λ k below e. true≢false (sym e ∙ c.loop-tet.invariant k below))
    (sym c.if-has_one_of.ensures) c.corner_points.ensures

pub loop-tet-preserved : goal.loop-tet-preserved
loop-tet-preserved c = below_more _ _ c.loop-tet.invariant (sym c.if-has_one_of.ensures)

pub returns : goal.returns
returns c = all-at (λ (x : Tet). x.0) (λ x. list_any (has_all x) (numbers_of c.args.edges.now) ≡ false) c.args.tets.now no_tet (λ k lt. c.loop-tet.invariant k (omega arith))
