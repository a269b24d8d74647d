use Rattle.std.proofs.Common.{All, sym, subst}
use Rattle.grid.specs.Boxes.{IsInBox}
use Rattle.grid.specs.Envelopes.{triangle_at}
use Rattle.grid.specs.Views.{triples_of}
use Rattle.grid.specs.Limits.{largest_side}
use Rattle.mesh_types.specs.Insertion.{NamesFirst, IsUncovered}
use Rattle.mesh_types.specs.Views.{mesh_of}
use Rattle.cutting_rule.proofs.ForCallers.{uncovered-first, none-first}
use Rattle.plain_ops.proofs.CutMeshes.{cut-well_formed, tracked-there}
use Rattle.plain_ops.proofs.judging.judge_near.Goals as goal

pub first_uncovered-found-requires-clause-in_box : goal.first_uncovered-found-requires-clause-in_box
first_uncovered-found-requires-clause-in_box c = subst (All (IsInBox largest_side)) (sym c.as_slice-points.ensures) c.requires.cut.cut.in_box

pub first_uncovered-found-requires-clause-there : goal.first_uncovered-found-requires-clause-there
first_uncovered-found-requires-clause-there c =
    tracked-there c.args.cut.now c.as_slice.result.now c.as_slice-points.result.now (cut-well_formed (mesh_of c.args.mesh.now) (triangle_at c.args.env.now c.args.t) c.args.cut.now c.requires.cut) c.as_slice.ensures c.as_slice-points.ensures

pub returns-in-Some : goal.returns-in-Some
returns-in-Some c =
    let m = mesh_of c.args.mesh.now in
    let n = mesh_of c.args.cut.now in
    let env = c.args.env.now in
    let e = c.args.e in
    let h : NamesFirst n.points (IsUncovered n.points env e m.tracked) n.tracked c.in-Some.corners =
    subst (λ (A : Type 0). A) (λ j. NamesFirst (c.as_slice-points.ensures j) (IsUncovered (c.as_slice-points.ensures j) env e (triples_of (c.as_slice-2.ensures j))) (triples_of (c.as_slice.ensures j)) c.in-Some.corners) c.in-Some.ensures in
    uncovered-first env c.args.t e m n c.requires.cut.some_area c.requires.cut.cut.within c.requires.positive c.requires.resolved c.requires.near c.in-Some.corners h

pub returns-in-None : goal.returns-in-None
returns-in-None c =
    let m = mesh_of c.args.mesh.now in
    let n = mesh_of c.args.cut.now in
    let env = c.args.env.now in
    let e = c.args.e in
    let h : All (λ f. ¬ IsUncovered n.points env e m.tracked f) n.tracked =
    subst (λ (A : Type 0). A) (λ j. All (λ f. ¬ IsUncovered (c.as_slice-points.ensures j) env e (triples_of (c.as_slice-2.ensures j)) f) (triples_of (c.as_slice.ensures j))) c.in-None.ensures in
    none-first env c.args.t e m n c.requires.cut.some_area c.requires.cut.cut.within c.requires.positive c.requires.resolved c.requires.near h
