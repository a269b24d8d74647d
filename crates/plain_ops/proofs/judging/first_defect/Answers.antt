use Rattle.std.proofs.Common.{All, sym, subst}
use Rattle.grid.specs.Boxes.{IsInBox}
use Rattle.grid.specs.Determinants.{IsPositive}
use Rattle.grid.specs.Envelopes.{triangle_at}
use Rattle.grid.specs.Views.{corners_of}
use Rattle.grid.specs.Limits.{largest_side}
use Rattle.mesh_types.specs.Insertion.{NamesFirst}
use Rattle.mesh_types.specs.Views.{mesh_of}
use Rattle.cutting_rule.proofs.ForCallers.{inverted-first}
use Rattle.plain_ops.proofs.CutMeshes.{cut-well_formed}
use Rattle.plain_ops.proofs.Meshes.{tets-are}
use Rattle.plain_ops.proofs.judging.first_defect.Goals as goal

pub first_inverted-requires-clause-in_box : goal.first_inverted-requires-clause-in_box
first_inverted-requires-clause-in_box c = subst (All (IsInBox largest_side)) (sym c.as_slice.ensures) c.requires.cut.cut.in_box

pub first_inverted-requires-clause-tets_are : goal.first_inverted-requires-clause-tets_are
first_inverted-requires-clause-tets_are c =
    tets-are c.args.cut.now c.as_slice.result.now c.as_slice-2.result.now c.as_slice.ensures c.as_slice-2.ensures (cut-well_formed (mesh_of c.args.mesh.now) (triangle_at c.args.env.now c.args.t) c.args.cut.now c.requires.cut)

pub returns-in-Some : goal.returns-in-Some
returns-in-Some c =
    let n = mesh_of c.args.cut.now in
    let h : NamesFirst n.points (λ x. ¬ IsPositive n.points x) n.tets c.in-Some.corners =
    subst (λ (A : Type 0). A) (λ j. NamesFirst (c.as_slice.ensures j) (λ x. ¬ IsPositive (c.as_slice.ensures j) x) (corners_of (c.as_slice-2.ensures j)) c.in-Some.corners) c.in-Some.ensures in
    inverted-first c.args.env.now c.args.t c.args.e (mesh_of c.args.mesh.now) n c.requires.cut.some_area c.requires.cut.cut.within c.in-Some.corners h

pub judge_positive-requires-clause-positive : goal.judge_positive-requires-clause-positive
judge_positive-requires-clause-positive c =
    subst (λ (A : Type 0). A) (λ j. All (IsPositive (c.as_slice.ensures j)) (corners_of (c.as_slice-2.ensures j))) c.in-None.ensures
