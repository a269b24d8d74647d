use Rattle.std.proofs.Common.{All, sym, subst}
use Rattle.grid.specs.Boxes.{IsInBox}
use Rattle.grid.specs.Determinants.{point_at}
use Rattle.grid.specs.Envelopes.{triangle_at}
use Rattle.grid.specs.Near.{Near}
use Rattle.grid.specs.Limits.{largest_side}
use Rattle.mesh_types.specs.Insertion.{NamesFirst, IsStray}
use Rattle.mesh_types.specs.Phases.{section}
use Rattle.mesh_types.specs.Views.{mesh_of}
use Rattle.cutting_rule.proofs.ForCallers.{stray-first}
use Rattle.plain_ops.proofs.CutMeshes.{cut-well_formed, faces-there}
use Rattle.plain_ops.proofs.judging.judge_resolved.Goals as goal

pub first_stray-requires-clause-in_box : goal.first_stray-requires-clause-in_box
first_stray-requires-clause-in_box c = subst (All (IsInBox largest_side)) (sym c.as_slice.ensures) c.requires.cut.cut.in_box

pub first_stray-requires-clause-there : goal.first_stray-requires-clause-there
first_stray-requires-clause-there c =
    let t = triangle_at c.args.env.now c.args.t in
    faces-there c.args.cut.now t c.args.faces.now c.as_slice.result.now (cut-well_formed (mesh_of c.args.mesh.now) t c.args.cut.now c.requires.cut) c.requires.faces c.as_slice.ensures

pub returns-in-Some : goal.returns-in-Some
returns-in-Some c =
    let n = mesh_of c.args.cut.now in
    let t = triangle_at c.args.env.now c.args.t in
    let e = c.args.e in
    let h : NamesFirst n.points (IsStray n.points t e) (section n t) c.in-Some.corners =
    subst (λ (A : Type 0). A) (λ j. NamesFirst (c.as_slice.ensures j) (IsStray (c.as_slice.ensures j) (c.triangle-tri.ensures.value j) e) (c.requires.faces j) c.in-Some.corners) c.in-Some.ensures in
    stray-first c.args.env.now c.args.t e (mesh_of c.args.mesh.now) n c.requires.cut.some_area c.requires.cut.cut.within c.requires.positive c.requires.resolved c.in-Some.corners h

pub judge_near-requires-clause-near : goal.judge_near-requires-clause-near
judge_near-requires-clause-near c =
    subst (λ (A : Type 0). A) (λ j. All (λ f. All (λ u. Near (point_at (c.as_slice.ensures j) u) 0 (c.triangle-tri.ensures.value j) c.args.e) f) (c.requires.faces j)) c.in-None.ensures
