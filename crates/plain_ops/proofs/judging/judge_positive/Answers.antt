use Rattle.std.proofs.Common.{◌≡◌, All, Option, None, Some, MatchOption, List, true, false, subst}
use Rattle.grid.specs.declared.shapes.Point.{Point}
use Rattle.grid.specs.declared.shapes.Tri.{Tri}
use Rattle.grid.specs.Envelopes.{triangle_at}
use Rattle.grid.specs.Meshes.{Mesh}
use Rattle.mesh_types.specs.Insertion.{NamesFirst}
use Rattle.mesh_types.specs.Phases.{is_unresolved}
use Rattle.mesh_types.specs.Views.{mesh_of}
use Rattle.cutting_rule.proofs.ForCallers.{unresolved-first}
use Rattle.plain_ops.proofs.CutMeshes.{cut-well_formed}
use Rattle.plain_ops.proofs.judging.judge_positive.Goals as goal

abbrev IsFound : Mesh → Tri → Option (List Point) → Type 0
IsFound n t found = MatchOption found (All (λ x. is_unresolved n t x ≡ false) n.tets) (NamesFirst n.points (λ x. is_unresolved n t x ≡ true) n.tets)

pub first_unresolved-requires-clause-well_formed : goal.first_unresolved-requires-clause-well_formed
first_unresolved-requires-clause-well_formed c = cut-well_formed (mesh_of c.args.mesh.now) (triangle_at c.args.env.now c.args.t) c.args.cut.now c.requires.cut

pub first_unresolved-requires-clause-in_box : goal.first_unresolved-requires-clause-in_box
first_unresolved-requires-clause-in_box c = c.requires.cut.cut.in_box

pub returns-in-Some : goal.returns-in-Some
returns-in-Some c =
    let n = mesh_of c.args.cut.now in
    let t = triangle_at c.args.env.now c.args.t in
    let h : IsFound n t (Some c.in-Some.corners) = subst (IsFound n t) c.in-Some.is (subst (λ s. IsFound n s c.in_ok-found.found) c.requires.triangle c.in_ok-found.ensures) in
    unresolved-first c.args.env.now c.args.t c.args.e (mesh_of c.args.mesh.now) n c.requires.cut.some_area c.requires.cut.cut.within c.requires.positive c.in-Some.corners h

pub judge_resolved-requires-clause-resolved : goal.judge_resolved-requires-clause-resolved
judge_resolved-requires-clause-resolved c =
    let n = mesh_of c.args.cut.now in
    let t = triangle_at c.args.env.now c.args.t in
    let h : IsFound n t None = subst (IsFound n t) c.in-None.is (subst (λ s. IsFound n s c.in_ok-found.found) c.requires.triangle c.in_ok-found.ensures) in
    h
