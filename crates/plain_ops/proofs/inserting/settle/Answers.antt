use Rattle.std.proofs.Common.{◌≡◌, ◌∙◌, ◌+◌, length, List, ap, sym, subst, refl, arith}
use Rattle.grid.specs.declared.shapes.Point.{Point}
use Rattle.grid.specs.Envelopes.{triangle_at}
use Rattle.grid.specs.Views.{triples_of}
use Rattle.mesh_types.specs.declared.outcome.Defect.{Defect}
use Rattle.mesh_types.specs.Insertion.{Has}
use Rattle.mesh_types.specs.Phases.{section}
use Rattle.mesh_types.specs.Views.{mesh_of}
use Rattle.plain_ops.specs.CutMeshes.{IsJudged}
use Rattle.plain_ops.proofs.CutMeshes.{cut-well_formed, cut-longer, rolled_back-is, inserted-is}
use Rattle.plain_ops.proofs.inserting.settle.Goals as goal

pub section-requires-clause-well_formed : goal.section-requires-clause-well_formed
section-requires-clause-well_formed c = cut-well_formed (mesh_of c.args.mesh.now) (triangle_at c.args.env.now c.args.t) c.args.cut c.requires.cut

pub more_points-points-requires-clause-longer : goal.more_points-points-requires-clause-longer
more_points-points-requires-clause-longer c =
    let before = ap length c.as_slice.ensures in
    let after = ap length c.as_slice-in-None.ensures in
    let longer = cut-longer (mesh_of c.args.mesh.now) (triangle_at c.args.env.now c.args.t) c.args.cut c.requires.cut in
    omega (arith, before, after, longer)

pub returns-in_ok-undone-in-Some : goal.returns-in_ok-undone-in-Some
returns-in_ok-undone-in-Some c =
    rolled_back-is c.args.env.now c.args.t c.args.e (mesh_of c.args.mesh.now) c.args.cut c.in-Some.defect c.in_ok-found.found c.in_ok-undone-in-Some.undone c.args.mesh.now refl c.requires.cut c.in_ok-found.ensures c.in-Some.is c.in_ok-undone-in-Some.ensures

pub returns-in_ok-after-in-None : goal.returns-in_ok-after-in-None
returns-in_ok-after-in-None c =
    let m = mesh_of c.args.mesh.now in
    let t = triangle_at c.args.env.now c.args.t in
    let none : (d : Defect) → ¬ Has c.args.env.now c.args.t c.args.e m (mesh_of c.args.cut) d = subst (IsJudged c.args.env.now c.args.t c.args.e m (mesh_of c.args.cut)) c.in-None.is c.in_ok-found.ensures in
    let counted : length c.args.mesh.now.points + c.more_points-points.result ≡ length c.args.cut.points =
    ap (λ (ps : List Point). length ps + c.more_points-points.result) (sym c.as_slice.ensures) ∙ (c.more_points-points.ensures ∙ ap length c.as_slice-in-None.ensures) in
    let faces : triples_of c.deref-in-None.result.now ≡ section (mesh_of c.args.cut) t = ap triples_of c.deref-in-None.ensures.value ∙ (c.in_ok-faces.ensures ∙ ap (section (mesh_of c.args.cut)) c.requires.triangle) in
    inserted-is c.args.env.now c.args.t c.args.e m c.args.cut c.more_points-points.result (triples_of c.deref-in-None.result.now) (mesh_of c.in_ok-after-in-None.after) c.requires.cut none counted faces c.in_ok-after-in-None.ensures
