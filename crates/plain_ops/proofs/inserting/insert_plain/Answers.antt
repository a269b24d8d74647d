use Rattle.std.proofs.Common.{◌∙◌, Option, None, Some, MatchOption, rules, refl, subst}
use Rattle.grid.specs.declared.shapes.Tri.{Tri}
use Rattle.grid.specs.Boxes.{IsTriInBox}
use Rattle.grid.specs.Envelopes.{triangle_at}
use Rattle.grid.specs.Meshes.{Mesh, IsWithinLimits}
use Rattle.grid.specs.Planes.{IsDegenerate}
use Rattle.grid.specs.Limits.{largest_side}
use Rattle.mesh_types.specs.declared.lists.Lists.{Lists}
use Rattle.mesh_types.specs.declared.outcome.Defect.TheVariants.{Degenerate, Full}
use Rattle.mesh_types.specs.Phases.{cut_by}
use Rattle.mesh_types.specs.Views.{mesh_of}
use Rattle.cutting_rule.proofs.ForCallers.{degenerate-first, full-first}
use Rattle.plain_ops.specs.CutMeshes.{IsCutMesh}
use Rattle.plain_ops.proofs.CutMeshes.{undone-is}
use Rattle.plain_ops.proofs.Meshes.{on-grid}
use Rattle.plain_ops.proofs.inserting.insert_plain.Goals as goal

-- what the phases leave
abbrev IsFound : Mesh → Tri → Option Lists → Type 0
IsFound m t found = MatchOption found (¬ IsWithinLimits (cut_by m t)) (IsCutMesh m t)

pub cut-requires-clause-in_box : goal.cut-requires-clause-in_box
cut-requires-clause-in_box c = on-grid c.args.side c.args.mesh.now.points c.requires.side_low c.requires.side_high c.requires.in_box

pub settle-requires-clause-cut : goal.settle-requires-clause-cut
settle-requires-clause-cut c =
    let m = mesh_of c.args.mesh.now in
    let t = triangle_at c.args.env.now c.args.t in
    let area : ¬ IsDegenerate c.triangle-tri.result = search rules in
    let cut : IsFound m t (Some c.in-Some.cut) = subst (IsFound m t) c.in-Some.is (subst (λ s. IsFound m s c.in_ok-found.found) (c.new-triangle.ensures ∙ c.triangle-tri.ensures.value) c.in_ok-found.ensures) in
    record {
      before = c.requires.well_formed;
      cut = cut;
      some_area = subst (λ s. ¬ IsDegenerate s) c.triangle-tri.ensures.value area;
      tri_in = subst (IsTriInBox largest_side) c.triangle-tri.ensures.value c.triangle-tri.ensures.within;
    }

pub returns-then-is_none : goal.returns-then-is_none
returns-then-is_none c =
    let m = mesh_of c.args.mesh.now in
    let flat : IsDegenerate c.triangle-tri.result = search rules in
    undone-is c.args.env.now c.args.t c.args.e m Degenerate c.in_ok-undone.undone c.args.mesh.now refl
    (degenerate-first c.args.env.now c.args.t c.args.e m (cut_by m (triangle_at c.args.env.now c.args.t)) (subst IsDegenerate c.triangle-tri.ensures.value flat))
    c.in_ok-undone.ensures

pub returns-in_ok-undone-in-None : goal.returns-in_ok-undone-in-None
returns-in_ok-undone-in-None c =
    let m = mesh_of c.args.mesh.now in
    let t = triangle_at c.args.env.now c.args.t in
    let area : ¬ IsDegenerate c.triangle-tri.result = search rules in
    let beyond : IsFound m t None = subst (IsFound m t) c.in-None.is (subst (λ s. IsFound m s c.in_ok-found.found) (c.new-triangle.ensures ∙ c.triangle-tri.ensures.value) c.in_ok-found.ensures) in
    undone-is c.args.env.now c.args.t c.args.e m Full c.in_ok-undone-in-None.undone c.args.mesh.now refl
    (full-first c.args.env.now c.args.t c.args.e m (cut_by m t) (subst (λ s. ¬ IsDegenerate s) c.triangle-tri.ensures.value area) beyond)
    c.in_ok-undone-in-None.ensures
