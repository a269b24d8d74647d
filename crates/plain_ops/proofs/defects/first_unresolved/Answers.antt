use Rattle.std.proofs.Common.{◌≡◌, ◌∙◌, ◌++◌, ap, List, ℕ}
use Rattle.grid.specs.Views.{corners_of}
use Rattle.mesh_types.specs.Phases.{wanted}
use Rattle.mesh_types.specs.Views.{mesh_of}
use Rattle.cutting_rule.specs.Edges.{numbers_of}
use Rattle.plain_ops.proofs.CutMeshes.{found-open}
use Rattle.plain_ops.proofs.Meshes.{tets-are}
use Rattle.plain_ops.proofs.defects.first_unresolved.Goals as goal

pub first_with_edge-found-requires : goal.first_with_edge-found-requires
first_with_edge-found-requires c = tets-are c.args.mesh.now c.as_slice-points.result.now c.as_slice-tets.result.now c.as_slice-points.ensures c.as_slice-tets.ensures c.requires.well_formed

pub returns : goal.returns
returns c =
    let m = mesh_of c.args.mesh.now in
    let w = wanted m c.args.triangle.now in
    let is : numbers_of c.deref.result.now ≡ ((w 0 ++ w 1) ++ w 2) ++ w 3 =
    ap numbers_of c.deref.ensures.value
    ∙ (c.in_ok-push_wanted_of-3.ensures
    ∙ ap (λ (es : List (List ℕ)). es ++ w 3) (c.in_ok-push_wanted_of-2.ensures ∙ ap (λ (es : List (List ℕ)). es ++ w 2) (c.in_ok-push_wanted_of.ensures ∙ ap (λ (es : List (List ℕ)). es ++ w 1) c.in_ok-edges.ensures))) in
    found-open m c.args.triangle.now c.as_slice-points.result.now (corners_of c.as_slice-tets.result.now) (numbers_of c.deref.result.now) c.first_with_edge-found.result
    c.as_slice-points.ensures (ap corners_of c.as_slice-tets.ensures) is c.first_with_edge-found.ensures
