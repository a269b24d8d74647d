use Rattle.std.proofs.Common.{◌≡◌, ◌∙◌, ap}
use Rattle.mesh_types.specs.Phases.{wanted, wanted_cuts}
use Rattle.mesh_types.specs.Refines.{refine}
use Rattle.mesh_types.specs.Views.{mesh_of}
use Rattle.cutting_rule.specs.Edges.{numbers_of}
use Rattle.cutting_rule.proofs.ForCallers.{edges-split, cuts-wanted}
use Rattle.plain_ops.proofs.Meshes.{few-cuts}
use Rattle.plain_ops.proofs.cutting.phase.Goals as goal

pub cuts_of-requires-clause-apart : goal.cuts_of-requires-clause-apart
cuts_of-requires-clause-apart c =
    let m = mesh_of c.args.mesh.now in
    let wanted_is : numbers_of c.deref.result.now ≡ wanted m c.args.triangle.now c.args.i = ap numbers_of c.deref.ensures.value ∙ c.in_ok-edges.ensures in
    edges-split c.deref.result.now c.as_slice-points.result.now c.phase_plane.result.now m c.args.triangle.now c.args.i wanted_is c.as_slice-points.ensures c.phase_plane.ensures c.requires.well_formed.tets_are

pub refine_plain-requires-clause-few : goal.refine_plain-requires-clause-few
refine_plain-requires-clause-few c =
    let m = mesh_of c.args.mesh.now in
    let wanted_is : numbers_of c.deref.result.now ≡ wanted m c.args.triangle.now c.args.i = ap numbers_of c.deref.ensures.value ∙ c.in_ok-edges.ensures in
    let cuts_are : c.deref-2.result.now ≡ wanted_cuts m c.args.triangle.now c.args.i =
    c.deref-2.ensures.value
    ∙ (c.in_ok-cuts.ensures
    ∙ cuts-wanted c.deref.result.now c.as_slice-points.result.now c.phase_plane.result.now m c.args.triangle.now c.args.i wanted_is c.as_slice-points.ensures c.phase_plane.ensures) in
    few-cuts m c.args.triangle.now c.args.i c.deref-2.result.now cuts_are c.requires.well_formed c.requires.within

pub returns : goal.returns
returns c =
    let m = mesh_of c.args.mesh.now in
    let wanted_is : numbers_of c.deref.result.now ≡ wanted m c.args.triangle.now c.args.i = ap numbers_of c.deref.ensures.value ∙ c.in_ok-edges.ensures in
    let cuts_are : c.deref-2.result.now ≡ wanted_cuts m c.args.triangle.now c.args.i =
    c.deref-2.ensures.value
    ∙ (c.in_ok-cuts.ensures
    ∙ cuts-wanted c.deref.result.now c.as_slice-points.result.now c.phase_plane.result.now m c.args.triangle.now c.args.i wanted_is c.as_slice-points.ensures c.phase_plane.ensures) in
    c.in_ok-refined.ensures ∙ ap (refine m) cuts_are
