use Rattle.std.proofs.Common.{◌≡◌, ◌∙◌, ◌<◌, List, length, ap, sym, subst}
use Rattle.grid.specs.declared.shapes.Point.{Point}
use Rattle.grid.specs.Determinants.{point_at}
use Rattle.mesh_types.specs.Results.{midpoint_floored}
use Rattle.mesh_store.specs.Parts.{mesh_in}
use Rattle.mesh_store.proofs.ForCallers.{well_formed}
use Rattle.local_ops.proofs.Aims.{aim-split}
use Rattle.local_ops.proofs.Ends.{split_ends}
use Rattle.local_ops.proofs.Once.{single-split}
use Rattle.local_ops.proofs.foreseeing.see_split.Goals as goal

pub point-requires : goal.point-requires
point-requires c =
    let v = c.args.store.now in
    subst (λ (ps : List Point). c.args.u < length ps) (sym c.slots.ensures.points) (split_ends (mesh_in v.parts) c.args.u c.args.v (well_formed v.side v.parts c.requires.sound) c.requires.candidate).0

pub point-requires-2 : goal.point-requires-2
point-requires-2 c =
    let v = c.args.store.now in
    subst (λ (ps : List Point). c.args.v < length ps) (sym c.slots-2.ensures.points) (split_ends (mesh_in v.parts) c.args.u c.args.v (well_formed v.side v.parts c.requires.sound) c.requires.candidate).1

pub sight_at-requires-clause-aim : goal.sight_at-requires-clause-aim
sight_at-requires-clause-aim c =
    let v = c.args.store.now in
    let p : c.point.result ≡ point_at v.parts.points c.args.u = c.point.ensures ∙ ap (λ (ps : List Point). point_at ps c.args.u) c.slots.ensures.points in
    let q : c.point-2.result ≡ point_at v.parts.points c.args.v = c.point-2.ensures ∙ ap (λ (ps : List Point). point_at ps c.args.v) c.slots-2.ensures.points in
    aim-split v.side v.parts c.requires.sound c.args.u c.args.v c.midpoint-at.result (c.midpoint-at.ensures ∙ (λ i. midpoint_floored (p i) (q i)))

pub sight_at-requires-clause-single : goal.sight_at-requires-clause-single
sight_at-requires-clause-single c =
    let v = c.args.store.now in
    λ o. single-split (mesh_in v.parts) (well_formed v.side v.parts c.requires.sound) (c.requires.once o) c.args.u c.args.v c.requires.positive c.requires.candidate
