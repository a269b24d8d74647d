use Rattle.std.proofs.Common.{◌≡◌, ◌∙◌, List, SFits, to_z, of_z, to_z-of_z, nat_abs, length, ap, sym, subst, rules}
use mir.Syntax.{w32}
use Rattle.grid.specs.declared.shapes.Point.{Point}
use Rattle.grid.specs.Boxes.{IsInBox}
use Rattle.grid.specs.Determinants.{point_at, origin}
use Rattle.grid.specs.Limits.{largest_side}
use Rattle.mesh_types.specs.Results.{shifted_to, sum_at}
use Rattle.local_ops.specs.Smoothing.{mean_of}
use Rattle.local_ops.proofs.Means.{in-grid}
use Rattle.local_ops.proofs.smoothing.destination.Goals as goal

pub destination_from-requires-clause-from_in : goal.destination_from-requires-clause-from_in
destination_from-requires-clause-from_in c =
    let v = c.args.store.now in
    let p : c.point.result ≡ point_at v.parts.points c.args.u = c.point.ensures ∙ ap (λ (ps : List Point). point_at ps c.args.u) c.slots-2.ensures.points in
    subst (IsInBox largest_side) (sym p) (in-grid v.side c.slots.ensures.sound.box (point_at v.parts.points c.args.u) (c.slots.ensures.sound.in_box c.args.u origin c.requires.u_there))

pub returns : goal.returns
returns c =
    let v = c.args.store.now in
    let ws = c.args.around.now in
    let fits : SFits w32 c.side.result = search rules in
    let side : to_z w32 (of_z w32 c.side.result) ≡ v.side = to_z-of_z fits ∙ c.side.ensures in
    let p : c.point.result ≡ point_at v.parts.points c.args.u = c.point.ensures ∙ ap (λ (ps : List Point). point_at ps c.args.u) c.slots-2.ensures.points in
    let x = c.sum_of-sum.ensures.value.x_is ∙ ap (λ (ps : List Point). sum_at (λ w. (point_at ps w).x) ws) c.slots.ensures.points in
    let y = c.sum_of-sum.ensures.value.y_is ∙ ap (λ (ps : List Point). sum_at (λ w. (point_at ps w).y) ws) c.slots.ensures.points in
    let z = c.sum_of-sum.ensures.value.z_is ∙ ap (λ (ps : List Point). sum_at (λ w. (point_at ps w).z) ws) c.slots.ensures.points in
    c.destination_from.ensures ∙ (λ i. record {
      x = shifted_to (nat_abs (side i)) c.args.way (p i).x (mean_of (x i) (length ws));
      y = shifted_to (nat_abs (side i)) c.args.way (p i).y (mean_of (y i) (length ws));
      z = shifted_to (nat_abs (side i)) c.args.way (p i).z (mean_of (z i) (length ws));
    })
