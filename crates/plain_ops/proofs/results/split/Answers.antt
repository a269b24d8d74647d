use Rattle.std.proofs.Common.{◌≡◌, ◌∙◌, List, [], ◌∷◌, length, ap}
use Rattle.std.specs.List.{filter, flat_map}
use Rattle.grid.specs.declared.shapes.Point.{Point}
use Rattle.grid.specs.Determinants.{point_at}
use Rattle.grid.specs.Views.{corners_of}
use Rattle.mesh_types.specs.Refines.{is_touched, sub_all, refine}
use Rattle.mesh_types.specs.Results.{midpoint_floored, middle_cut, split}
use Rattle.mesh_types.specs.Views.{mesh_of}
use Rattle.plain_ops.proofs.results.split.Goals as goal

pub returns : goal.returns
unfolding split
returns c =
    let m = mesh_of c.args.mesh.now in
    let p : c.point_or_origin.result ≡ point_at m.points c.args.u = c.point_or_origin.ensures.value ∙ ap (λ (ps : List Point). point_at ps c.args.u) c.as_slice-points.ensures in
    let q : c.point_or_origin-2.result ≡ point_at m.points c.args.v = c.point_or_origin-2.ensures.value ∙ ap (λ (ps : List Point). point_at ps c.args.v) c.as_slice-points.ensures in
    let cuts : (record { u = c.args.u; v = c.args.v; at = c.midpoint-at.result } ∷ []) ≡ middle_cut m c.args.u c.args.v =
    λ i. record { u = c.args.u; v = c.args.v; at = (c.midpoint-at.ensures ∙ (λ j. midpoint_floored (p j) (q j))) i } ∷ [] in
    let first = c.count_of.ensures ∙ ap (length {A = Point}) c.as_slice-points.ensures in
    let after = c.in_ok-after.ensures ∙ ap (refine m) cuts in
    let gone = c.in_ok-gone.ensures ∙ (λ i. filter (is_touched (cuts i)) (corners_of (c.as_slice-tets.ensures i))) in
    let fresh = c.in_ok-fresh.ensures ∙ (λ i. flat_map (sub_all (first i) (cuts i)) (filter (λ x. is_touched (cuts i) x) (corners_of (c.as_slice-tets.ensures i)))) in
    λ i. record { mesh = after i; gone = gone i; fresh = fresh i }
