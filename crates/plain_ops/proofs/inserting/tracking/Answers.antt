use Rattle.std.proofs.Common.{◌≡◌, ◌∙◌, ◌++◌, ap}
use Rattle.std.proofs.lemmas.List.{map-append}
use Rattle.grid.specs.Views.{corners_of, triples_of}
use Rattle.mesh_types.specs.Tracking.{in_order_once, with_tracked}
use Rattle.plain_ops.proofs.inserting.tracking.Goals as goal

pub returns : goal.returns
unfolding with_tracked
returns c =
    let tracked : triples_of c.from_vec.result ≡ in_order_once (triples_of c.args.cut.tracked ++ triples_of c.args.faces.now) =
    ap triples_of c.from_vec.ensures
    ∙ (c.sort_faces_once.ensures
    ∙ ap in_order_once
    (ap triples_of (c.in_ok-extend_from_slice.ensures.items ∙ ap (λ fs. fs ++ c.args.faces.now) c.into_vec-tracked.ensures)
    ∙ map-append (λ f. f.0) c.args.cut.tracked c.args.faces.now)) in
    λ j. record { points = c.args.cut.points; tets = corners_of c.args.cut.tets; tracked = tracked j; made = c.args.cut.made }
