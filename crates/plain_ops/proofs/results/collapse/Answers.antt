use Rattle.std.proofs.Common.{◌≡◌, ◌∙◌, ◌&&◌, IfOk, [], map, not, ap, subst}
use Rattle.std.specs.List.{filter}
use Rattle.grid.specs.Simplices.{has, replaced}
use Rattle.grid.specs.Views.{corners_of, triples_of}
use Rattle.mesh_types.specs.Results.{Result, exchange, retracked, collapse}
use Rattle.mesh_types.specs.Views.{mesh_of}
use Rattle.plain_ops.specs.PlainResults.{result_in}
use Rattle.plain_ops.proofs.results.collapse.Goals as goal

pub returns : goal.returns
unfolding collapse
returns c =
    let m = mesh_of c.args.mesh.now in
    let u = c.args.u in
    let v = c.args.v in
    let kept = c.in_ok-kept.ensures ∙ (λ i. filter (λ x. not (has x u)) (corners_of (c.as_slice-tets.ensures i))) in
    let gone = c.in_ok-gone.ensures ∙ (λ i. filter (λ x. has x u) (corners_of (c.as_slice-tets.ensures i))) in
    let changed = ap corners_of c.deref.ensures.value ∙ (c.in_ok-changed.ensures ∙ (λ i. filter (λ x. has x u && not (has x v)) (corners_of (c.as_slice-tets.ensures i)))) in
    let fresh = c.in_ok-fresh.ensures ∙ ap (map (replaced u v)) changed in
    let faces = ap triples_of c.deref-2.ensures.value ∙ (c.in_ok-faces.ensures ∙ (λ i. filter (λ t. not (has t u && has t v)) (triples_of (c.as_slice.ensures i)))) in
    let tracked = c.in_ok-tracked.ensures ∙ ap (retracked u v) faces in
    subst (λ (e : Result). IfOk c.exchange.result (λ r. result_in r ≡ e)) (λ i. exchange m [] (kept i) (gone i) (fresh i) (tracked i)) c.exchange.ensures
