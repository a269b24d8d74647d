use Rattle.std.proofs.Common.{◌≡◌, ◌∙◌, IfOk, [], ◌∷◌, length, map, not, ap, subst}
use Rattle.std.specs.List.{filter}
use Rattle.grid.specs.declared.shapes.Point.{Point}
use Rattle.grid.specs.Simplices.{has, replaced}
use Rattle.grid.specs.Views.{corners_of, triples_of}
use Rattle.mesh_types.specs.Results.{Result, exchange, retracked, shift}
use Rattle.mesh_types.specs.Views.{mesh_of}
use Rattle.plain_ops.specs.PlainResults.{result_in}
use Rattle.plain_ops.proofs.results.shift.Goals as goal

pub returns : goal.returns
unfolding shift
returns c =
    let m = mesh_of c.args.mesh.now in
    let u = c.args.u in
    let k = c.count_of-k.ensures ∙ ap (length {A = Point}) c.as_slice.ensures in
    let kept = c.in_ok-kept.ensures ∙ (λ i. filter (λ x. not (has x u)) (corners_of (c.as_slice-tets.ensures i))) in
    let gone = c.in_ok-gone.ensures ∙ (λ i. filter (λ x. has x u) (corners_of (c.as_slice-tets.ensures i))) in
    let old = ap corners_of c.deref.ensures.value ∙ gone in
    let fresh = c.in_ok-fresh.ensures ∙ (λ i. map (replaced u (k i)) (old i)) in
    let tracked = c.in_ok-tracked.ensures ∙ (λ i. retracked u (k i) (triples_of (c.as_slice-2.ensures i))) in
    subst (λ (e : Result). IfOk c.exchange.result (λ r. result_in r ≡ e)) (λ i. exchange m (c.args.at ∷ []) (kept i) (gone i) (fresh i) (tracked i)) c.exchange.ensures
