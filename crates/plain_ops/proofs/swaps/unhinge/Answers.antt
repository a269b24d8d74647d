use Rattle.std.proofs.Common.{◌≡◌, ◌∙◌, ◌&&◌, ℕ, IfOk, Option, [], ◌∷◌, not, ap, sym, subst}
use Rattle.std.specs.List.{filter}
use Rattle.grid.specs.Simplices.{has, replaced}
use Rattle.grid.specs.Views.{corners_of, triples_of}
use Rattle.mesh_types.specs.Results.{Result, exchange, unhinged_at}
use Rattle.mesh_types.specs.Views.{mesh_of}
use Rattle.plain_ops.specs.PlainResults.{result_in}
use Rattle.plain_ops.proofs.swaps.unhinge.Goals as goal

pub returns-in_ok-tracked-in-Some : goal.returns-in_ok-tracked-in-Some
returns-in_ok-tracked-in-Some c =
    let m = mesh_of c.args.mesh.now in
    let x = c.args.tet.0 in
    let u = c.args.u in
    let v = c.args.v in
    let e = c.in-Some.c in
    let gone = ap corners_of c.in_ok-removed-in-Some.ensures.items in
    let kept = c.in_ok-kept-in-Some.ensures ∙ ap (λ ts. filter (λ x. not (has x u && has x v)) (corners_of ts)) c.as_slice.ensures in
    let fresh : corners_of c.in_ok-fresh-in-Some.fresh.items ≡ replaced v e x ∷ replaced u e x ∷ [] =
    ap corners_of c.in_ok-fresh-in-Some.ensures.items ∙ (λ i. c.subst.ensures.corners i ∷ c.subst-in-Some.ensures.corners i ∷ []) in
    let tracked = ap triples_of (c.in_ok-tracked-in-Some.ensures.items ∙ c.as_slice-in-Some.ensures) in
    subst (λ (o : Option ℕ). IfOk c.exchange.result (λ r. result_in r ≡ unhinged_at m u v (corners_of c.args.gone.now) x o)) (sym c.in-Some.is)
    (subst (λ (s : Result). IfOk c.exchange.result (λ r. result_in r ≡ s)) (λ i. exchange m [] (kept i) (gone i) (fresh i) (tracked i)) c.exchange.ensures)
