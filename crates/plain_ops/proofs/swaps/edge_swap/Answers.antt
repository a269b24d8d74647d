use Rattle.std.proofs.Common.{◌≡◌, ◌∙◌, ◌&&◌, List, ℕ, IfOk, ap, subst}
use Rattle.std.specs.List.{filter}
use Rattle.grid.specs.Simplices.{has}
use Rattle.grid.specs.Views.{corners_of}
use Rattle.mesh_types.specs.Results.{edge_swap, unhinged}
use Rattle.mesh_types.specs.Views.{mesh_of}
use Rattle.plain_ops.specs.PlainResults.{result_in}
use Rattle.plain_ops.proofs.swaps.edge_swap.Goals as goal

pub returns : goal.returns
unfolding edge_swap
returns c =
    let m = mesh_of c.args.mesh.now in
    let u = c.args.u in
    let v = c.args.v in
    let gone = ap corners_of c.deref.ensures.value ∙ (c.in_ok-gone.ensures ∙ ap (λ ts. filter (λ x. has x u && has x v) (corners_of ts)) c.as_slice.ensures) in
    subst (λ (ts : List (List ℕ)). IfOk c.swap_ring.result (λ r. result_in r ≡ unhinged m u v ts)) gone c.swap_ring.ensures
