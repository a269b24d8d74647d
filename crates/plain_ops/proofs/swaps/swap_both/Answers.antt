use Rattle.std.proofs.Common.{◌≡◌, ◌∙◌, ℕ, IfOk, Option, None, Some, [], ◌∷◌, ap, sym, subst}
use Rattle.grid.specs.Simplices.{replaced}
use Rattle.grid.specs.Views.{corners_of, triples_of}
use Rattle.mesh_types.specs.Results.{Result, exchange, first_outside, swapped_at, without}
use Rattle.mesh_types.specs.Views.{mesh_of}
use Rattle.plain_ops.specs.PlainResults.{result_in}
use Rattle.plain_ops.proofs.swaps.swap_both.Goals as goal

pub returns-in-None : goal.returns-in-None
returns-in-None c =
    let m = mesh_of c.args.mesh.now in
    let none : first_outside c.args.tet.0 c.args.other.0 ≡ None = sym c.first_outside.ensures ∙ c.in-None.is in
    subst (λ (o : Option ℕ). IfOk c.unchanged_result.result (λ r. result_in r ≡ swapped_at m c.args.a c.args.b c.args.c c.args.tet.0 c.args.other.0 o)) (sym none) c.unchanged_result.ensures

pub returns-in_ok-tracked-in-Some : goal.returns-in_ok-tracked-in-Some
returns-in_ok-tracked-in-Some c =
    let m = mesh_of c.args.mesh.now in
    let x = c.args.tet.0 in
    let y = c.args.other.0 in
    let e = c.in-Some.e in
    let some : first_outside x y ≡ Some e = sym c.first_outside.ensures ∙ c.in-Some.is in
    let left = ap corners_of c.deref.ensures.value ∙ (c.in_ok-left-in-Some.ensures ∙ ap (λ ts. without x (corners_of ts)) c.as_slice.ensures) in
    let kept = c.in_ok-kept-in-Some.ensures ∙ ap (without y) left in
    let gone = ap corners_of c.in_ok-gone-in-Some.ensures.items in
    let fresh : corners_of c.in_ok-fresh-in-Some.fresh.items ≡ replaced c.args.a e x ∷ replaced c.args.b e x ∷ replaced c.args.c e x ∷ [] =
    ap corners_of c.in_ok-fresh-in-Some.ensures.items ∙ (λ i. c.subst.ensures.corners i ∷ c.subst-in-Some.ensures.corners i ∷ c.subst-in-Some-2.ensures.corners i ∷ []) in
    let tracked = ap triples_of (c.in_ok-tracked-in-Some.ensures.items ∙ c.as_slice-in-Some.ensures) in
    subst (λ (o : Option ℕ). IfOk c.exchange.result (λ r. result_in r ≡ swapped_at m c.args.a c.args.b c.args.c x y o)) (sym some)
    (subst (λ (s : Result). IfOk c.exchange.result (λ r. result_in r ≡ s)) (λ i. exchange m [] (kept i) (gone i) (fresh i) (tracked i)) c.exchange.ensures)
