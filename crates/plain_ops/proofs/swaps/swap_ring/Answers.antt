use Rattle.std.proofs.Common.{◌≡◌, ◌∙◌, IfOk, [], length, get_or, ap, sym, subst, arith}
use Rattle.std.proofs.lemmas.Bool.{eqb-true, eqb-false}
use Rattle.grid.specs.declared.shapes.Tet.{Tet}
use Rattle.mesh_types.specs.Results.{Result, first_outside}
use Rattle.mesh_types.specs.Views.{mesh_of}
use Rattle.plain_ops.specs.PlainResults.{result_in}
use Rattle.plain_ops.proofs.RingSwaps.{ring-none, ring-some}
use Rattle.plain_ops.proofs.swaps.swap_ring.Goals as goal

pub returns-then-is_empty : goal.returns-then-is_empty
returns-then-is_empty c =
    let gone = c.args.gone.now in
    subst (λ (s : Result). IfOk c.unchanged_result.result (λ r. result_in r ≡ s)) (ring-none (mesh_of c.args.mesh.now) c.args.u c.args.v gone (eqb-true (length gone) 0 (sym c.if-is_empty.ensures))) c.unchanged_result.ensures

pub returns : goal.returns
returns c =
    let gone = c.args.gone.now in
    let none : Tet = record { 0 = [] } in
    let some = eqb-false (length gone) 0 (sym c.if-is_empty.ensures) in
    subst (λ (s : Result). IfOk c.unhinge.result (λ r. result_in r ≡ s))
    (ring-some (mesh_of c.args.mesh.now) c.args.u c.args.v gone none c.first_outside.result (omega (arith, some))
    (c.first_outside.ensures ∙ ap (first_outside (get_or gone 0 none).0) (c.deref.ensures.value ∙ c.in_ok-others.ensures)))
    c.unhinge.ensures
