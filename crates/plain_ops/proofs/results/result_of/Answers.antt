use Rattle.std.proofs.Common.{◌≡◌, ◌∙◌, ℤ, IfOk, true, nat_abs, ap, sym, subst, to_z-of_z}
use Rattle.grid.specs.declared.shapes.Point.{Point}
use Rattle.mesh_types.specs.declared.tries.Try.{Try}
use Rattle.mesh_types.specs.Results.{result_of, shift, target}
use Rattle.mesh_types.specs.Tries.{is_candidate}
use Rattle.mesh_types.specs.Views.{mesh_of}
use Rattle.mesh_types.proofs.ForCallers.{shift_is}
use Rattle.plain_ops.specs.PlainResults.{result_in}
use Rattle.plain_ops.proofs.results.result_of.Goals as goal

pub target-requires-clause-some : goal.target-requires-clause-some
target-requires-clause-some c =
    let m = mesh_of c.args.mesh.now in
    (shift_is m.tets c.in-Shift.u c.in-Shift.way (subst (λ (t : Try). is_candidate m.tets t ≡ true) c.in-Shift.is c.requires.candidate)).1

pub returns-in_ok-at-in-Shift : goal.returns-in_ok-at-in-Shift
returns-in_ok-at-in-Shift c =
    let m = mesh_of c.args.mesh.now in
    subst (λ (t : Try). IfOk c.shift.result (λ r. result_in r ≡ result_of (nat_abs c.args.side) m t)) (sym c.in-Shift.is)
    (subst (λ (p : Point). IfOk c.shift.result (λ r. result_in r ≡ shift m c.in-Shift.u p)) (c.in_ok-at-in-Shift.ensures ∙ ap (λ (z : ℤ). target (nat_abs z) m c.in-Shift.u c.in-Shift.way) (to_z-of_z c.ranges.side)) c.shift.ensures)
