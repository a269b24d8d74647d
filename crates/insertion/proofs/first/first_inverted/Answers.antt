use Rattle.std.proofs.Common.{◌∙◌, sym, ap, subst, arith}
use Rattle.grid.specs.Determinants.{IsPositive}
use Rattle.mesh_types.specs.Phases.{points_of}
use Rattle.cutter.proofs.ForCallers.{names-first, all-live}
use Rattle.insertion.proofs.first.first_inverted.Goals as goal

pub returns-then-not-is_positive : goal.returns-then-not-is_positive
returns-then-not-is_positive c =
    let points = c.args.slots.now.points in
    let slots = c.args.slots.now.slots in
    names-first points (λ x. ¬ IsPositive points x) slots c.loop-slot.slot c.corner_points.result (omega (arith, c.loop-slot.invariant.end))
    (sym c.live.ensures ∙ c.if-live.true)
    (λ p. let back : IsPositive points c.tet.result.0 = subst (λ t. IsPositive points t.0) (sym c.tet.ensures.value) p in let no_way = c.if-not-is_positive.ensures.1 back in cc no_way)
    (λ j below live inverted. inverted (c.loop-slot.invariant.positive j below live))
    (c.corner_points.ensures ∙ ap (λ t. points_of points t.0) c.tet-then-not-is_positive.ensures.value)

pub returns : goal.returns
returns c =
    all-live (IsPositive c.args.slots.now.points) c.args.slots.now.slots (λ j lt live. c.loop-slot.invariant.positive j (omega (arith, lt, c.loop-slot.invariant.end)) live)
