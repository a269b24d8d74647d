use Rattle.std.proofs.Common.{◌∙◌, sym, subst, arith}
use Rattle.grid.specs.declared.shapes.Tet.{Tet}
use Rattle.grid.specs.Determinants.{IsPositive}
use Rattle.local_ops.proofs.NearSlots.{live-from}
use Rattle.local_ops.proofs.measures.largest_new.Goals as goal

pub energy_of-requires-clause-positive : goal.energy_of-requires-clause-positive
energy_of-requires-clause-positive c =
    subst (λ (t : Tet). IsPositive c.args.slots.now.points t.0) (sym c.tet.ensures.value)
    (live-from (IsPositive c.args.slots.now.points) c.args.first c.loop-slot.slot c.args.slots.now.slots c.loop-slot.auto.slot (omega (arith, c.loop-slot.invariant.end)) (sym c.live.ensures ∙ c.if-live.true) c.requires.positive)
