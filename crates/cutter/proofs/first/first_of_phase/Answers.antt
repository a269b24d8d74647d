use Rattle.std.proofs.Common.{◌∙◌, refl, ap, subst}
use Rattle.mesh_store.specs.Parts.{mesh_in, live_tets}
use Rattle.mesh_types.specs.Phases.{wanted}
use Rattle.cutting_rule.specs.Edges.{numbers_of}
use Rattle.cutter.specs.First.{IsFirstSlot, has_one_of}
use Rattle.cutter.proofs.FirstSlots.{first-wanted}
use Rattle.cutter.proofs.first.first_of_phase.Goals as goal

pub returns : goal.returns
returns c =
    let m = mesh_in c.args.store.now.parts in
    subst (λ slots. IsFirstSlot (has_one_of (wanted m c.args.triangle.now c.args.i)) slots c.in_ok-first.first) c.slots-slots.ensures.slots
    (first-wanted c.slots-slots.result.now.slots _ _ (numbers_of c.deref.result.now) m c.args.triangle.now c.args.triangle.now c.args.i c.in_ok-first.first
    (ap numbers_of c.deref.ensures.value ∙ c.in_ok-edges.ensures) c.slots-slots.ensures.points (ap live_tets c.slots-slots.ensures.slots) refl c.in_ok-first.ensures)
