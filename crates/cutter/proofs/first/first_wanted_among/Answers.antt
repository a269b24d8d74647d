use Rattle.std.proofs.Common.{◌∙◌, ◌<◌, refl, sym, ap, subst, length, List}
use Rattle.mesh_types.specs.Phases.{points_of}
use Rattle.mesh_store.specs.Parts.{mesh_in}
use Rattle.tet_slots.specs.declared.slot.Slot.{Slot}
use Rattle.tet_slots.specs.Slots.{slot_at}
use Rattle.cutter.specs.First.{IsFirstSlot, is_open}
use Rattle.cutter.proofs.FirstSlots.{none-open, first-open}
use Rattle.cutter.proofs.first.first_wanted_among.Goals as goal

pub returns-in-None : goal.returns-in-None
returns-in-None c =
    let m = mesh_in c.args.store.now.parts in
    let t = c.args.triangle.now in
    none-open m t c.args.store.now.parts.slots refl
    (subst (IsFirstSlot (is_open m t) c.args.store.now.parts.slots) c.in-None.is c.in_ok-first_slot.ensures)

pub tet-requires : goal.tet-requires
tet-requires c =
    let at : c.in-Some.slot < length c.args.store.now.parts.slots = (c.in_ok-first_slot.ensures.passes c.in-Some.slot c.in-Some.is).0 in
    subst (λ (slots : List Slot). c.in-Some.slot < length slots) (sym c.slots-slots.ensures.slots) at

pub returns-in-Some : goal.returns-in-Some
returns-in-Some c =
    let m = mesh_in c.args.store.now.parts in
    let k = c.in-Some.slot in
    first-open m c.args.triangle.now c.args.store.now.parts.slots k c.corner_points.result refl
    (c.corner_points.ensures
    ∙ ((λ j. points_of (c.slots-slots.ensures.points j) c.tet.result.0)
    ∙ (ap (λ t. points_of m.points t.0) c.tet.ensures.value ∙ ap (λ slots. points_of m.points (slot_at slots k).tet.0) c.slots-slots.ensures.slots)))
    (subst (IsFirstSlot (is_open m c.args.triangle.now) c.args.store.now.parts.slots) c.in-Some.is c.in_ok-first_slot.ensures)
