use Rattle.std.proofs.Common.{◌∙◌, sym, ap, subst}
use Rattle.mesh_store.specs.Parts.{mesh_in}
use Rattle.cutter.specs.First.{IsFirstSlot, earlier, is_open}
use Rattle.cutter.proofs.FirstSlots.{first-of_four}
use Rattle.cutter.proofs.first.first_slot.Goals as goal

pub returns : goal.returns
returns c =
    let m = mesh_in c.args.store.now.parts in
    let t = c.args.triangle.now in
    subst (IsFirstSlot (is_open m t) c.args.store.now.parts.slots)
    (sym (c.earlier.ensures ∙ ap (earlier c.in_ok-a.a) (c.earlier-after_first.ensures ∙ ap (earlier c.in_ok-b.b) c.earlier-later.ensures)))
    (first-of_four m t c.args.store.now.parts.slots c.in_ok-a.a c.in_ok-b.b c.in_ok-c.c c.in_ok-d.d c.in_ok-a.ensures c.in_ok-b.ensures c.in_ok-c.ensures c.in_ok-d.ensures)
