use Rattle.std.proofs.Common.{◌≡◌, true, false, [], ap, sym, ◌∙◌}
use Rattle.std.proofs.lemmas.List.{get_or_default}
use Rattle.tet_slots.specs.declared.slot.Slot.{Slot}
use Rattle.tet_slots.specs.Slots.{no_slot, slot_at}
use Rattle.tet_slots.specs.Quests.{passes}
use Rattle.tet_slots.proofs.EntryLemmas.{filter-yes, filter-no}
use Rattle.tet_slots.proofs.ExtentLemmas.{passes-apart, passes-met}
use Rattle.tet_slots.proofs.meeting.Quest.find_entry.Goals as goal

pub returns-then-not-meets : goal.returns-then-not-meets
returns-then-not-meets c =
    let q = c.args.self.now in
    filter-no (passes q.points.now q.slots.now q.lo q.hi) c.args.into.now.items c.args.entry.slot (passes-apart q.points.now q.slots.now q.lo q.hi c.args.entry c.requires (sym c.meets.ensures ∙ c.if-not-meets.true))

pub returns : goal.returns
returns c =
    let q = c.args.self.now in
    let live : (slot_at q.slots.now c.args.entry.slot).live ≡ true = ap (λ (s : Slot). s.live) (get_or_default q.slots.now c.args.entry.slot no_slot (record { tet = record { 0 = [] }; live = false }) c.requires.there) ∙ c.if-not-self-entry.false in
    c.in_ok-push.ensures.items ∙ filter-yes (passes q.points.now q.slots.now q.lo q.hi) c.args.into.now.items c.args.entry.slot (passes-met q.points.now q.slots.now q.lo q.hi c.args.entry c.requires live (sym c.meets.ensures ∙ c.if-not-meets.false))
