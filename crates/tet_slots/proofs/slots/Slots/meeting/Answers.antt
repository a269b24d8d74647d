use Rattle.std.proofs.Common.{◌∙◌}
use Rattle.tet_slots.proofs.WholeLemmas.{AreAllNear-binned, AreAllNear-at, meeting-found}
use Rattle.tet_slots.proofs.slots.Slots.meeting.Goals as goal

pub find-requires : goal.find-requires
find-requires c =
    AreAllNear-at c.self.inside.points.items c.deref.result.now c.self.inside.slots.items c.deref-2.result.now c.self.inside.levels.items c.deref-3.result.now c.deref.ensures.value c.deref-2.ensures.value c.deref-3.ensures.value
    (AreAllNear-binned c.self.inside.points.items c.self.inside.slots.items c.self.inside.forgotten.items c.self.inside.places.items c.self.inside.levels.items c.self.invariant.kept.sound.one_each c.self.invariant.binned)

pub returns : goal.returns
returns c =
    rw (← c.self.view_is)
    (meeting-found c.self.inside.points.items c.deref.result.now c.self.inside.slots.items c.deref-2.result.now c.self.inside.forgotten.items c.self.inside.lists.items c.self.inside.places.items c.self.inside.levels.items c.deref-3.result.now c.args.lo c.args.hi c.len.result c.clear.new.self.items c.find.new.into.items c.find_from.new.into.items c.rise.new.numbers.items c.self.invariant c.deref.ensures.value c.deref-2.ensures.value c.deref-3.ensures.value (c.len.ensures ∙ c.self.inside.places.ok.0) c.clear.ensures.items c.in_ok-find.ensures.grows c.in_ok-find.ensures.found c.in_ok-find_from.ensures.grows c.in_ok-find_from.ensures.found c.rise.ensures.rising c.rise.ensures.same)
