use Rattle.std.proofs.Common.{◌≡◌, ◌++◌, drop}
use Rattle.std.specs.List.{filter}
use Rattle.tet_slots.specs.Bins.{slots_of}
use Rattle.tet_slots.specs.Quests.{passes}
use Rattle.tet_slots.proofs.meeting.Quest.find_in_list.Given as goal

abbrev pub invariant-loop-entry : goal.invariant-loop-entry
invariant-loop-entry l =
    l.into.items ++ filter (passes l.self.points.now l.self.slots.now l.self.lo l.self.hi) (slots_of (drop l.entry-index l.list))
    ≡ l.initial.into.items ++ filter (passes l.self.points.now l.self.slots.now l.self.lo l.self.hi) (slots_of l.list)
