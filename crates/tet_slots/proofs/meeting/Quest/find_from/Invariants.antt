use Rattle.std.proofs.Common.{◌≡◌, ℕ, ◌<◌, ◌≤◌, true}
use Rattle.grid.specs.Simplices.{has}
use Rattle.tet_slots.specs.Quests.{Grows, passes}
use Rattle.tet_slots.proofs.meeting.Quest.find_from.Given as goal

abbrev pub invariant-loop-i : goal.invariant-loop-i
invariant-loop-i l = record {
  grows : Grows (passes l.self.points.now l.self.slots.now l.self.lo l.self.hi) l.initial.into.items l.into.items;
  found : (k : ℕ) → l.first ≤ k → k < l.i → passes l.self.points.now l.self.slots.now l.self.lo l.self.hi k ≡ true → has l.into.items k ≡ true;
}
