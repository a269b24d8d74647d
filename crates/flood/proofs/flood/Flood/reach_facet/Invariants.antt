use Rattle.std.proofs.Common.{◌≡◌}
use Rattle.flood.specs.Floods.{IsOn, Reaches}
use Rattle.flood.proofs.Walks.{IsWalked, rank}
use Rattle.flood.proofs.flood.Flood.reach_facet.Given as goal

abbrev pub decreases-loop-next : goal.decreases-loop-next
decreases-loop-next l = rank l.next

abbrev pub invariant-loop-next : goal.invariant-loop-next
invariant-loop-next l = record {
  reaches : Reaches (IsOn l.initial.self.facet_of l.facet) l.initial.self l.self;
  waiting : l.self.waiting ≡ l.initial.self.waiting;
  walked : IsWalked l.initial.self.facet_of l.facet l.self.marks l.next;
}
