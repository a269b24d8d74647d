use Rattle.std.proofs.Common.{◌≡◌, ℕ, ◌-◌, ◌<◌, ◌≤◌, true, false, length, slice_index_or}
use Rattle.flood.specs.Floods.{FillsFacets, IsOn, IsReachable, Reaches, is_marked}
use Rattle.flood.proofs.flood.Flood.reach_all.Given as goal

abbrev pub decreases-loop-done : goal.decreases-loop-done
decreases-loop-done l = length l.self.marks - l.done

abbrev pub invariant-loop-done : goal.invariant-loop-done
invariant-loop-done l = record {
  reaches : Reaches (IsReachable l.initial.self.facet_of l.initial.self.waiting (λ i. is_marked l.initial.self.marks i ≡ true)) l.initial.self l.self;
  fills : FillsFacets l.initial.self l.self;
  up_to : l.done ≤ length l.self.order;
  passed : (k : ℕ) → k < l.done → (c : ℕ) → IsOn l.initial.self.facet_of c (slice_index_or l.self.order k 0) → slice_index_or l.self.waiting c false ≡ false;
}
