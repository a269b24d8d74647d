use Rattle.std.proofs.Common.{◌≡◌, ℕ, ◌/◌, ◌<◌, true, false, slice_index_or}
use Rattle.flood.specs.HalfFaces.{facet_at}
use Rattle.flood.specs.Floods.{IsLoose, Reaches, is_marked}
use Rattle.flood.proofs.flood.Flood.reach_loose.Given as goal

abbrev pub invariant-loop-h : goal.invariant-loop-h
invariant-loop-h l = record {
  reaches : Reaches (IsLoose l.initial.self.facet_of l.is_paired) l.initial.self l.self;
  waiting : l.self.waiting ≡ l.initial.self.waiting;
  marked : (g : ℕ) → g < l.h → slice_index_or l.is_paired (facet_at l.initial.self.facet_of g) false ≡ false → is_marked l.self.marks (g / 4) ≡ true;
}
