use Rattle.std.proofs.Common.{◌≡◌, ℕ, ◌*◌, ◌<◌, ◌≤◌, false, slice_index_or}
use Rattle.flood.specs.HalfFaces.{facet_at}
use Rattle.flood.specs.Floods.{FillsFacets, IsBehind, Reaches}
use Rattle.flood.proofs.flood.Flood.reach_from.Given as goal

abbrev pub invariant-loop-h : goal.invariant-loop-h
invariant-loop-h l = record {
  reaches : Reaches (IsBehind l.initial.self.facet_of l.initial.self.waiting l.tet) l.initial.self l.self;
  fills : FillsFacets l.initial.self l.self;
  done : (g : ℕ) → 4 * l.tet ≤ g → g < l.h → slice_index_or l.self.waiting (facet_at l.initial.self.facet_of g) false ≡ false;
}
