use Rattle.std.proofs.Common.{◌≤◌, length}
use Rattle.grid.specs.Views.{corners_of}
use Rattle.flood.specs.HalfFaces.{AreFacets}
use Rattle.flood.proofs.facets.facets_of.Given as goal

abbrev pub invariant-loop-h : goal.invariant-loop-h
invariant-loop-h l = record {
  facets : AreFacets (corners_of l.tets) l.h l.triples.keys l.of.items;
  few : length l.triples.keys ≤ l.h;
}
