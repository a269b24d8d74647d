use Rattle.grid.specs.Views.{corners_of}
use Rattle.flood.specs.HalfFaces.{ArePaired}
use Rattle.flood.proofs.conditions.paired_facets.Given as goal

abbrev pub invariant-loop-h : goal.invariant-loop-h
invariant-loop-h l = ArePaired (corners_of l.tets) l.chains.of.items l.h l.chains.last.items l.is_paired.items
