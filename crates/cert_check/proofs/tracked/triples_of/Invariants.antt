use Rattle.std.proofs.Common.{take}
use Rattle.grid.specs.Views.{corners_of}
use Rattle.grid.specs.Simplices.{all_faces}
use Rattle.cert_check.specs.Searches.{AreTriplesOf}
use Rattle.cert_check.proofs.tracked.triples_of.Given as goal

abbrev pub invariant-loop-tet : goal.invariant-loop-tet
invariant-loop-tet l = AreTriplesOf (all_faces (corners_of (take l.tet-index l.tets))) l.triples.keys
