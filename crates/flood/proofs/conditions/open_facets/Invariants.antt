use Rattle.grid.specs.Views.{triples_of}
use Rattle.flood.specs.HalfFaces.{AreOpen}
use Rattle.flood.proofs.conditions.open_facets.Given as goal

abbrev pub invariant-loop-face : goal.invariant-loop-face
invariant-loop-face l = AreOpen (triples_of l.tracked) l.face-index l.triples.keys l.is_open.items
