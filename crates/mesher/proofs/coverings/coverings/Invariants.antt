use Rattle.std.proofs.Common.{take}
use Rattle.grid.specs.Views.{triples_of}
use Rattle.mesher.specs.Meshed.{AreCoverings}
use Rattle.mesher.proofs.coverings.coverings.Given as goal

abbrev pub invariant-loop-face : goal.invariant-loop-face
invariant-loop-face l = AreCoverings l.env l.e l.points (triples_of (take l.face-index l.faces)) l.made.items
