use Rattle.std.proofs.Common.{ℕ, ◌++◌, List, take}
use Rattle.grid.specs.Views.{triples_of}
use Rattle.cert_check.specs.Searches.{AreTriplesOf}
use Rattle.cert_check.proofs.tracked.add_triples.Given as goal

abbrev pub invariant-loop-face : goal.invariant-loop-face
invariant-loop-face l = (before : List (List ℕ)) → AreTriplesOf before l.initial.triples.keys → AreTriplesOf (before ++ triples_of (take l.face-index l.faces)) l.triples.keys
