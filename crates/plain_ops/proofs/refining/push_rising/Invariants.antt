use Rattle.std.proofs.Common.{◌≡◌, ◌++◌, map, drop}
use Rattle.grid.specs.Simplices.{rising}
use Rattle.grid.specs.Views.{triples_of}
use Rattle.plain_ops.proofs.refining.push_rising.Given as goal

abbrev pub invariant-loop-face : goal.invariant-loop-face
invariant-loop-face l = triples_of l.all.items ++ map rising (triples_of (drop l.face-index l.faces)) ≡ triples_of l.initial.all.items ++ map rising (triples_of l.faces)
