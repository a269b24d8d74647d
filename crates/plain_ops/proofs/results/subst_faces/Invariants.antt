use Rattle.std.proofs.Common.{◌≡◌, ◌++◌, map, drop}
use Rattle.grid.specs.Simplices.{replaced, rising}
use Rattle.grid.specs.Views.{triples_of}
use Rattle.plain_ops.proofs.results.subst_faces.Given as goal

abbrev pub invariant-loop-face : goal.invariant-loop-face
invariant-loop-face l = triples_of l.all.items ++ map (λ t. rising (replaced l.u l.k t)) (triples_of (drop l.face-index l.faces)) ≡ map (λ t. rising (replaced l.u l.k t)) (triples_of l.faces)
