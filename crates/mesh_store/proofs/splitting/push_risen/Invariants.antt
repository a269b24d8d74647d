use Rattle.std.proofs.Common.{◌≡◌, ◌++◌, drop, map}
use Rattle.grid.specs.Simplices.{rising}
use Rattle.grid.specs.Views.{triples_of}
use Rattle.mesh_store.proofs.splitting.push_risen.Given as goal

abbrev pub invariant-loop-face : goal.invariant-loop-face
invariant-loop-face l = triples_of l.all.items ++ map rising (triples_of (drop l.face-index l.faces)) ≡ triples_of l.initial.all.items ++ map rising (triples_of l.faces)
