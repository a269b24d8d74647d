use Rattle.std.proofs.Common.{◌≡◌, ◌++◌, drop, map}
use Rattle.std.specs.List.{flat_map}
use Rattle.grid.specs.Simplices.{rising}
use Rattle.grid.specs.Views.{triples_of}
use Rattle.mesh_types.specs.Refines.{sub_all}
use Rattle.mesh_store.proofs.splitting.face_pieces.Given as goal

abbrev pub invariant-loop-face : goal.invariant-loop-face
invariant-loop-face l = triples_of l.all.items ++ map rising (flat_map (sub_all l.first l.cuts) (triples_of (drop l.face-index l.faces))) ≡ map rising (flat_map (sub_all l.first l.cuts) (triples_of l.faces))
