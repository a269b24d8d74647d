use Rattle.std.proofs.Common.{◌≡◌, drop}
use Rattle.std.specs.List.{list_all}
use Rattle.grid.specs.Views.{triples_of}
use Rattle.mesh_store.specs.Parts.{mesh_in}
use Rattle.local_ops.specs.Surface.{is_moved_apart}
use Rattle.local_ops.proofs.surface.are_moved_apart.Given as goal

abbrev pub invariant-loop-face : goal.invariant-loop-face
invariant-loop-face l = list_all (is_moved_apart (mesh_in l.store.parts).tracked l.u l.v) (triples_of (drop l.face-index l.faces)) ≡ list_all (is_moved_apart (mesh_in l.store.parts).tracked l.u l.v) (triples_of l.faces)
