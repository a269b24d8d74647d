use Rattle.std.proofs.Common.{◌≡◌, map, take}
use Rattle.grid.specs.Views.{triples_of}
use Rattle.msh_text.specs.FileMesh.{face_of}
use Rattle.msh_text.proofs.of_lists.faces_of.Given as goal

abbrev pub invariant-loop-face : goal.invariant-loop-face
invariant-loop-face l = l.made.items ≡ map face_of (triples_of (take l.face-index l.faces))
