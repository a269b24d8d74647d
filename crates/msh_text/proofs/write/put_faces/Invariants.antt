use Rattle.std.proofs.Common.{◌≡◌, ◌+◌, ◌++◌, drop}
use Rattle.std.specs.List.{enumerate_from, flat_map}
use Rattle.msh_text.specs.Text.{face_line}
use Rattle.msh_text.proofs.write.put_faces.Given as goal

abbrev pub invariant-loop-face : goal.invariant-loop-face
invariant-loop-face l = record {
  number : l.number ≡ l.first + l.face-index;
  text : l.out.items ++ flat_map face_line (enumerate_from l.number (drop l.face-index l.faces)) ≡ l.initial.out.items ++ flat_map face_line (enumerate_from l.first l.faces);
}
