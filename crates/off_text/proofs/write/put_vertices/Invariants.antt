use Rattle.std.proofs.Common.{◌≡◌, ◌++◌, take}
use Rattle.std.specs.List.{flat_map}
use Rattle.off_text.specs.Text.{vertex_line}
use Rattle.off_text.proofs.write.put_vertices.Given as goal

abbrev pub invariant-loop-v : goal.invariant-loop-v
invariant-loop-v l = l.out.items ≡ l.initial.out.items ++ flat_map vertex_line (take l.v-index l.vertices)
