use Rattle.std.proofs.Common.{◌≡◌, ◌+◌, ◌++◌, drop}
use Rattle.std.specs.List.{enumerate_from, flat_map}
use Rattle.msh_text.specs.Text.{tet_line}
use Rattle.msh_text.proofs.write.put_tets.Given as goal

abbrev pub invariant-loop-tet : goal.invariant-loop-tet
invariant-loop-tet l = record {
  number : l.number ≡ 1 + l.tet-index;
  text : l.out.items ++ flat_map tet_line (enumerate_from l.number (drop l.tet-index l.tets)) ≡ l.initial.out.items ++ flat_map tet_line (enumerate_from 1 l.tets);
}
