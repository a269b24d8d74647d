use Rattle.std.proofs.Common.{◌≡◌, ◌++◌, drop}
use Rattle.msh_text.proofs.Nodes.{marked_nodes}
use Rattle.msh_text.proofs.of_lists.marked_nodes.Given as goal

abbrev pub invariant-loop-i : goal.invariant-loop-i
invariant-loop-i l = l.nodes.items ++ marked_nodes l.shift l.used l.i (drop l.i l.points) ≡ marked_nodes l.shift l.used 0 l.points
