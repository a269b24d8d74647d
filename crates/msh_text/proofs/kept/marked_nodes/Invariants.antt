use Rattle.std.proofs.Common.{◌≡◌, false, filter, take, slice_index_or}
use Rattle.msh_text.proofs.kept.marked_nodes.Given as goal

abbrev pub invariant-loop-node : goal.invariant-loop-node
invariant-loop-node l = l.marked.items ≡ filter (λ n. slice_index_or l.marks n.number false) (take l.node-index l.nodes)
