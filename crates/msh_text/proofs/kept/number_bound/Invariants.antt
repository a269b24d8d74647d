use Rattle.std.proofs.Common.{◌<◌, ◌≤◌, ◌^◌, take, All}
use Rattle.msh_text.proofs.kept.number_bound.Given as goal

abbrev pub invariant-loop-node : goal.invariant-loop-node
invariant-loop-node l = record {
  below : All (λ n. n.number < l.bound) (take l.node-index l.nodes);
  small : l.bound ≤ 2 ^ 32;
}
