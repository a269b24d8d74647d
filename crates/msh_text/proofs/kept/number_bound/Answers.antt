use Rattle.std.proofs.Common.{◌<◌, List, All, subst}
use Rattle.std.proofs.lemmas.List.{take_all}
use Rattle.msh_text.specs.declared.file_mesh.MshNode.{MshNode}
use Rattle.msh_text.proofs.KeptNodes.{below_more, no_node}
use Rattle.msh_text.proofs.kept.number_bound.Goals as goal

pub loop-node-preserved : goal.loop-node-preserved
loop-node-preserved c = record {
  below = below_more c.args.nodes.now c.loop-node.node-index c.loop-node.bound c.raise_bound-bound.result no_node c.loop-node-test.true c.loop-node.invariant.below c.raise_bound-bound.ensures.bound c.raise_bound-bound.ensures.number;
  small = c.raise_bound-bound.ensures.small;
}

pub returns : goal.returns
returns c = subst (λ (ns : List MshNode). All (λ n. n.number < c.loop-node.bound) ns) (take_all c.loop-node.node-index c.args.nodes.now c.loop-node-test.false) c.loop-node.invariant.below
