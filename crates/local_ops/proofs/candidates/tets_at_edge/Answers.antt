use Rattle.std.proofs.Common.{arith, ◌∙◌}
use Rattle.local_ops.proofs.Listed.{listed-edge}
use Rattle.local_ops.proofs.candidates.tets_at_edge.Goals as goal

pub loop-i-init : goal.loop-i-init
loop-i-init c = record { few = omega arith; rest = omega arith ∙ listed-edge c.args.slots.now.slots c.args.u c.args.v c.at_point-list.result.now c.at_point-list.ensures.live }
