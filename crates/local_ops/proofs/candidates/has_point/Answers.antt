use Rattle.std.proofs.Common.{ap}
use Rattle.std.specs.Prelude.{nat_lt}
use Rattle.local_ops.proofs.Listed.{listed-point}
use Rattle.local_ops.proofs.candidates.has_point.Goals as goal

pub loop-i-init : goal.loop-i-init
loop-i-init c = ap (nat_lt 0) (listed-point c.args.slots.now.slots c.args.u c.at_point-list.result.now c.at_point-list.ensures.live)
