use Rattle.std.proofs.Common.{arith}
use Rattle.cutter.proofs.TouchedSlots.{made-step}
use Rattle.cutter.proofs.touching.push_made.Goals as goal

pub loop-slot-preserved : goal.loop-slot-preserved
loop-slot-preserved c =
    made-step c.args.slots.now.points c.args.slots.now.slots c.args.triangle.now c.args.reach.lo c.args.reach.hi c.loop-slot.slot _ _ _ (omega arith)
    c.in_ok-push_if_near.ensures c.loop-slot.invariant
