use Rattle.tracked.specs.Places.{but_last}
use Rattle.tracked.proofs.PlaceLemmas.{IsChanged-more}
use Rattle.tracked.proofs.index.leave_last.Goals as goal

pub loop-i-preserved : goal.loop-i-preserved
loop-i-preserved c =
    IsChanged-more c.args.index.now c.loop-i.index c.pop.new.index but_last c.args.corners.now c.loop-i.i c.loop-i-test.true c.requires c.loop-i.invariant c.pop.ensures
