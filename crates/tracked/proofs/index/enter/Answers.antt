use Rattle.std.proofs.Common.{take}
use Rattle.tracked.specs.Places.{and_last}
use Rattle.grid.proofs.ForCallers.{AreDifferent-take}
use Rattle.tracked.proofs.PlaceLemmas.{IsChanged-more, IsSame-failed}
use Rattle.tracked.proofs.index.enter.Goals as goal

pub leave_last-requires : goal.leave_last-requires
leave_last-requires c = AreDifferent-take c.args.corners.now c.loop-i.i c.requires

pub returns-in_default-clause-err : goal.returns-in_default-clause-err
returns-in_default-clause-err c =
    IsSame-failed c.args.place (take c.loop-i.i c.args.corners.now) c.args.index.now c.loop-i.index c.put.new.index c.leave_last.new.index c.loop-i.invariant c.in_default.ensures.err c.leave_last.ensures

pub loop-i-preserved : goal.loop-i-preserved
loop-i-preserved c =
    IsChanged-more c.args.index.now c.loop-i.index c.put.new.index (and_last c.args.place) c.args.corners.now c.loop-i.i c.loop-i-test.true c.requires c.loop-i.invariant c.in-Ok.ensures.ok
