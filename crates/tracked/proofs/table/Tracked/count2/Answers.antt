use Rattle.std.proofs.Common.{arith}
use Rattle.tracked.proofs.PointLemmas.{counted}
use Rattle.tracked.proofs.table.Tracked.count2.Goals as goal

pub returns : goal.returns
returns c = counted c.args.u c.loop-place.place-index c.args.self.now c.places-places.result.now (omega arith) c.places-places.ensures.value c.args.v c.loop-place.count c.loop-place.invariant.1
