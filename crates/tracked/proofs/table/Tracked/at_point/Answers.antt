use Rattle.std.proofs.Common.{arith}
use Rattle.tracked.proofs.PointLemmas.{gathered}
use Rattle.tracked.proofs.table.Tracked.at_point.Goals as goal

pub returns : goal.returns
returns c = gathered c.args.u c.loop-place.place-index c.args.self.now c.places-places.result.now (omega arith) c.places-places.ensures.value c.loop-place.into.items c.loop-place.invariant
