use Rattle.tet_slots.proofs.BinnedLemmas.{IsTakenOut-changed, IsTakenOut-none}
use Rattle.tet_slots.proofs.placing.leave.Goals as goal

pub returns-then-slot-places : goal.returns-then-slot-places
returns-then-slot-places c = IsTakenOut-changed c.args.places.now c.args.levels.now.items c.leave.new.levels.items c.args.slot c.requires.once c.requires.there c.leave.ensures

pub returns-else-slot-places : goal.returns-else-slot-places
returns-else-slot-places c = IsTakenOut-none c.args.places.now c.args.levels.now.items c.args.slot c.if-slot-places.false c.requires.once c.requires.there
