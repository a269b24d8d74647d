use Rattle.tracked.proofs.IndexLemmas.{indexed-popped, last-IsTriple}
use Rattle.tracked.proofs.table.Tracked.drop_last.Goals as goal
use Rattle.grid.proofs.ForCallers.{AreDifferent-Rises}

pub leave_last-requires : goal.leave_last-requires
leave_last-requires c =
    AreDifferent-Rises c.in-Some.face.0 (last-IsTriple (c.in-Some.face, c.in-Some.field-0-1) c.self.inside.keys.entries c.pop.new.self.entries c.in-Some.ensures.entries c.self.invariant.triples).rises

pub invariant_of-self : goal.invariant_of-self
invariant_of-self c =
    indexed-popped (c.in-Some.face, c.in-Some.field-0-1) c.self.inside.keys.entries c.pop.new.self.entries c.self.inside.index c.leave_last.new.index c.in-Some.ensures.entries c.leave_last.ensures c.self.invariant
