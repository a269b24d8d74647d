use Rattle.std.proofs.Common.{true, false}
use Rattle.tracked.proofs.IndexLemmas.{indexed-put}
use Rattle.tracked.proofs.table.Tracked.put_back.Goals as goal

pub invariant_of-self : goal.invariant_of-self
invariant_of-self c =
    rw c.in-Ok.ensures.entries (indexed-put c.args.f true false c.self.inside.keys.entries c.self.inside.index (rw (← c.self.view_is) at c.requires) c.self.invariant)
