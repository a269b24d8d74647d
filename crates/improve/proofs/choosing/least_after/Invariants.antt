use Rattle.std.proofs.Common.{◌≡◌, None, drop}
use Rattle.improve.specs.Search.{is_after, lowest}
use Rattle.improve.proofs.choosing.least_after.Given as goal

abbrev pub invariant-loop-t : goal.invariant-loop-t
invariant-loop-t l = lowest (is_after l.after) l.best (drop l.t-index l.tries) ≡ lowest (is_after l.after) None l.tries
