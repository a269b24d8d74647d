use Rattle.std.proofs.Common.{rules, true, sym}
use Rattle.tracked.proofs.KeyLemmas.{put-same}
use Rattle.tracked.proofs.table.Tracked.add.Goals as goal

pub returns-in-Some-true-clause-ok : goal.returns-in-Some-true-clause-ok
returns-in-Some-true-clause-ok c = sym (put-same c.args.f true c.args.self.now (search rules))
