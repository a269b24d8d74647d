use Rattle.std.proofs.Common.{rules}
use Rattle.table_pieces.proofs.Searches.{ends-below}
use Rattle.table_pieces.proofs.labels.comes_before.Goals as goal

pub returns : goal.returns
returns c = rw (c.both_ends.ensures, c.both_ends-2.ensures) (ends-below c.args.cut.now.u c.args.cut.now.v c.args.u c.args.v (search rules) (search rules))
