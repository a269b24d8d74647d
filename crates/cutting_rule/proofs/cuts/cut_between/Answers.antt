use Rattle.cutting_rule.proofs.WantedEdges.{opposite}
use Rattle.cutting_rule.proofs.cuts.cut_between.Goals as goal

pub crossing-at-requires-clause-opposite : goal.crossing-at-requires-clause-opposite
crossing-at-requires-clause-opposite c = opposite c.args.plane.now c.args.p c.args.q c.requires.apart
