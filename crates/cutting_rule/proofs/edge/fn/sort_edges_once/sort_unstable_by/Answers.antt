use Rattle.cutting_rule.proofs.Packing.{packed-order}
use Rattle.cutting_rule.proofs.edge.fn.sort_edges_once.sort_unstable_by.Goals as goal

pub returns : goal.returns
returns c = packed-order _ _ _ _ _ _ c.pack.ensures c.pack-2.ensures c.cmp.ensures
