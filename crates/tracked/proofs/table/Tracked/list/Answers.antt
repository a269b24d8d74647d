use Rattle.tracked.proofs.Sorted.{Ordered-of_sorted}
use Rattle.tracked.proofs.table.Tracked.list.Goals as goal

pub returns-clause-ordered : goal.returns-clause-ordered
returns-clause-ordered c =
    Ordered-of_sorted c.in_ok-faces.faces.items c.sort_unstable.new.self.items c.sort_unstable.ensures.permutation c.in_ok-faces.ensures.distinct c.sort_unstable.ensures.sorted
