use Rattle.cover.proofs.finding.+find_at.Given as goal

abbrev pub decreases-find_at : goal.decreases-find_at
decreases-find_at l = l.levels
