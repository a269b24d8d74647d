use Rattle.cover.proofs.finding.+covered_at.Given as goal

abbrev pub decreases-covered_at : goal.decreases-covered_at
decreases-covered_at l = l.levels
