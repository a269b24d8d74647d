use Rattle.cover.proofs.checking.+covers.Given as goal

abbrev pub decreases-covers : goal.decreases-covers
decreases-covers l = l.levels
