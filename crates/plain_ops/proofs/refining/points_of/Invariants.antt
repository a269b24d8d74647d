use Rattle.std.proofs.Common.{◌≡◌, ◌++◌, map, take}
use Rattle.plain_ops.proofs.refining.points_of.Given as goal

abbrev pub invariant-loop-cut : goal.invariant-loop-cut
invariant-loop-cut l = l.all.items ≡ l.points ++ map (λ e. e.at) (take l.cut-index l.cuts)
