use Rattle.std.proofs.Common.{◌≡◌, ◌<◌, ℕ, false, [], get_or}
use Rattle.std.specs.List.{list_any}
use Rattle.grid.specs.Simplices.{has_all}
use Rattle.cutting_rule.specs.Edges.{numbers_of}
use Rattle.plain_ops.proofs.defects.first_with_edge.Given as goal

abbrev pub invariant-loop-tet : goal.invariant-loop-tet
invariant-loop-tet l = (k : ℕ) → k < l.tet-index → list_any (has_all (get_or l.tets k (record { 0 = [] })).0) (numbers_of l.edges) ≡ false
