use Rattle.std.proofs.Common.{◌≡◌, drop}
use Rattle.std.specs.List.{list_any}
use Rattle.grid.specs.Simplices.{has_all}
use Rattle.cutting_rule.specs.Edges.{numbers_of}
use Rattle.plain_ops.proofs.defects.has_one_of.Given as goal

abbrev pub invariant-loop-edge : goal.invariant-loop-edge
invariant-loop-edge l = list_any (has_all l.tet.0) (numbers_of (drop l.edge-index l.edges)) ≡ list_any (has_all l.tet.0) (numbers_of l.edges)
