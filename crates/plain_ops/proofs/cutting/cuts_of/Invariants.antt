use Rattle.std.proofs.Common.{◌≡◌, ◌++◌, map, drop}
use Rattle.mesh_types.specs.Phases.{cut_at}
use Rattle.cutting_rule.specs.Edges.{numbers_of}
use Rattle.plain_ops.proofs.cutting.cuts_of.Given as goal

abbrev pub invariant-loop-edge : goal.invariant-loop-edge
invariant-loop-edge l =
    l.cuts.items ++ map (cut_at l.points l.plane) (numbers_of (drop l.edge-index l.edges))
    ≡ map (cut_at l.points l.plane) (numbers_of l.edges)
