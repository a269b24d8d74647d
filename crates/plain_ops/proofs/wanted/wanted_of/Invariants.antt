use Rattle.std.proofs.Common.{◌≡◌, ◌++◌, drop}
use Rattle.std.specs.List.{flat_map}
use Rattle.grid.specs.Views.{corners_of}
use Rattle.mesh_types.specs.Phases.{wanted_in}
use Rattle.cutting_rule.specs.Edges.{numbers_of}
use Rattle.plain_ops.proofs.wanted.wanted_of.Given as goal

abbrev pub invariant-loop-tet : goal.invariant-loop-tet
invariant-loop-tet l =
    numbers_of l.edges.items ++ flat_map (wanted_in l.points l.triangle l.i) (corners_of (drop l.tet-index l.tets))
    ≡ flat_map (wanted_in l.points l.triangle l.i) (corners_of l.tets)
