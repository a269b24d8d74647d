use Rattle.std.proofs.Common.{◌≡◌, ◌++◌, drop}
use Rattle.std.specs.List.{flat_map}
use Rattle.grid.specs.Views.{corners_of, triples_of}
use Rattle.cutting_rule.specs.Section.{section_in}
use Rattle.plain_ops.proofs.wanted.section_of.Given as goal

abbrev pub invariant-loop-tet : goal.invariant-loop-tet
invariant-loop-tet l =
    triples_of l.faces.items ++ flat_map (section_in l.points l.triangle) (corners_of (drop l.tet-index l.tets))
    ≡ flat_map (section_in l.points l.triangle) (corners_of l.tets)
