use Rattle.std.proofs.Common.{◌≡◌, ◌++◌, map, drop}
use Rattle.std.specs.List.{zip}
use Rattle.grid.specs.Views.{corners_of}
use Rattle.msh_text.specs.FileMesh.{tet_of}
use Rattle.msh_text.proofs.of_lists.tets_of.Given as goal

abbrev pub invariant-loop-i : goal.invariant-loop-i
invariant-loop-i l = l.made.items ++ map tet_of (zip (corners_of (drop l.i l.tets)) (drop l.i l.outside)) ≡ map tet_of (zip (corners_of l.tets) l.outside)
