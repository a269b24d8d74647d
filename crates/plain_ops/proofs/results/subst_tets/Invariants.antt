use Rattle.std.proofs.Common.{◌≡◌, ◌++◌, map, drop}
use Rattle.grid.specs.Simplices.{replaced}
use Rattle.grid.specs.Views.{corners_of}
use Rattle.plain_ops.proofs.results.subst_tets.Given as goal

abbrev pub invariant-loop-tet : goal.invariant-loop-tet
invariant-loop-tet l = corners_of l.all.items ++ map (replaced l.u l.k) (corners_of (drop l.tet-index l.tets)) ≡ map (replaced l.u l.k) (corners_of l.tets)
