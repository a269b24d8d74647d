use Rattle.std.proofs.Common.{◌≡◌}
use Rattle.mesh_types.specs.Lattice.{cube}
use Rattle.mesh_types.specs.Views.{corners_of}
use Rattle.background.proofs.SoFar.{so_far}
use Rattle.background.proofs.subdivision.tets.Given as goal

abbrev pub invariant-loop-i : goal.invariant-loop-i
invariant-loop-i l = corners_of l.tets.items ≡ so_far (cube l.cells) l.cells l.i l.j l.k

abbrev pub invariant-loop-j : goal.invariant-loop-j
invariant-loop-j l = corners_of l.tets.items ≡ so_far (cube l.cells) l.cells 0 l.j l.k

abbrev pub invariant-loop-k : goal.invariant-loop-k
invariant-loop-k l = corners_of l.tets.items ≡ so_far (cube l.cells) l.cells 0 0 l.k
