use Rattle.std.proofs.Common.{◌≡◌, drop, map}
use Rattle.std.specs.Prelude.{max}
use Rattle.grid.specs.Views.{corners_of}
use Rattle.mesh_types.specs.Verdicts.{energy_at, largest}
use Rattle.plain_ops.proofs.after.largest_energy.Given as goal

abbrev pub invariant-loop-tet : goal.invariant-loop-tet
invariant-loop-tet l = max l.most (largest (map (energy_at l.points) (corners_of (drop l.tet-index l.tets)))) ≡ largest (map (energy_at l.points) (corners_of l.tets))
