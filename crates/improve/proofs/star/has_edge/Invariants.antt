use Rattle.std.proofs.Common.{◌≡◌, drop}
use Rattle.std.specs.Prelude.{nat_lt}
use Rattle.grid.specs.Views.{corners_of}
use Rattle.mesh_types.specs.Tries.{tets_at_edge}
use Rattle.improve.proofs.star.has_edge.Given as goal

abbrev pub invariant-loop-tet : goal.invariant-loop-tet
invariant-loop-tet l = nat_lt 0 (tets_at_edge (corners_of (drop l.tet-index l.tets)) l.u l.v) ≡ nat_lt 0 (tets_at_edge (corners_of l.tets) l.u l.v)
