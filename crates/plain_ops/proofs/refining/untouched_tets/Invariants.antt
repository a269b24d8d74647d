use Rattle.std.proofs.Common.{◌≡◌, ◌++◌, not, drop}
use Rattle.std.specs.List.{filter}
use Rattle.grid.specs.Views.{corners_of}
use Rattle.mesh_types.specs.Refines.{is_touched}
use Rattle.plain_ops.proofs.refining.untouched_tets.Given as goal

abbrev pub invariant-loop-tet : goal.invariant-loop-tet
invariant-loop-tet l = corners_of l.all.items ++ filter (λ x. not (is_touched l.cuts x)) (corners_of (drop l.tet-index l.tets)) ≡ filter (λ x. not (is_touched l.cuts x)) (corners_of l.tets)
