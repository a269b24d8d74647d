use Rattle.std.proofs.Common.{◌≡◌, ◌++◌, drop}
use Rattle.std.specs.List.{filter, flat_map}
use Rattle.grid.specs.Views.{corners_of}
use Rattle.mesh_types.specs.Refines.{is_touched, sub_all}
use Rattle.plain_ops.proofs.refining.pieces_of.Given as goal

abbrev pub invariant-loop-tet : goal.invariant-loop-tet
invariant-loop-tet l = corners_of l.all.items ++ flat_map (sub_all l.first l.cuts) (filter (λ x. is_touched l.cuts x) (corners_of (drop l.tet-index l.tets))) ≡ flat_map (sub_all l.first l.cuts) (filter (λ x. is_touched l.cuts x) (corners_of l.tets))
