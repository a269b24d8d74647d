use Rattle.std.proofs.Common.{◌≡◌, ◌++◌, length}
use Rattle.std.specs.Prelude.{◌-◌}
use Rattle.std.specs.List.{filter, range_with_len}
use Rattle.mesh_types.specs.Results.{neighbours}
use Rattle.mesh_types.specs.Views.{mesh_of}
use Rattle.plain_ops.specs.Targets.{is_neighbour}
use Rattle.plain_ops.proofs.targets.neighbours.Given as goal

abbrev pub invariant-loop-w : goal.invariant-loop-w
invariant-loop-w l = record {
  rest : l.around.items ++ filter (is_neighbour (mesh_of l.mesh).tets l.u) (range_with_len l.w (length l.mesh.points - l.w)) ≡ neighbours (mesh_of l.mesh) l.u;
  end : l.w-end ≡ length l.mesh.points;
}
