use Rattle.std.proofs.Common.{◌≡◌, ◌<◌, ℕ, false, length}
use Rattle.mesh_types.specs.Views.{mesh_of}
use Rattle.plain_ops.specs.Befores.{is_rim_edge}
use Rattle.plain_ops.proofs.before.is_rim.Given as goal

abbrev pub invariant-loop-w : goal.invariant-loop-w
invariant-loop-w l = record {
  none : (k : ℕ) → k < l.w → is_rim_edge (mesh_of l.mesh).tracked l.u k ≡ false;
  end : l.w-end ≡ length l.mesh.points;
}
