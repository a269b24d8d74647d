use Rattle.std.proofs.Common.{◌≡◌, ◌+◌, length, ℤ, IsSome}
use Rattle.grid.specs.Meshes.{Mesh}
use Rattle.mesh_store.specs.Parts.{Parts, mesh_in}
use Rattle.cutter.specs.Found.{AreTouching}
use Rattle.cutting_rule.specs.Until.{until}
use Rattle.insertion.specs.Progress.{IsOpenFrom}
use Rattle.insertion.proofs.cutting.cut_among.Given as goal

abbrev pub invariant-loop-i : goal.invariant-loop-i
invariant-loop-i l = record {
  started : IsSome l.store.at_begin;
  goes_on : (start : Parts) (side : ℤ) → IsOpenFrom start side l.initial.store → IsOpenFrom start side l.store;
  mesh : (m : Mesh) → mesh_in l.initial.store.parts ≡ until m l.triangle l.first → mesh_in l.store.parts ≡ until m l.triangle l.i;
  near : AreTouching l.store.parts.points l.store.parts.slots l.triangle l.near;
  count : length l.initial.store.parts.points + l.points ≡ length l.store.parts.points + l.initial.points;
}
