use Rattle.std.proofs.Common.{◌≡◌, ◌<◌, ◌≤◌, ℕ, List, []}
use Rattle.grid.specs.declared.shapes.Point.{Point}
use Rattle.mesh_types.specs.Phases.{points_of, wanted_in}
use Rattle.insertion.proofs.lasting.lasts.Given as goal

abbrev pub invariant-loop-i : goal.invariant-loop-i
invariant-loop-i l = record {
  room : l.room.items ≡ [];
  unwanted : (points : List Point) → l.corners ≡ points_of points l.tet.0 → (j : ℕ) → 1 ≤ j → j < l.i → wanted_in points l.triangle j l.tet.0 ≡ [];
}
