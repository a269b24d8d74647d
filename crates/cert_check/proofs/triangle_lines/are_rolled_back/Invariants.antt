use Rattle.std.proofs.Common.{◌≡◌, ◌↔◌, ◌≤◌, length, map}
use Rattle.mesh_types.specs.Turns.{rolled_back}
use Rattle.cert_check.proofs.RolledBack.{AreFrom}
use Rattle.cert_check.proofs.triangle_lines.are_rolled_back.Given as goal

abbrev pub invariant-loop-i : goal.invariant-loop-i
invariant-loop-i l = record {
  met : l.met ≤ length l.again;
  so_far : (map (λ a. a.triangle) l.again ≡ rolled_back 0 l.outcomes) ↔ AreFrom l.again l.outcomes l.met l.i;
}
