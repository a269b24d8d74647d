use Rattle.std.proofs.Common.{◌≡◌, ◌+◌, ◌*◌, [], ◌∷◌}
use Rattle.mesh_types.specs.Lattice.{point}
use Rattle.background.proofs.SoFar.{so_far}
use Rattle.background.proofs.subdivision.points.Given as goal

abbrev pub invariant-loop-i : goal.invariant-loop-i
invariant-loop-i l = l.points.items ≡ so_far (λ i j k. point (i * l.step) (j * l.step) (k * l.step) ∷ []) (l.cells + 1) l.i l.j l.k

abbrev pub invariant-loop-j : goal.invariant-loop-j
invariant-loop-j l = l.points.items ≡ so_far (λ i j k. point (i * l.step) (j * l.step) (k * l.step) ∷ []) (l.cells + 1) 0 l.j l.k

abbrev pub invariant-loop-k : goal.invariant-loop-k
invariant-loop-k l = l.points.items ≡ so_far (λ i j k. point (i * l.step) (j * l.step) (k * l.step) ∷ []) (l.cells + 1) 0 0 l.k
