use Rattle.std.proofs.Common.{◌<◌, ℕ, [], get_or}
use Rattle.grid.specs.Views.{triples_of}
use Rattle.plain_ops.specs.Befores.{FallsOnAnother}
use Rattle.plain_ops.proofs.before.are_apart.Given as goal

abbrev pub invariant-loop-face : goal.invariant-loop-face
invariant-loop-face l = (k : ℕ) → k < l.face-index → ¬ FallsOnAnother (triples_of l.faces) l.u l.v (get_or l.faces k (record { 0 = [] })).0
