use Rattle.std.proofs.Common.{◌<◌, ℕ, get_or, []}
use Rattle.grid.specs.Views.{triples_of}
use Rattle.local_ops.specs.Covering.{IsFine}
use Rattle.local_ops.proofs.covering.all_fine.Given as goal

abbrev pub invariant-loop-face : goal.invariant-loop-face
invariant-loop-face l = (k : ℕ) → k < l.face-index → IsFine l.env l.e (triples_of l.old) l.slots.points (get_or l.faces k (record { 0 = [] })).0
