use Rattle.std.proofs.Common.{◌<◌, ℕ, [], get_or}
use Rattle.grid.specs.Views.{triples_of}
use Rattle.plain_ops.specs.Afters.{IsFine}
use Rattle.plain_ops.proofs.after.are_covered.Given as goal

abbrev pub invariant-loop-face : goal.invariant-loop-face
invariant-loop-face l = (k : ℕ) → k < l.face-index → IsFine l.env l.e (triples_of l.before) l.points (get_or l.faces k (record { 0 = [] })).0
