use Rattle.std.proofs.Common.{◌<◌, ℕ, [], get_or}
use Rattle.grid.specs.Views.{triples_of}
use Rattle.mesh_types.specs.Insertion.{IsUncovered}
use Rattle.plain_ops.proofs.defects.first_uncovered.Given as goal

abbrev pub invariant-loop-face : goal.invariant-loop-face
invariant-loop-face l = (k : ℕ) → k < l.face-index → ¬ IsUncovered l.points l.env l.e (triples_of l.before) (get_or l.faces k (record { 0 = [] })).0
