use Rattle.table_pieces.specs.Labels.{AreBefore}
use Rattle.table_pieces.proofs.labels.place_near.Given as goal

abbrev pub invariant-loop-place : goal.invariant-loop-place
invariant-loop-place l = AreBefore l.u l.v l.cuts l.place
