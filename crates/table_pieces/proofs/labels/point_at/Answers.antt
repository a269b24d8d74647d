use Rattle.std.proofs.Common.{rules, arith}
use Rattle.pieces.proofs.SplitLemmas.{no_cut}
use Rattle.table_pieces.proofs.Searches.{one-at, not-there}
use Rattle.table_pieces.proofs.labels.point_at.Goals as goal
use Rattle.table_pieces.proofs.labels.point_at.Goals.{else-place-cuts-via-then-place-cuts+then-cuts-place+else-cuts-place-2, else-place-cuts-via-then-place-cuts+else-cuts-place, else-place-cuts-via-else-place-cuts}

pub returns-then-cuts-place-2 : goal.returns-then-cuts-place-2
returns-then-cuts-place-2 c = one-at c.args.u c.args.v c.args.first c.args.cuts.now no_cut c.requires.ordered c.args.place (search rules) (search rules) (search rules)

pub returns-else-place-cuts : goal.returns-else-place-cuts
returns-else-place-cuts c = not-there c.args.u c.args.v c.args.first c.args.cuts.now no_cut c.args.place c.requires.ordered c.requires.place (λ lt p q. elim c.else-place-cuts.branch [
  | else-place-cuts-via-then-place-cuts+then-cuts-place+else-cuts-place-2 w ↦ w.if-cuts-place-2.false q
  | else-place-cuts-via-then-place-cuts+else-cuts-place w ↦ w.if-cuts-place.false p
  | else-place-cuts-via-else-place-cuts w ↦ let past = w.if-place-cuts.false in omega (arith, lt, past)
])
