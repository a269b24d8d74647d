use Rattle.std.proofs.Common.{rules}
use Rattle.pieces.proofs.SplitLemmas.{no_cut}
use Rattle.table_pieces.proofs.Searches.{passed-more, place-next}
use Rattle.table_pieces.proofs.labels.place_near.Goals as goal

pub loop-place-preserved : goal.loop-place-preserved
loop-place-preserved c = passed-more c.args.u c.args.v c.args.cuts.now c.loop-place.place no_cut (search rules) (search rules) c.loop-place.invariant

pub returns-then-not-comes_before-clause-place : goal.returns-then-not-comes_before-clause-place
returns-then-not-comes_before-clause-place c = place-next c.args.u c.args.v c.args.cuts.now c.loop-place.place no_cut c.requires.ordered (search rules) (search rules) c.loop-place.invariant
