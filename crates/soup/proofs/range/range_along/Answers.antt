use Rattle.std.proofs.Common.{ap}
use Rattle.soup.proofs.Ranges.{fold_step}
use Rattle.soup.proofs.range.range_along.Goals as goal

pub loop-v-preserved : goal.loop-v-preserved
loop-v-preserved c = record {
  least_is = fold_step _ _ _ _ _ _ _ c.loop-v-test.true (ap (λ r. r.least) c.with-range.ensures) c.loop-v.invariant.least_is;
  greatest_is = fold_step _ _ _ _ _ _ _ c.loop-v-test.true (ap (λ r. r.greatest) c.with-range.ensures) c.loop-v.invariant.greatest_is;
}
