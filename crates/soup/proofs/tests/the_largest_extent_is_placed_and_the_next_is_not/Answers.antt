use Rattle.std.proofs.Common.{refl, lit≤}
use Rattle.soup.proofs.tests.the_largest_extent_is_placed_and_the_next_is_not.Goals as goal

pub compare-requires-clause-cells : goal.compare-requires-clause-cells
compare-requires-clause-cells g c = record { power = 2; power_most = lit≤ tt; is = refl }
