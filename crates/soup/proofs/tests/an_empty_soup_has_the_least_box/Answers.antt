use Rattle.std.proofs.Common.{refl, lit≤}
use Rattle.soup.proofs.tests.an_empty_soup_has_the_least_box.Goals as goal

pub compare-requires-clause-cells : goal.compare-requires-clause-cells
compare-requires-clause-cells g c = record { power = 4; power_most = lit≤ tt; is = refl }
