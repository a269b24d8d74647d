use Rattle.std.proofs.Common.{refl, lit≤}
use Rattle.soup.proofs.tests.a_triangle_lies_in_the_middle_of_its_box.Goals as goal

pub compare-requires-clause-cells : goal.compare-requires-clause-cells
compare-requires-clause-cells g c = record { power = 3; power_most = lit≤ tt; is = refl }
