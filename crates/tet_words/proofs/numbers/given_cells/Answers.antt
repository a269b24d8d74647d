use Rattle.std.proofs.Common.{refl, lit≤}
use Rattle.tet_words.proofs.numbers.given_cells.Goals as goal

pub returns-in-None-clause-cells : goal.returns-in-None-clause-cells
returns-in-None-clause-cells c = record { power = 2; power_most = lit≤ tt; is = refl }
