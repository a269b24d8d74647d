use Rattle.std.proofs.Common.{refl, lit≤}
use Rattle.insertion.proofs.tests.fine_store.Goals as goal

pub lattice-requires-clause-cells_in : goal.lattice-requires-clause-cells_in
lattice-requires-clause-cells_in c = record { power = 2; power_most = lit≤ tt; is = refl }

pub lattice-requires-clause-side_in : goal.lattice-requires-clause-side_in
lattice-requires-clause-side_in c = record { power = 4; power_least = lit≤ tt; power_most = lit≤ tt; is = refl }
