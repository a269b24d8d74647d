use Rattle.std.proofs.Common.{refl, arith}
use Rattle.local_ops.proofs.tests.tries_on_the_coarsest_background.Goals as goal

pub background_store-requires-clause-cells_in : goal.background_store-requires-clause-cells_in
background_store-requires-clause-cells_in c = λ _. record { power = 0; power_most = omega arith; is = refl }
