use Rattle.std.proofs.Common.{refl, arith}
use Rattle.local_ops.proofs.tests.keeps_tracked_faces.Goals as goal

pub background_store-requires-clause-cells_in : goal.background_store-requires-clause-cells_in
background_store-requires-clause-cells_in c = λ _. record { power = 2; power_most = omega arith; is = refl }
