use Rattle.std.proofs.Common.{refl, arith}
use Rattle.std.proofs.lemmas.Int.{ints}
use Rattle.mesh_store.proofs.store.tests.long.largest.Goals as goal

pub returns-clause-cells : goal.returns-clause-cells
returns-clause-cells c = record { power = 5; power_most = omega arith; is = refl }

pub returns-clause-side : goal.returns-clause-side
returns-clause-side c = record { power = 18; power_least = omega arith; power_most = omega arith; is = refl }

pub returns-clause-bounds : goal.returns-clause-bounds
returns-clause-bounds c = record { low = omega (arith, ints); high = omega (arith, ints) }
