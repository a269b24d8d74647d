use Rattle.std.proofs.Common.{◌≡◌}
use Rattle.mesh_store.proofs.store.tests.long.split_often.Given as goal

abbrev pub invariant-loop : goal.invariant-loop
invariant-loop l = l.store ≡ l.fn.store
