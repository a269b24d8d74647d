use Rattle.std.proofs.Common.{◌≡◌, None, true}
use Rattle.mesh_store.specs.Parts.{mesh_in}
use Rattle.mesh_types.specs.Journals.{AllPositive}
use Rattle.mesh_types.specs.Tries.{is_candidate}
use Rattle.local_ops.proofs.tests.is_always_worse.Given as goal

abbrev pub invariant-loop : goal.invariant-loop
invariant-loop l = record {
  closed : l.store.at_begin ≡ None;
  positive : AllPositive (mesh_in l.store.parts);
  candidate : is_candidate (mesh_in l.store.parts).tets l.try_made ≡ true;
}
