use Rattle.std.proofs.Common.{refl, arith}
use Rattle.std.proofs.lemmas.Int.{ints}
use Rattle.mesh_types.specs.Views.{mesh_of}
use Rattle.local_ops.proofs.FirstStores.{positive-first}
use Rattle.local_ops.proofs.tests.large_store.Goals as goal

pub lattice-requires-clause-cells_in : goal.lattice-requires-clause-cells_in
lattice-requires-clause-cells_in c = record { power = 5; power_most = omega arith; is = refl }

pub lattice-requires-clause-side_in : goal.lattice-requires-clause-side_in
lattice-requires-clause-side_in c = record { power = 18; power_least = omega arith; power_most = omega arith; is = refl }

pub new-requires : goal.new-requires
new-requires c =
    let e = c.in_ok-start.ensures in
    record { box = record { low = omega (arith, ints); high = omega (arith, ints) }; in_box = e.in_box; well_formed = e.well_formed; within = e.within_limits; made = e.made }

pub returns-clause-positive : goal.returns-clause-positive
returns-clause-positive c = positive-first c.new.result (mesh_of c.in_ok-start.start) c.in_ok-start.ensures.tiles.positive c.new.ensures.mesh
