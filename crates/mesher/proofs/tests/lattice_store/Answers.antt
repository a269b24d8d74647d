use Rattle.std.proofs.Common.{refl, ap, arith}
use Rattle.std.proofs.lemmas.Int.{ints}
use Rattle.mesh_types.specs.Views.{mesh_of}
use Rattle.mesh_store.specs.Parts.{StoreView, mesh_in}
use Rattle.mesher.proofs.Ending.{tiles-as}
use Rattle.mesher.proofs.tests.lattice_store.Goals as goal

pub lattice-requires-clause-cells_in : goal.lattice-requires-clause-cells_in
lattice-requires-clause-cells_in c = record { power = 2; power_most = omega arith; is = refl }

pub new-requires : goal.new-requires
new-requires c =
    let e = c.in_ok-start.ensures in
    record { box = record { low = omega (arith, ints); high = omega (arith, ints) }; in_box = e.in_box; well_formed = e.well_formed; within = e.within_limits; made = e.made }

pub returns-clause-tiles : goal.returns-clause-tiles
returns-clause-tiles c =
    let store = c.in_ok-store.store in
    tiles-as store.side _ (mesh_in store.parts) (mesh_of c.in_ok-start.start) (ap (λ (v : StoreView). v.side) c.in_ok-store.ensures.view) c.in_ok-store.ensures.mesh c.in_ok-start.ensures.tiles
