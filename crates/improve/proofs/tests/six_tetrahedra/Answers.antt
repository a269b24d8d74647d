use Rattle.std.proofs.Common.{◌≡◌, Result, Ok, Err, IfOk, refl, sym, subst, arith}
use Rattle.std.proofs.lemmas.Int.{ints}
use Rattle.grid.specs.declared.memory.Memory.{Memory}
use Rattle.grid.specs.Meshes.{Mesh}
use Rattle.mesh_types.specs.Journals.{NoFaceTwice}
use Rattle.mesh_types.specs.Views.{mesh_of}
use Rattle.mesh_store.specs.Parts.{StoreView, mesh_in}
use Rattle.local_ops.proofs.ForCallers.{positive-first}
use Rattle.improve.proofs.tests.six_tetrahedra.Goals as goal

once-first : (r : Result StoreView Memory) (m : Mesh) → NoFaceTwice m → IfOk r (λ s. mesh_in s.parts ≡ m) → IfOk r (λ s. NoFaceTwice (mesh_in s.parts))
once-first (Ok s) m h e = subst NoFaceTwice (sym e) h
once-first (Err x) m h e = tt

pub lattice-requires-clause-cells_in : goal.lattice-requires-clause-cells_in
lattice-requires-clause-cells_in c = record { power = 0; power_most = omega arith; is = refl }

pub new-requires : goal.new-requires
new-requires c =
    let e = c.in_ok-start.ensures in
    record { box = record { low = omega (arith, ints); high = omega (arith, ints) }; in_box = e.in_box; well_formed = e.well_formed; within = e.within_limits; made = e.made }

pub returns-clause-positive : goal.returns-clause-positive
returns-clause-positive c = positive-first c.new.result (mesh_of c.in_ok-start.start) c.in_ok-start.ensures.tiles.positive c.new.ensures.mesh

pub returns-clause-once : goal.returns-clause-once
returns-clause-once c = once-first c.new.result (mesh_of c.in_ok-start.start) c.in_ok-start.ensures.tiles.fills.once c.new.ensures.mesh
