use Rattle.grid.specs.Views.{corners_of, triples_of}
use Rattle.mesh_types.specs.Lattice.{lattice}
use Rattle.plain_ops.proofs.tests.bare.Goals as goal

pub returns : goal.returns
unfolding lattice
returns c = λ i. record { points = c.in_ok-from_slice.ensures i; tets = corners_of (c.in_ok-from_slice-2.ensures i); tracked = triples_of (c.new.ensures i); made = 6 }
