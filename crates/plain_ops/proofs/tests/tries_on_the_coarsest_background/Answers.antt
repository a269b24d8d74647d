use Rattle.std.proofs.Common.{refl}
use Rattle.mesh_types.specs.Lattice.{lattice}
use Rattle.plain_ops.proofs.tests.tries_on_the_coarsest_background.Goals as goal

pub verdict_on-requires : goal.verdict_on-requires
unfolding lattice
verdict_on-requires c = λ _. refl

pub verdict_on-requires-2 : goal.verdict_on-requires-2
unfolding lattice
verdict_on-requires-2 c = λ _. refl

pub verdict_on-requires-3 : goal.verdict_on-requires-3
unfolding lattice
verdict_on-requires-3 c = λ _. refl
