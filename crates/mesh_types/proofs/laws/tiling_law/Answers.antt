use Rattle.mesh_types.proofs.Twins as Twins
use Rattle.mesh_types.proofs.laws.tiling_law.Goals as goal

pub returns : goal.returns
returns c = Twins.tiling_law
