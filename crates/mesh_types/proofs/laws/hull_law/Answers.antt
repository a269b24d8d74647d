use Rattle.mesh_types.proofs.WeightedMeans as WeightedMeans
use Rattle.mesh_types.proofs.laws.hull_law.Goals as goal

pub returns : goal.returns
returns c = WeightedMeans.hull_law
