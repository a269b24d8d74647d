use Rattle.mesh_types.proofs.Outside as Outside
use Rattle.mesh_types.proofs.laws.all_outside_law.Goals as goal

pub returns : goal.returns
returns c = Outside.all_outside_law
