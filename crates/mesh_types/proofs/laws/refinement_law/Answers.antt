use Rattle.mesh_types.proofs.Weaving.{refinement_law}
use Rattle.mesh_types.proofs.laws.refinement_law.Goals as goal

pub returns : goal.returns
returns c = refinement_law
