use Rattle.mesh_types.proofs.OneOutcome as OneOutcome
use Rattle.mesh_types.proofs.laws.turns_law.Goals as goal

pub returns : goal.returns
returns c = OneOutcome.turns_law
