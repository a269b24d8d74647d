use Rattle.acceptance.proofs.Acceptable.{accepted}
use Rattle.acceptance.proofs.laws.accepted_law.Goals as goal

pub returns : goal.returns
returns c = accepted
