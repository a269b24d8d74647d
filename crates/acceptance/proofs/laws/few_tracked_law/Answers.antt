use Rattle.acceptance.proofs.Acceptable.{few_tracked}
use Rattle.acceptance.proofs.laws.few_tracked_law.Goals as goal

pub returns : goal.returns
returns c = few_tracked
