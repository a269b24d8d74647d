use Rattle.acceptance.proofs.InFolder.{found_good}
use Rattle.acceptance.proofs.laws.found_good_law.Goals as goal

pub returns : goal.returns
returns c = found_good
