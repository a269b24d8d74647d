use Rattle.acceptance.proofs.Acceptable.{off_the_box}
use Rattle.acceptance.proofs.laws.off_the_box_law.Goals as goal

pub returns : goal.returns
returns c = off_the_box
