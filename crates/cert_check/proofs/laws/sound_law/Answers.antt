use Rattle.cert_check.proofs.Soundness.{sound_is_good}
use Rattle.cert_check.proofs.laws.sound_law.Goals as goal

pub returns : goal.returns
returns c = sound_is_good
