use Rattle.cert_check.proofs.Accepted.{written_is_sound}
use Rattle.cert_check.proofs.laws.written_law.Goals as goal

pub returns : goal.returns
returns c = written_is_sound
