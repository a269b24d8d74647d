use Rattle.cert_check.proofs.OneFinding.{one_finding}
use Rattle.cert_check.proofs.laws.one_finding_law.Goals as goal

pub returns : goal.returns
returns c = one_finding
