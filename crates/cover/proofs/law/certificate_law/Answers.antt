use Rattle.cover.proofs.One as One
use Rattle.cover.proofs.law.certificate_law.Goals as goal

pub returns : goal.returns
returns c = One.certificate_law
