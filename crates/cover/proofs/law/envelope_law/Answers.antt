use Rattle.cover.proofs.InEnvelope as InEnvelope
use Rattle.cover.proofs.law.envelope_law.Goals as goal

pub returns : goal.returns
returns c = InEnvelope.envelope_law
