use Rattle.msh_text.proofs.Keeping.{keeps}
use Rattle.msh_text.proofs.laws.plain_law.Goals as goal

pub returns : goal.returns
returns c = keeps
