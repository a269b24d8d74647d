use Rattle.std.proofs.Common.{ℕ, sym, subst}
use Rattle.msh_text.specs.Rules.{MshRules}
use Rattle.inputs.proofs.reading.read_mesh.Goals as goal

pub returns-in-Ok-read_msh-clause-rules : goal.returns-in-Ok-read_msh-clause-rules
returns-in-Ok-read_msh-clause-rules g c = subst (λ (d : ℕ). MshRules d c.in-Ok-read_msh.mesh) (sym c.in-Ok-read_msh.ensures.digits) c.in-Ok-read_msh.ensures.answers.rules
