use Rattle.outputs.proofs.OneOutput.{one_output}
use Rattle.outputs.proofs.laws.one_output_law.Goals as goal

pub returns : goal.returns
returns c = one_output
