use Rattle.off_text.proofs.WithinLimits.{result_within}
use Rattle.off_text.proofs.read.read_off.Goals as goal

pub returns-clause-limits : goal.returns-clause-limits
returns-clause-limits c = result_within c.args.digits c.args.bytes.now c.read.result c.read.ensures
