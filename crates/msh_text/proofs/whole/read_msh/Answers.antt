use Rattle.msh_text.proofs.OneReading.{all_read, all_refused}
use Rattle.msh_text.proofs.whole.read_msh.Goals as goal

pub returns-clause-all_read : goal.returns-clause-all_read
returns-clause-all_read c = λ m h. all_read c.args.d c.args.bytes.now c.read.result m c.read.ensures.answers h

pub returns-clause-all_refused : goal.returns-clause-all_refused
returns-clause-all_refused c = λ n h. all_refused c.args.d c.args.bytes.now c.read.result n c.read.ensures.answers h
