use Rattle.report_text.proofs.ReadsReport.{all_read, all_refused}
use Rattle.report_text.proofs.whole.read_report.Goals as goal

pub returns-clause-all_read : goal.returns-clause-all_read
returns-clause-all_read c = λ r h. all_read c.args.bytes.now c.read.result r c.read.ensures.answers h

pub returns-clause-all_refused : goal.returns-clause-all_refused
returns-clause-all_refused c = λ n h. all_refused c.args.bytes.now c.read.result n c.read.ensures.answers h
