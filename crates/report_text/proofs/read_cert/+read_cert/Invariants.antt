use Rattle.report_text.proofs.read_cert.+read_cert.Given as goal

abbrev pub decreases-read_cert : goal.decreases-read_cert
decreases-read_cert l = l.levels
