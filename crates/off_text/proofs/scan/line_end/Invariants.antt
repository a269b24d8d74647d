use Rattle.std.proofs.Common.{◌≡◌}
use Rattle.off_text.specs.Scans.{line_end_at}
use Rattle.off_text.proofs.scan.line_end.Given as goal

abbrev pub invariant-loop-i : goal.invariant-loop-i
invariant-loop-i l = line_end_at l.bytes l.i ≡ line_end_at l.bytes l.from
