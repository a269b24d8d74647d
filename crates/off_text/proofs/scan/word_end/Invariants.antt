use Rattle.std.proofs.Common.{◌≡◌}
use Rattle.off_text.specs.Scans.{is_inner, first_failing}
use Rattle.off_text.proofs.scan.word_end.Given as goal

abbrev pub invariant-loop-i : goal.invariant-loop-i
invariant-loop-i l = first_failing is_inner l.bytes l.i ≡ first_failing is_inner l.bytes l.from
