use Rattle.std.proofs.Common.{◌≡◌, length, ap, sym, ◌∙◌, arith}
use Rattle.off_text.specs.Scans.{line_end_at}
use Rattle.off_text.proofs.Steps.{feed_at, no_feed_at, line_end_last}
use Rattle.off_text.proofs.scan.line_end.Goals as goal

pub returns-then-bytes-i-eq10-clause-place : goal.returns-then-bytes-i-eq10-clause-place
returns-then-bytes-i-eq10-clause-place c = sym (feed_at c.args.bytes.now c.loop-i.i c.loop-i-test.true c.if-bytes-i-eq10.true) ∙ c.loop-i.invariant

pub loop-i-preserved : goal.loop-i-preserved
loop-i-preserved c = no_feed_at c.args.bytes.now c.loop-i.i c.loop-i-test.true c.if-bytes-i-eq10.false ∙ c.loop-i.invariant

pub returns-clause-place : goal.returns-clause-place
returns-clause-place c =
    let at_end : length c.args.bytes.now ≡ c.loop-i.i = omega arith in
    sym (line_end_last c.args.bytes.now) ∙ ap (line_end_at c.args.bytes.now) at_end ∙ c.loop-i.invariant
