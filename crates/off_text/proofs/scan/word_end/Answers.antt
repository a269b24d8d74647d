use Rattle.std.proofs.Common.{◌≡◌, length, ap, sym, ◌∙◌, arith}
use Rattle.off_text.specs.Scans.{is_inner, first_failing}
use Rattle.off_text.proofs.Steps.{failing_here, failing_passes, failing_end}
use Rattle.off_text.proofs.scan.word_end.Goals as goal

pub returns-then-not-is_inner : goal.returns-then-not-is_inner
returns-then-not-is_inner c = sym (failing_here is_inner c.args.bytes.now c.loop-i.i c.loop-i-test.true (sym c.is_inner.ensures ∙ c.if-not-is_inner.true)) ∙ c.loop-i.invariant

pub loop-i-preserved : goal.loop-i-preserved
loop-i-preserved c = failing_passes is_inner c.args.bytes.now c.loop-i.i c.loop-i-test.true (sym c.is_inner.ensures ∙ c.if-not-is_inner.false) ∙ c.loop-i.invariant

pub returns : goal.returns
returns c =
    let at_end : length c.args.bytes.now ≡ c.loop-i.i = omega arith in
    sym (failing_end is_inner c.args.bytes.now) ∙ ap (first_failing is_inner c.args.bytes.now) at_end ∙ c.loop-i.invariant
