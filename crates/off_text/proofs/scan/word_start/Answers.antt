use Rattle.std.proofs.Common.{◌<◌, ap, sym, ◌∙◌, arith}
use Rattle.std.proofs.lemmas.Bool.{eq-eqb, ne_eqb}
use Rattle.off_text.specs.Scans.{rest_at, line_end_at}
use Rattle.off_text.proofs.Steps.{rest_hash, rest_blank, line_end_later}
use Rattle.off_text.proofs.scan.word_start.Goals as goal

pub loop-at-smaller-then-bytes-at-eq35 : goal.loop-at-smaller-then-bytes-at-eq35
loop-at-smaller-then-bytes-at-eq35 c =
    let later : c.loop-at.at < line_end_at c.args.bytes.now c.loop-at.at = line_end_later c.args.bytes.now c.loop-at.at c.loop-at-test.true (eq-eqb _ 35 c.if-bytes-at-eq35.true) in
    omega (arith, c.line_end-at.ensures.place, c.line_end-at.ensures.high)

pub loop-at-preserved-then-bytes-at-eq35 : goal.loop-at-preserved-then-bytes-at-eq35
loop-at-preserved-then-bytes-at-eq35 c = record {
  high = c.line_end-at.ensures.high;
  words = ap (rest_at c.args.bytes.now) c.line_end-at.ensures.place ∙ rest_hash c.args.bytes.now c.loop-at.at c.loop-at-test.true (eq-eqb _ 35 c.if-bytes-at-eq35.true) ∙ c.loop-at.invariant.words;
}

pub loop-at-preserved : goal.loop-at-preserved
loop-at-preserved c = record {
  high = omega arith;
  words = rest_blank c.args.bytes.now c.loop-at.at c.loop-at-test.true (ne_eqb _ 35 c.if-bytes-at-eq35.false) (sym c.is_blank.ensures ∙ c.if-is_blank.true) ∙ c.loop-at.invariant.words;
}
