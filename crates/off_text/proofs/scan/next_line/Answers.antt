use Rattle.std.proofs.Common.{ℕ, ◌+◌, ap, sym, ◌∙◌, arith}
use Rattle.off_text.specs.Scans.{rest_at, line_end_at}
use Rattle.off_text.proofs.Steps.{beyond_is, rest_ends}
use Rattle.off_text.proofs.scan.next_line.Goals as goal

pub returns-then-end-bytes-clause-words : goal.returns-then-end-bytes-clause-words
returns-then-end-bytes-clause-words c = ap (λ (n : ℕ). rest_at c.args.bytes.now (n + 1)) c.line_end-end.ensures.place ∙ beyond_is c.args.bytes.now c.args.from

pub returns-else-end-bytes-clause-words : goal.returns-else-end-bytes-clause-words
returns-else-end-bytes-clause-words c =
    rest_ends c.args.bytes.now _ c.if-end-bytes.false
    ∙ sym (rest_ends c.args.bytes.now (line_end_at c.args.bytes.now c.args.from + 1) (omega (arith, c.if-end-bytes.false, c.line_end-end.ensures.place)))
    ∙ beyond_is c.args.bytes.now c.args.from
