use Rattle.std.proofs.Common.{sym, ◌∙◌}
use Rattle.off_text.proofs.Steps.{word_is, next_is, rest_ends}
use Rattle.off_text.proofs.scan.next_word.Goals as goal

pub returns-then-start-bytes : goal.returns-then-start-bytes
returns-then-start-bytes c = next_is c.args.bytes.now c.args.from _ c.word_start-start.ensures.words (word_is c.args.bytes.now _ _ c.if-start-bytes.true (c.word_start-start.ensures.begins c.if-start-bytes.true) c.word_end-end.ensures)

pub returns-else-start-bytes : goal.returns-else-start-bytes
returns-else-start-bytes c = sym c.word_start-start.ensures.words ∙ rest_ends c.args.bytes.now _ c.if-start-bytes.false
