use Rattle.std.proofs.Common.{sym, ◌∙◌, inr, refl, length, subst}
use Rattle.lines.specs.Gives.{Fails}
use Rattle.report_text.specs.Rules.{report_rules}
use Rattle.lines.proofs.ForCallers.{left_high, rest_short, some_left}
use Rattle.report_text.proofs.ReadsReport.{is_report}
use Rattle.report_text.proofs.whole.read.Goals as goal

pub line_at-requires : goal.line_at-requires
line_at-requires c = rest_short report_rules c.args.bytes.now c.in-Ok.report c.in-Ok.rest.now c.in-Ok.ensures.gives

pub line_at-requires-in-Err-At : goal.line_at-requires-in-Err-At
line_at-requires-in-Err-At c = left_high report_rules c.args.bytes.now c.in-Err-At.left (subst (Fails report_rules c.args.bytes.now) c.in-Err-At.field-0-is c.in-Err-At.ensures.gives)

pub returns-then-is_empty-clause-answers : goal.returns-then-is_empty-clause-answers
returns-then-is_empty-clause-answers c = is_report c.args.bytes.now c.in-Ok.rest.now c.in-Ok.report c.in-Ok.ensures.gives (sym c.is_empty.ensures ∙ c.if-is_empty.true)

pub returns-else-is_empty-clause-answers : goal.returns-else-is_empty-clause-answers
returns-else-is_empty-clause-answers c = record {
  left = length c.in-Ok.rest.now;
  leaves = inr (c.in-Ok.report, c.in-Ok.rest.now, c.in-Ok.ensures.gives, some_left c.in-Ok.rest.now (sym c.is_empty.ensures ∙ c.if-is_empty.false), refl);
  line = c.line_at.ensures;
}
