use Rattle.std.proofs.Common.{sym, ◌∙◌, inr, refl, length, subst}
use Rattle.lines.specs.Gives.{Fails}
use Rattle.msh_text.specs.Rules.{msh_rules}
use Rattle.lines.proofs.ForCallers.{left_high, rest_short, some_left}
use Rattle.msh_text.proofs.SaysText.{is_text}
use Rattle.msh_text.proofs.whole.read.Goals as goal

pub line_at-requires : goal.line_at-requires
line_at-requires c = rest_short (msh_rules c.args.d) c.args.bytes.now c.in-Ok.mesh c.in-Ok.rest.now c.in-Ok.ensures.gives

pub line_at-requires-in-Err-At : goal.line_at-requires-in-Err-At
line_at-requires-in-Err-At c = left_high (msh_rules c.args.d) c.args.bytes.now c.in-Err-At.left (subst (Fails (msh_rules c.args.d) c.args.bytes.now) c.in-Err-At.field-0-is c.in-Err-At.ensures.gives)

pub returns-then-is_empty-clause-answers : goal.returns-then-is_empty-clause-answers
returns-then-is_empty-clause-answers c = is_text c.args.d c.args.bytes.now c.in-Ok.rest.now c.in-Ok.mesh c.in-Ok.ensures.gives (sym c.is_empty.ensures ∙ c.if-is_empty.true)

pub returns-else-is_empty-clause-answers : goal.returns-else-is_empty-clause-answers
returns-else-is_empty-clause-answers c = record {
  left = length c.in-Ok.rest.now;
  leaves = inr (c.in-Ok.mesh, c.in-Ok.rest.now, c.in-Ok.ensures.gives, some_left c.in-Ok.rest.now (sym c.is_empty.ensures ∙ c.if-is_empty.false), refl);
  line = c.line_at.ensures;
}
