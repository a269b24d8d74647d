use Rattle.std.proofs.Common.{subst}
use Rattle.std.proofs.lemmas.Result.{err_from_is_err_and}
use Rattle.lines.specs.Forms.{Reads}
use Rattle.lines.proofs.ForCallers.{starts, goes_on, fails, gives_on}
use Rattle.report_text.specs.declared.kinds.SizeKind.{SizeKind}
use Rattle.report_text.specs.declared.report.Size.{Size}
use Rattle.report_text.specs.Rules.{size, one_of, size_kind_text}
use Rattle.report_text.proofs.read_head.read_size.Goals as goal

pub returns-in_err-kind-clause-gives : goal.returns-in_err-kind-clause-gives
unfolding size
returns-in_err-kind-clause-gives c =
    let p = err_from_is_err_and c.from_residual.result c.from_residual.ensures.1 in
    rw (p.1, p.2) (fails c.in_err-kind.field-0.0 (starts (size) c.args.bytes.now) c.in_err-kind.ensures)

pub returns-in-Digits-clause-gives : goal.returns-in-Digits-clause-gives
unfolding size
returns-in-Digits-clause-gives c = gives_on (λ (s : Size). (s.digits, s.side)) c.read_digits_and_side.result (goes_on (starts size c.args.bytes.now) (subst (λ (k : SizeKind). Reads (one_of size_kind_text) c.args.bytes.now k c.in_ok-kind.rest.now) c.in-Digits.is c.in_ok-kind.ensures)) c.read_digits_and_side.ensures.gives

pub returns-in-Side-clause-gives : goal.returns-in-Side-clause-gives
unfolding size
returns-in-Side-clause-gives c = gives_on (λ (s : Size). (s.digits, s.side)) c.read_side_alone.result (goes_on (starts size c.args.bytes.now) (subst (λ (k : SizeKind). Reads (one_of size_kind_text) c.args.bytes.now k c.in_ok-kind.rest.now) c.in-Side.is c.in_ok-kind.ensures)) c.read_side_alone.ensures.gives
