use Rattle.std.proofs.Common.{subst}
use Rattle.std.proofs.lemmas.Result.{err_from_is_err_and}
use Rattle.lines.proofs.ForCallers.{starts, goes_on, ends, fails, gives_on}
use Rattle.report_text.specs.Rules.{outcome, one_of, outcome_text}
use Rattle.report_text.specs.declared.kinds.OutcomeKind.{OutcomeKind}
use Rattle.lines.specs.Forms.{Reads}
use Rattle.report_text.proofs.read_outcome.read_outcome.Goals as goal

pub returns-in_err-kind : goal.returns-in_err-kind
unfolding outcome
returns-in_err-kind c =
    let p = err_from_is_err_and c.from_residual.result c.from_residual.ensures.1 in
    rw (p.1, p.2) (fails c.in_err-kind.field-0.0 (starts (outcome c.args.side c.args.shift) c.args.bytes.now) c.in_err-kind.ensures)

pub returns-in-Inserted : goal.returns-in-Inserted
unfolding outcome
returns-in-Inserted c = gives_on (λ x. x) c.read_inserted.result (goes_on (starts (outcome c.args.side c.args.shift) c.args.bytes.now) (subst (λ (k : OutcomeKind). Reads (one_of outcome_text) c.args.bytes.now k c.in_ok-kind.rest.now) c.in-Inserted.is c.in_ok-kind.ensures)) c.read_inserted.ensures

pub returns-in-Degenerate : goal.returns-in-Degenerate
unfolding outcome
returns-in-Degenerate c = ends (goes_on (starts (outcome c.args.side c.args.shift) c.args.bytes.now) (subst (λ (k : OutcomeKind). Reads (one_of outcome_text) c.args.bytes.now k c.in_ok-kind.rest.now) c.in-Degenerate.is c.in_ok-kind.ensures))

pub returns-in-Full : goal.returns-in-Full
unfolding outcome
returns-in-Full c = ends (goes_on (starts (outcome c.args.side c.args.shift) c.args.bytes.now) (subst (λ (k : OutcomeKind). Reads (one_of outcome_text) c.args.bytes.now k c.in_ok-kind.rest.now) c.in-Full.is c.in_ok-kind.ensures))

pub returns-in-Inverted : goal.returns-in-Inverted
unfolding outcome
returns-in-Inverted c = gives_on (λ x. x) c.read_inverted.result (goes_on (starts (outcome c.args.side c.args.shift) c.args.bytes.now) (subst (λ (k : OutcomeKind). Reads (one_of outcome_text) c.args.bytes.now k c.in_ok-kind.rest.now) c.in-Inverted.is c.in_ok-kind.ensures)) c.read_inverted.ensures

pub returns-in-Unresolved : goal.returns-in-Unresolved
unfolding outcome
returns-in-Unresolved c = gives_on (λ x. x) c.read_unresolved.result (goes_on (starts (outcome c.args.side c.args.shift) c.args.bytes.now) (subst (λ (k : OutcomeKind). Reads (one_of outcome_text) c.args.bytes.now k c.in_ok-kind.rest.now) c.in-Unresolved.is c.in_ok-kind.ensures)) c.read_unresolved.ensures

pub returns-in-Stray : goal.returns-in-Stray
unfolding outcome
returns-in-Stray c = gives_on (λ x. x) c.read_stray.result (goes_on (starts (outcome c.args.side c.args.shift) c.args.bytes.now) (subst (λ (k : OutcomeKind). Reads (one_of outcome_text) c.args.bytes.now k c.in_ok-kind.rest.now) c.in-Stray.is c.in_ok-kind.ensures)) c.read_stray.ensures

pub returns-in-Uncovered : goal.returns-in-Uncovered
unfolding outcome
returns-in-Uncovered c = gives_on (λ x. x) c.read_uncovered.result (goes_on (starts (outcome c.args.side c.args.shift) c.args.bytes.now) (subst (λ (k : OutcomeKind). Reads (one_of outcome_text) c.args.bytes.now k c.in_ok-kind.rest.now) c.in-Uncovered.is c.in_ok-kind.ensures)) c.read_uncovered.ensures
