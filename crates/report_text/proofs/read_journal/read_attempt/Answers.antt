use Rattle.std.proofs.Common.{subst}
use Rattle.std.proofs.lemmas.Result.{err_from_is_err_and}
use Rattle.lines.proofs.ForCallers.{starts, goes_on, fails, gives_on}
use Rattle.report_text.specs.Rules.{attempt, one_of, try_text}
use Rattle.report_text.specs.declared.kinds.TryKind.{TryKind}
use Rattle.lines.specs.Forms.{Reads}
use Rattle.report_text.proofs.read_journal.read_attempt.Goals as goal

pub returns-in_err-kind : goal.returns-in_err-kind
unfolding attempt
returns-in_err-kind c =
    let p = err_from_is_err_and c.from_residual.result c.from_residual.ensures.1 in
    rw (p.1, p.2) (fails c.in_err-kind.field-0.0 (starts (attempt) c.args.bytes.now) c.in_err-kind.ensures)

pub returns-in-Split : goal.returns-in-Split
unfolding attempt
returns-in-Split c = gives_on (λ x. x) c.read_split.result (goes_on (starts attempt c.args.bytes.now) (subst (λ (k : TryKind). Reads (one_of try_text) c.args.bytes.now k c.in_ok-kind.rest.now) c.in-Split.is c.in_ok-kind.ensures)) c.read_split.ensures

pub returns-in-Shift : goal.returns-in-Shift
unfolding attempt
returns-in-Shift c = gives_on (λ x. x) c.read_shift.result (goes_on (starts attempt c.args.bytes.now) (subst (λ (k : TryKind). Reads (one_of try_text) c.args.bytes.now k c.in_ok-kind.rest.now) c.in-Shift.is c.in_ok-kind.ensures)) c.read_shift.ensures

pub returns-in-Collapse : goal.returns-in-Collapse
unfolding attempt
returns-in-Collapse c = gives_on (λ x. x) c.read_collapse.result (goes_on (starts attempt c.args.bytes.now) (subst (λ (k : TryKind). Reads (one_of try_text) c.args.bytes.now k c.in_ok-kind.rest.now) c.in-Collapse.is c.in_ok-kind.ensures)) c.read_collapse.ensures

pub returns-in-FaceSwap : goal.returns-in-FaceSwap
unfolding attempt
returns-in-FaceSwap c = gives_on (λ x. x) c.read_face_swap.result (goes_on (starts attempt c.args.bytes.now) (subst (λ (k : TryKind). Reads (one_of try_text) c.args.bytes.now k c.in_ok-kind.rest.now) c.in-FaceSwap.is c.in_ok-kind.ensures)) c.read_face_swap.ensures

pub returns-in-EdgeSwap : goal.returns-in-EdgeSwap
unfolding attempt
returns-in-EdgeSwap c = gives_on (λ x. x) c.read_edge_swap.result (goes_on (starts attempt c.args.bytes.now) (subst (λ (k : TryKind). Reads (one_of try_text) c.args.bytes.now k c.in_ok-kind.rest.now) c.in-EdgeSwap.is c.in_ok-kind.ensures)) c.read_edge_swap.ensures
