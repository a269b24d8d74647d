use Rattle.std.proofs.lemmas.Result.{err_from_is_err_and}
use Rattle.lines.proofs.ForCallers.{starts, goes_on, ends, ends_with, fails, fails_last}
use Rattle.std.specs.Prelude.{codes}
use Rattle.report_text.specs.declared.kinds.SizeKind.TheVariants as size_kinds
use Rattle.report_text.specs.Rules.{named, size_behind, IsSide}
use Rattle.report_text.proofs.read_head.read_digits_and_side.Goals as goal

pub returns-in_err-digits-clause-gives : goal.returns-in_err-digits-clause-gives
returns-in_err-digits-clause-gives c =
    let p = err_from_is_err_and c.from_residual.result c.from_residual.ensures.1 in
    rw (p.1, p.2) (fails c.in_err-digits.field-0.0 (starts (size_behind size_kinds.Digits) c.args.bytes.now) c.in_err-digits.ensures.gives)

pub returns-in_err-rest-clause-gives : goal.returns-in_err-rest-clause-gives
returns-in_err-rest-clause-gives c =
    let p = err_from_is_err_and c.from_residual-in_err-rest.result c.from_residual-in_err-rest.ensures.1 in
    rw (p.1, p.2) (fails c.in_err-rest.field-0.0 (goes_on (starts (size_behind size_kinds.Digits) c.args.bytes.now) c.in_ok-digits.ensures.gives) (fails c.in_err-rest.field-0.0 (starts (named (codes "box ") IsSide) c.in_ok-digits.rest.now) c.in_err-rest.ensures))

pub returns-in_err-side-clause-gives : goal.returns-in_err-side-clause-gives
returns-in_err-side-clause-gives c =
    let p = err_from_is_err_and c.from_residual-in_err-side.result c.from_residual-in_err-side.ensures.1 in
    rw (p.1, p.2) (fails c.in_err-side.field-0.0 (goes_on (starts (size_behind size_kinds.Digits) c.args.bytes.now) c.in_ok-digits.ensures.gives) (fails_last c.in_err-side.field-0.0 (goes_on (starts (named (codes "box ") IsSide) c.in_ok-digits.rest.now) c.in_ok-rest.ensures) c.in_err-side.ensures.gives))

pub returns-clause-gives : goal.returns-clause-gives
returns-clause-gives c = ends (goes_on (goes_on (starts (size_behind size_kinds.Digits) c.args.bytes.now) c.in_ok-digits.ensures.gives) (ends_with c.in_ok-side.side c.in_ok-side.rest.now (goes_on (starts (named (codes "box ") IsSide) c.in_ok-digits.rest.now) c.in_ok-rest.ensures) c.in_ok-side.ensures.gives))
