use Rattle.std.proofs.lemmas.Result.{err_from_is_err_and}
use Rattle.lines.proofs.ForCallers.{starts, goes_on, ends, fails}
use Rattle.report_text.specs.declared.kinds.SizeKind.TheVariants as size_kinds
use Rattle.report_text.specs.Rules.{size_behind}
use Rattle.report_text.proofs.read_head.read_side_alone.Goals as goal

pub returns-in_err-side-clause-gives : goal.returns-in_err-side-clause-gives
returns-in_err-side-clause-gives c =
    let p = err_from_is_err_and c.from_residual.result c.from_residual.ensures.1 in
    rw (p.1, p.2) (fails c.in_err-side.field-0.0 (starts (size_behind size_kinds.Side) c.args.bytes.now) c.in_err-side.ensures.gives)

pub returns-clause-gives : goal.returns-clause-gives
returns-clause-gives c = ends (goes_on (starts (size_behind size_kinds.Side) c.args.bytes.now) c.in_ok-side.ensures.gives)
