use Rattle.std.proofs.Common.{[]}
use Rattle.std.proofs.lemmas.Result.{err_from_is_err_and}
use Rattle.lines.proofs.ForCallers.{starts, goes_on, ends, fails}
use Rattle.report_text.specs.declared.kinds.PartKind.TheVariants as part_kinds
use Rattle.report_text.specs.Rules.{part_behind}
use Rattle.report_text.proofs.read_second.read_tracked.Goals as goal

pub returns-in_err-faces : goal.returns-in_err-faces
returns-in_err-faces c =
    let p = err_from_is_err_and c.from_residual.result c.from_residual.ensures.1 in
    rw (p.1, p.2) (fails c.in_err-faces.field-0.0 (starts (part_behind 0 0 [] 0 part_kinds.Tracked) c.args.bytes.now) c.in_err-faces.ensures.gives)

pub returns : goal.returns
returns c = ends (goes_on (starts (part_behind 0 0 [] 0 part_kinds.Tracked) c.args.bytes.now) c.in_ok-faces.ensures.gives)
