use Rattle.std.proofs.lemmas.Result.{err_from_is_err_and}
use Rattle.lines.specs.Fields.{Between}
use Rattle.lines.proofs.ForCallers.{starts, goes_on, fails, gives_on}
use Rattle.report_text.specs.Rules.{named}
use Rattle.report_text.proofs.read_words.read_named.Goals as goal

pub returns-in_err-rest-clause-gives : goal.returns-in_err-rest-clause-gives
returns-in_err-rest-clause-gives c =
    let p = err_from_is_err_and c.from_residual.result c.from_residual.ensures.1 in
    rw (p.1, p.2) (fails c.in_err-rest.field-0.0 (starts (named c.args.name.now (Between c.args.low c.args.high)) c.args.bytes.now) c.in_err-rest.ensures)

pub returns-clause-gives : goal.returns-clause-gives
returns-clause-gives c = gives_on (λ x. x) c.read_number.result (goes_on (starts (named c.args.name.now (Between c.args.low c.args.high)) c.args.bytes.now) c.in_ok-rest.ensures) c.read_number.ensures.gives
