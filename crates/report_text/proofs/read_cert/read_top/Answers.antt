use Rattle.std.proofs.Common.{arith}
use Rattle.std.proofs.lemmas.Result.{err_from_is_err_and}
use Rattle.report_text.proofs.TopOfCert.{deep_breaks, split_reads, leaf_reads, leaf_fails}
use Rattle.report_text.proofs.read_cert.read_top.Goals as goal

pub returns-then-levels-eq0-clause-gives : goal.returns-then-levels-eq0-clause-gives
returns-then-levels-eq0-clause-gives c = deep_breaks c.args.levels c.args.end c.args.bytes.now c.in-Some.rest.now c.requires.end c.if-levels-eq0.true c.in-Some.ensures

pub returns-in-Some-clause-gives : goal.returns-in-Some-clause-gives
returns-in-Some-clause-gives c = split_reads c.args.levels c.args.end c.args.bytes.now c.in-Some.rest.now (omega (arith, c.if-levels-eq0.false)) c.in-Some.ensures

pub returns-in_err-t-clause-gives : goal.returns-in_err-t-clause-gives
returns-in_err-t-clause-gives c =
    let p = err_from_is_err_and c.from_residual.result c.from_residual.ensures.1 in
    rw (p.1, p.2) (leaf_fails c.args.levels c.args.end c.args.bytes.now c.in_err-t.field-0.0 c.in_default.ensures c.in_err-t.ensures.gives)

pub returns-clause-gives : goal.returns-clause-gives
returns-clause-gives c = leaf_reads c.args.levels c.args.end c.args.bytes.now c.in_ok-t.t c.in_ok-t.rest.now c.in_ok-t.ensures.gives
