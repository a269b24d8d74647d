use Rattle.std.proofs.Common.{refl, sym, ◌∙◌, arith}
use Rattle.std.proofs.lemmas.Result.{err_from_is_err_and}
use Rattle.grid.specs.Limits.{largest_side}
use Rattle.lines.proofs.ForCallers.{narrow_reads, narrow_breaks, narrow_fails, word_clear}
use Rattle.lines.specs.Fields.{feed, word, Between}
use Rattle.report_text.specs.Rules.{IsSide}
use Rattle.report_text.proofs.Head.{other_than}
use Rattle.report_text.proofs.read_head.read_side.Goals as goal

pub returns-in_err-side-clause-gives : goal.returns-in_err-side-clause-gives
returns-in_err-side-clause-gives c =
    let p = err_from_is_err_and c.from_residual.result c.from_residual.ensures.1 in
    rw (p.1, p.2) (narrow_fails (word feed) (Between 16 largest_side) IsSide c.args.bytes.now c.in_err-side.field-0.0 (λ m k. k.0) c.in_err-side.ensures.gives)

pub returns-then-not-is_side-clause-gives : goal.returns-then-not-is_side-clause-gives
returns-then-not-is_side-clause-gives c =
    narrow_breaks (word feed) (Between 16 largest_side) IsSide c.args.bytes.now c.in_ok-side.side c.in_ok-side.rest.now (word_clear feed (Between 16 largest_side) refl (λ m k. omega (arith, k.1))) (λ m k. k.0) c.in_ok-side.ensures.gives (λ allowed. other_than _ _ c.is_side.ensures c.if-not-is_side.true allowed.1)

pub returns-clause-gives : goal.returns-clause-gives
returns-clause-gives c = narrow_reads (word feed) (Between 16 largest_side) IsSide c.args.bytes.now c.in_ok-side.side c.in_ok-side.rest.now c.in_ok-side.ensures.gives (c.in_ok-side.ensures.between, sym c.is_side.ensures ∙ c.if-not-is_side.false)
