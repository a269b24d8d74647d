use Rattle.std.proofs.Common.{length, refl, sym, ◌∙◌, arith}
use Rattle.std.specs.Prelude.{codes}
use Rattle.std.proofs.lemmas.Result.{err_from_is_err_and}
use Rattle.lines.proofs.ForCallers.{starts, goes_on, ends_with, fails, narrow_reads, narrow_breaks, narrow_fails, word_clear, fails_last}
use Rattle.lines.specs.Fields.{feed, word, Between}
use Rattle.report_text.specs.Rules.{named, IsCells}
use Rattle.report_text.proofs.Head.{other_than}
use Rattle.report_text.proofs.read_head.read_cells.Goals as goal

pub returns-in_err-rest : goal.returns-in_err-rest
returns-in_err-rest c =
    let p = err_from_is_err_and c.from_residual.result c.from_residual.ensures.1 in
    rw (p.1, p.2) (fails c.in_err-rest.field-0.0 (starts (named (codes "cells ") IsCells) c.args.bytes.now) c.in_err-rest.ensures)

pub returns-in_err-cells : goal.returns-in_err-cells
returns-in_err-cells c =
    let p = err_from_is_err_and c.from_residual-in_err-cells.result c.from_residual-in_err-cells.ensures.1 in
    rw (p.1, p.2) (fails_last c.in_err-cells.field-0.0 (goes_on (starts (named (codes "cells ") IsCells) c.args.bytes.now) c.in_ok-rest.ensures) (narrow_fails (word feed) (Between 1 32) IsCells c.in_ok-rest.rest.now c.in_err-cells.field-0.0 (λ m k. k.0) c.in_err-cells.ensures.gives))

pub returns-then-not-is_cells : goal.returns-then-not-is_cells
returns-then-not-is_cells c = (goes_on (starts (named (codes "cells ") IsCells) c.args.bytes.now) c.in_ok-rest.ensures).breaks (length c.in_ok-rest.rest.now)
    (narrow_breaks (word feed) (Between 1 32) IsCells c.in_ok-rest.rest.now c.in_ok-cells.cells c.in_ok-cells.behind.now (word_clear feed (Between 1 32) refl (λ m k. omega (arith, k.1))) (λ m k. k.0) c.in_ok-cells.ensures.gives (λ allowed. other_than _ _ c.is_cells.ensures c.if-not-is_cells.true allowed.1))

pub returns : goal.returns
returns c = ends_with _ _ (goes_on (starts (named (codes "cells ") IsCells) c.args.bytes.now) c.in_ok-rest.ensures) (narrow_reads (word feed) (Between 1 32) IsCells c.in_ok-rest.rest.now c.in_ok-cells.cells c.in_ok-cells.behind.now c.in_ok-cells.ensures.gives (c.in_ok-cells.ensures.between, sym c.is_cells.ensures ∙ c.if-not-is_cells.false))
