use Rattle.std.proofs.Common.{◌≡◌, w32, to_z, sym, subst, arith}
use Rattle.std.specs.Prelude.{ℤ, pos}
use Rattle.std.proofs.Math.Facts.{to_z_pos}
use Rattle.std.proofs.lemmas.Result.{err_from_is_err_and}
use Rattle.lines.specs.Forms.{Reads}
use Rattle.lines.specs.Gives.{Fails}
use Rattle.lines.proofs.ForCallers.{starts, goes_on, ends, fails}
use Rattle.report_text.specs.Rules.{report_rules, second_part}
use Rattle.report_text.proofs.whole.read_whole.Goals as goal

pub returns-in_err-rest-clause-gives : goal.returns-in_err-rest-clause-gives
unfolding report_rules
returns-in_err-rest-clause-gives c =
    let p = err_from_is_err_and c.from_residual.result c.from_residual.ensures.1 in
    rw (p.1, p.2) (fails c.in_err-rest.field-0.0 (starts (report_rules) c.args.bytes.now) c.in_err-rest.ensures)

pub returns-in_err-epsilon-clause-gives : goal.returns-in_err-epsilon-clause-gives
unfolding report_rules
returns-in_err-epsilon-clause-gives c =
    let p = err_from_is_err_and c.from_residual-in_err-epsilon.result c.from_residual-in_err-epsilon.ensures.1 in
    rw (p.1, p.2) (fails c.in_err-epsilon.field-0.0 (goes_on (starts (report_rules) c.args.bytes.now) c.in_ok-rest.ensures) c.in_err-epsilon.ensures.gives)

pub returns-in_err-cells-clause-gives : goal.returns-in_err-cells-clause-gives
unfolding report_rules
returns-in_err-cells-clause-gives c =
    let p = err_from_is_err_and c.from_residual-in_err-cells.result c.from_residual-in_err-cells.ensures.1 in
    rw (p.1, p.2) (fails c.in_err-cells.field-0.0 (goes_on (goes_on (starts (report_rules) c.args.bytes.now) c.in_ok-rest.ensures) c.in_ok-epsilon.ensures.gives) c.in_err-cells.ensures)

pub returns-in_err-budget-clause-gives : goal.returns-in_err-budget-clause-gives
unfolding report_rules
returns-in_err-budget-clause-gives c =
    let p = err_from_is_err_and c.from_residual-in_err-budget.result c.from_residual-in_err-budget.ensures.1 in
    rw (p.1, p.2) (fails c.in_err-budget.field-0.0 (goes_on (goes_on (goes_on (starts (report_rules) c.args.bytes.now) c.in_ok-rest.ensures) c.in_ok-epsilon.ensures.gives) c.in_ok-cells.ensures) c.in_err-budget.ensures.gives)

pub returns-in_err-size-clause-gives : goal.returns-in_err-size-clause-gives
unfolding report_rules
returns-in_err-size-clause-gives c =
    let p = err_from_is_err_and c.from_residual-in_err-size.result c.from_residual-in_err-size.ensures.1 in
    rw (p.1, p.2) (fails c.in_err-size.field-0.0 (goes_on (goes_on (goes_on (goes_on (starts (report_rules) c.args.bytes.now) c.in_ok-rest.ensures) c.in_ok-epsilon.ensures.gives) c.in_ok-cells.ensures) c.in_ok-budget.ensures.gives) c.in_err-size.ensures.gives)

pub returns-in_err-shift-clause-gives : goal.returns-in_err-shift-clause-gives
unfolding report_rules
returns-in_err-shift-clause-gives c =
    let p = err_from_is_err_and c.from_residual-in_err-shift.result c.from_residual-in_err-shift.ensures.1 in
    rw (p.1, p.2) (fails c.in_err-shift.field-0.0 (goes_on (goes_on (goes_on (goes_on (goes_on (starts (report_rules) c.args.bytes.now) c.in_ok-rest.ensures) c.in_ok-epsilon.ensures.gives) c.in_ok-cells.ensures) c.in_ok-budget.ensures.gives) c.in_ok-size.ensures.gives) c.in_err-shift.ensures.gives)

pub returns-in_err-count-clause-gives : goal.returns-in_err-count-clause-gives
unfolding report_rules
returns-in_err-count-clause-gives c =
    let p = err_from_is_err_and c.from_residual-in_err-count.result c.from_residual-in_err-count.ensures.1 in
    rw (p.1, p.2) (fails c.in_err-count.field-0.0 (goes_on (goes_on (goes_on (goes_on (goes_on (goes_on (starts (report_rules) c.args.bytes.now) c.in_ok-rest.ensures) c.in_ok-epsilon.ensures.gives) c.in_ok-cells.ensures) c.in_ok-budget.ensures.gives) c.in_ok-size.ensures.gives) c.in_ok-shift.ensures.gives) c.in_err-count.ensures.gives)

pub returns-in_err-outcomes-clause-gives : goal.returns-in_err-outcomes-clause-gives
unfolding report_rules
returns-in_err-outcomes-clause-gives c =
    let p = err_from_is_err_and c.from_residual-in_err-outcomes.result c.from_residual-in_err-outcomes.ensures.1 in
    rw (p.1, p.2) (fails c.in_err-outcomes.field-0.0 (goes_on (goes_on (goes_on (goes_on (goes_on (goes_on (goes_on (starts (report_rules) c.args.bytes.now) c.in_ok-rest.ensures) c.in_ok-epsilon.ensures.gives) c.in_ok-cells.ensures) c.in_ok-budget.ensures.gives) c.in_ok-size.ensures.gives) c.in_ok-shift.ensures.gives) c.in_ok-count.ensures.gives) c.in_err-outcomes.ensures)

pub returns-in_err-tries-clause-gives : goal.returns-in_err-tries-clause-gives
unfolding report_rules
returns-in_err-tries-clause-gives c =
    let p = err_from_is_err_and c.from_residual-in_err-tries.result c.from_residual-in_err-tries.ensures.1 in
    rw (p.1, p.2) (fails c.in_err-tries.field-0.0 (goes_on (goes_on (goes_on (goes_on (goes_on (goes_on (goes_on (goes_on (starts (report_rules) c.args.bytes.now) c.in_ok-rest.ensures) c.in_ok-epsilon.ensures.gives) c.in_ok-cells.ensures) c.in_ok-budget.ensures.gives) c.in_ok-size.ensures.gives) c.in_ok-shift.ensures.gives) c.in_ok-count.ensures.gives) c.in_ok-outcomes.ensures) c.in_err-tries.ensures)

pub returns-in_err-tail-clause-gives : goal.returns-in_err-tail-clause-gives
unfolding report_rules
returns-in_err-tail-clause-gives c =
    let p = err_from_is_err_and c.from_residual-in_err-tail.result c.from_residual-in_err-tail.ensures.1 in
    rw (p.1, p.2) (fails c.in_err-tail.field-0.0 (goes_on (goes_on (goes_on (goes_on (goes_on (goes_on (goes_on (goes_on (goes_on (starts (report_rules) c.args.bytes.now) c.in_ok-rest.ensures) c.in_ok-epsilon.ensures.gives) c.in_ok-cells.ensures) c.in_ok-budget.ensures.gives) c.in_ok-size.ensures.gives) c.in_ok-shift.ensures.gives) c.in_ok-count.ensures.gives) c.in_ok-outcomes.ensures) c.in_ok-tries.ensures) (subst (λ n. Fails (second_part c.in_ok-count.count c.in_ok-size.size.side c.in_ok-shift.shift n) c.in_ok-tries.rest.now c.in_err-tail.field-0.0) c.tries_left-left.ensures c.in_err-tail.ensures))

pub returns-in_err-faces-clause-gives : goal.returns-in_err-faces-clause-gives
unfolding report_rules
returns-in_err-faces-clause-gives c =
    let p = err_from_is_err_and c.from_residual-in_err-faces.result c.from_residual-in_err-faces.ensures.1 in
    rw (p.1, p.2) (fails c.in_err-faces.field-0.0 (goes_on (goes_on (goes_on (goes_on (goes_on (goes_on (goes_on (goes_on (goes_on (goes_on (starts (report_rules) c.args.bytes.now) c.in_ok-rest.ensures) c.in_ok-epsilon.ensures.gives) c.in_ok-cells.ensures) c.in_ok-budget.ensures.gives) c.in_ok-size.ensures.gives) c.in_ok-shift.ensures.gives) c.in_ok-count.ensures.gives) c.in_ok-outcomes.ensures) c.in_ok-tries.ensures) (subst (λ n. Reads (second_part c.in_ok-count.count c.in_ok-size.size.side c.in_ok-shift.shift n) c.in_ok-tries.rest.now (c.in_ok-tail.tail.second, c.in_ok-tail.tail.faces) c.in_ok-tail.rest.now) c.tries_left-left.ensures c.in_ok-tail.ensures)) c.in_err-faces.ensures)

pub returns-clause-gives : goal.returns-clause-gives
unfolding report_rules
returns-clause-gives c =
    let side : pos c.in_ok-size.size.side ≡ to_z w32 c.in_ok-size.size.side = sym (to_z_pos w32 (omega (arith, c.in_ok-size.ensures.small))) in
    subst (λ (z : ℤ). Reads report_rules c.args.bytes.now (record { epsilon = c.in_ok-epsilon.epsilon; cells = c.in_ok-cells.cells; budget = c.in_ok-budget.budget; digits = c.in_ok-size.size.digits; side = z; shift = c.in_ok-shift.shift; outcomes = c.from_vec.result; journal = c.in_ok-tries.tries.journal; end = c.in_ok-tries.tries.end; faces = c.from_vec-2.result; second = c.in_ok-tail.tail.second }) c.in_ok-faces.rest.now) side
    (rw (c.from_vec.ensures, c.from_vec-2.ensures) (ends (goes_on (goes_on (goes_on (goes_on (goes_on (goes_on (goes_on (goes_on (goes_on (goes_on (goes_on (starts report_rules c.args.bytes.now) c.in_ok-rest.ensures) c.in_ok-epsilon.ensures.gives) c.in_ok-cells.ensures) c.in_ok-budget.ensures.gives) c.in_ok-size.ensures.gives) c.in_ok-shift.ensures.gives) c.in_ok-count.ensures.gives) c.in_ok-outcomes.ensures) c.in_ok-tries.ensures) (subst (λ n. Reads (second_part c.in_ok-count.count c.in_ok-size.size.side c.in_ok-shift.shift n) c.in_ok-tries.rest.now (c.in_ok-tail.tail.second, c.in_ok-tail.tail.faces) c.in_ok-tail.rest.now) c.tries_left-left.ensures c.in_ok-tail.ensures)) c.in_ok-faces.ensures)))
