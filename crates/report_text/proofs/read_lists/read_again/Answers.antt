use Rattle.std.proofs.Common.{[], ◌∷◌, ◌++◌, ◌-◌, sym, ap, ◌∙◌, subst}
use Rattle.std.proofs.lemmas.Result.{err_from_is_err_and}
use Rattle.lines.specs.Forms.{Reads, repeat}
use Rattle.lines.proofs.ForCallers.{starts, goes_on, ends, fails, repeats, repeat_stops, repeats_all}
use Rattle.lines.specs.Fields.{space, number, Between}
use Rattle.lines.specs.Gives.{Fails}
use Rattle.report_text.specs.Rules.{more_again, least_next}
use Rattle.report_text.proofs.Lists.{least_next_is}
use Rattle.report_text.proofs.read_lists.read_again.Goals as goal

pub returns-in_err-behind : goal.returns-in_err-behind
unfolding more_again
returns-in_err-behind c =
    let p = err_from_is_err_and c.from_residual.result c.from_residual.ensures.1 in
    rw (p.1, p.2) (repeat_stops (repeat (more_again c.args.triangles c.args.side c.args.shift) c.args.count []) c.args.bytes.now (more_again c.args.triangles c.args.side c.args.shift) c.args.count c.loop.counter c.loop.again.items c.loop.rest.now c.in_err-behind.field-0.0 c.loop-test.true c.loop.invariant.so_far
    (fails c.in_err-behind.field-0.0 (starts (more_again c.args.triangles c.args.side c.args.shift c.loop.again.items) c.loop.rest.now) c.in_err-behind.ensures))

pub returns-in_err-triangle : goal.returns-in_err-triangle
unfolding more_again
returns-in_err-triangle c =
    let p = err_from_is_err_and c.from_residual-in_err-triangle.result c.from_residual-in_err-triangle.ensures.1 in
    rw (p.1, p.2) (repeat_stops (repeat (more_again c.args.triangles c.args.side c.args.shift) c.args.count []) c.args.bytes.now (more_again c.args.triangles c.args.side c.args.shift) c.args.count c.loop.counter c.loop.again.items c.loop.rest.now c.in_err-triangle.field-0.0 c.loop-test.true c.loop.invariant.so_far
    (fails c.in_err-triangle.field-0.0 (goes_on (starts (more_again c.args.triangles c.args.side c.args.shift c.loop.again.items) c.loop.rest.now) c.in_ok-behind.ensures) (subst (λ n. Fails (number space (Between n (c.args.triangles - 1))) c.in_ok-behind.behind.now c.in_err-triangle.field-0.0) c.loop.invariant.least c.in_err-triangle.ensures.gives)))

pub returns-in_err-outcome : goal.returns-in_err-outcome
unfolding more_again
returns-in_err-outcome c =
    let p = err_from_is_err_and c.from_residual-in_err-outcome.result c.from_residual-in_err-outcome.ensures.1 in
    rw (p.1, p.2) (repeat_stops (repeat (more_again c.args.triangles c.args.side c.args.shift) c.args.count []) c.args.bytes.now (more_again c.args.triangles c.args.side c.args.shift) c.args.count c.loop.counter c.loop.again.items c.loop.rest.now c.in_err-outcome.field-0.0 c.loop-test.true c.loop.invariant.so_far
    (fails c.in_err-outcome.field-0.0 (goes_on (goes_on (starts (more_again c.args.triangles c.args.side c.args.shift c.loop.again.items) c.loop.rest.now) c.in_ok-behind.ensures) (subst (λ n. Reads (number space (Between n (c.args.triangles - 1))) c.in_ok-behind.behind.now c.in_ok-triangle.triangle c.in_ok-triangle.behind.now) c.loop.invariant.least c.in_ok-triangle.ensures.gives)) c.in_err-outcome.ensures))

pub loop-preserved : goal.loop-preserved
unfolding more_again
loop-preserved c = record {
  so_far = rw c.in_ok-push.ensures.items (repeats (repeat (more_again c.args.triangles c.args.side c.args.shift) c.args.count []) c.args.bytes.now (more_again c.args.triangles c.args.side c.args.shift) c.args.count c.loop.counter c.loop.again.items c.loop.rest.now (c.loop.again.items ++ record { triangle = c.in_ok-triangle.triangle; outcome = c.in_ok-outcome.outcome } ∷ []) c.in_ok-outcome.behind.now c.loop-test.true c.loop.invariant.so_far
      (ends (goes_on (goes_on (goes_on (starts (more_again c.args.triangles c.args.side c.args.shift c.loop.again.items) c.loop.rest.now) c.in_ok-behind.ensures) (subst (λ n. Reads (number space (Between n (c.args.triangles - 1))) c.in_ok-behind.behind.now c.in_ok-triangle.triangle c.in_ok-triangle.behind.now) c.loop.invariant.least c.in_ok-triangle.ensures.gives)) c.in_ok-outcome.ensures)));
  least = sym (least_next_is c.loop.again.items (record { triangle = c.in_ok-triangle.triangle; outcome = c.in_ok-outcome.outcome })) ∙ ap least_next (sym c.in_ok-push.ensures.items);
}

pub returns : goal.returns
returns c = repeats_all (repeat (more_again c.args.triangles c.args.side c.args.shift) c.args.count []) c.args.bytes.now (more_again c.args.triangles c.args.side c.args.shift) c.args.count c.loop.counter c.loop.again.items c.loop.rest.now c.loop-test.false c.loop.invariant.so_far
