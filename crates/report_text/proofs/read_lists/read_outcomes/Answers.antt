use Rattle.std.proofs.Common.{[], ◌∷◌, ◌++◌, length, sym, ap, subst, arith}
use Rattle.std.proofs.lemmas.List.{length-append}
use Rattle.std.proofs.lemmas.Result.{err_from_is_err_and}
use Rattle.lines.specs.Forms.{Reads, repeat}
use Rattle.lines.proofs.ForCallers.{starts, goes_on, ends, fails, repeats, repeat_stops, repeats_all}
use Rattle.lines.specs.Fields.{space, number, Between}
use Rattle.lines.specs.Gives.{Fails}
use Rattle.report_text.specs.Rules.{more_outcomes}
use Rattle.report_text.proofs.read_lists.read_outcomes.Goals as goal

pub returns-in_err-behind : goal.returns-in_err-behind
unfolding more_outcomes
returns-in_err-behind c =
    let p = err_from_is_err_and c.from_residual.result c.from_residual.ensures.1 in
    rw (p.1, p.2) (repeat_stops (repeat (more_outcomes c.args.side c.args.shift) c.args.count []) c.args.bytes.now (more_outcomes c.args.side c.args.shift) c.args.count c.loop-i.i c.loop-i.outcomes.items c.loop-i.rest.now c.in_err-behind.field-0.0 c.loop-i-test.true c.loop-i.invariant.so_far
    (fails c.in_err-behind.field-0.0 (starts (more_outcomes c.args.side c.args.shift c.loop-i.outcomes.items) c.loop-i.rest.now) c.in_err-behind.ensures))

pub returns-in_err-behind-2 : goal.returns-in_err-behind-2
unfolding more_outcomes
returns-in_err-behind-2 c =
    let p = err_from_is_err_and c.from_residual-in_err-behind-2.result c.from_residual-in_err-behind-2.ensures.1 in
    rw (p.1, p.2) (repeat_stops (repeat (more_outcomes c.args.side c.args.shift) c.args.count []) c.args.bytes.now (more_outcomes c.args.side c.args.shift) c.args.count c.loop-i.i c.loop-i.outcomes.items c.loop-i.rest.now c.in_err-behind-2.field-0.0 c.loop-i-test.true c.loop-i.invariant.so_far
    (fails c.in_err-behind-2.field-0.0 (goes_on (starts (more_outcomes c.args.side c.args.shift c.loop-i.outcomes.items) c.loop-i.rest.now) c.in_ok-behind.ensures) (subst (λ n. Fails (number space (Between n n)) c.in_ok-behind.behind.now c.in_err-behind-2.field-0.0) (sym c.loop-i.invariant.length) c.in_err-behind-2.ensures.gives)))

pub returns-in_err-outcome : goal.returns-in_err-outcome
unfolding more_outcomes
returns-in_err-outcome c =
    let p = err_from_is_err_and c.from_residual-in_err-outcome.result c.from_residual-in_err-outcome.ensures.1 in
    rw (p.1, p.2) (repeat_stops (repeat (more_outcomes c.args.side c.args.shift) c.args.count []) c.args.bytes.now (more_outcomes c.args.side c.args.shift) c.args.count c.loop-i.i c.loop-i.outcomes.items c.loop-i.rest.now c.in_err-outcome.field-0.0 c.loop-i-test.true c.loop-i.invariant.so_far
    (fails c.in_err-outcome.field-0.0 (goes_on (goes_on (starts (more_outcomes c.args.side c.args.shift c.loop-i.outcomes.items) c.loop-i.rest.now) c.in_ok-behind.ensures) (subst (λ n. Reads (number space (Between n n)) c.in_ok-behind.behind.now c.in_ok-behind-2.field-0-0 c.in_ok-behind-2.behind.now) (sym c.loop-i.invariant.length) c.in_ok-behind-2.ensures.gives)) c.in_err-outcome.ensures))

pub loop-i-preserved : goal.loop-i-preserved
unfolding more_outcomes
loop-i-preserved c = record {
  so_far = rw c.in_ok-push.ensures.items (repeats (repeat (more_outcomes c.args.side c.args.shift) c.args.count []) c.args.bytes.now (more_outcomes c.args.side c.args.shift) c.args.count c.loop-i.i c.loop-i.outcomes.items c.loop-i.rest.now (c.loop-i.outcomes.items ++ c.in_ok-outcome.outcome ∷ []) c.in_ok-outcome.behind.now c.loop-i-test.true c.loop-i.invariant.so_far
      (ends (goes_on (goes_on (goes_on (starts (more_outcomes c.args.side c.args.shift c.loop-i.outcomes.items) c.loop-i.rest.now) c.in_ok-behind.ensures) (subst (λ n. Reads (number space (Between n n)) c.in_ok-behind.behind.now c.in_ok-behind-2.field-0-0 c.in_ok-behind-2.behind.now) (sym c.loop-i.invariant.length) c.in_ok-behind-2.ensures.gives)) c.in_ok-outcome.ensures)));
  length = omega (arith, ap length c.in_ok-push.ensures.items, length-append c.loop-i.outcomes.items (c.in_ok-outcome.outcome ∷ []), c.loop-i.invariant.length);
}

pub returns : goal.returns
returns c = repeats_all (repeat (more_outcomes c.args.side c.args.shift) c.args.count []) c.args.bytes.now (more_outcomes c.args.side c.args.shift) c.args.count c.loop-i.i c.loop-i.outcomes.items c.loop-i.rest.now c.loop-i-test.false c.loop-i.invariant.so_far
