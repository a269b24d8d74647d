use Rattle.std.proofs.Common.{◌≡◌, ℕ, ◌+◌, ◌-◌, length, drop, sym, ap, ◌∙◌, arith, length-append}
use Rattle.std.proofs.lemmas.Result.{err_from_is_err_and}
use Rattle.off_text.specs.Scans.{rest_at}
use Rattle.off_text.specs.Grammar.{index, beyond_line}
use Rattle.off_text.proofs.Loops.{fan_goes_on, fan_fails, fan_done, left_goes_on}
use Rattle.off_text.proofs.body.read_fan.Goals as goal

pub returns-in_err-corner-clause-err : goal.returns-in_err-corner-clause-err
returns-in_err-corner-clause-err c =
    let p = err_from_is_err_and c.from_residual.result c.from_residual.ensures.1 in
    rw (p.1, p.2) (fan_fails c.in_err-corner.field-0.0 c.loop.triangles.items c.args.triangles.now.items c.args.first c.loop.last c.args.second (index c.args.vertices) (length c.args.bytes.now) c.args.more c.loop.counter _ _ c.loop-test.true c.in_err-corner.ensures.gives c.loop.invariant.total)

pub loop-preserved : goal.loop-preserved
loop-preserved c = record {
  high = c.in_ok-corner.ensures.high;
  total = rw c.in_ok-push.ensures.items (fan_goes_on c.loop.triangles.items c.args.first c.loop.last (index c.args.vertices) (length c.args.bytes.now) c.args.more c.loop.counter _ _ _ _ c.loop-test.true c.in_ok-corner.ensures.gives c.loop.invariant.total);
  left = left_goes_on (index c.args.vertices) (length c.args.bytes.now) c.loop.counter _ _ _ _ c.loop.invariant.left c.in_ok-corner.ensures.gives;
  beyond = λ h.
      let same : c.loop.counter + 1 - 1 ≡ c.loop.counter = omega arith in
      sym c.in_ok-corner.ensures.beyond ∙ ap beyond_line c.loop.invariant.left ∙ ap (λ (n : ℕ). beyond_line (drop n (rest_at c.args.bytes.now c.args.from))) (sym same);
  len = rw c.in_ok-push.ensures.items (omega (arith, length-append c.loop.triangles.items, c.loop.invariant.len));
}

pub returns-clause-ok : goal.returns-clause-ok
returns-clause-ok c = fan_done c.loop.triangles.items c.args.first c.loop.last (index c.args.vertices) (length c.args.bytes.now) c.args.more c.loop.counter _ _ c.loop-test.false c.loop.invariant.total
