use Rattle.std.proofs.Common.{rules, ◌≡◌, ◌<◌, length, get_or, sym, ◌∙◌, true≢false, arith}
use Rattle.std.proofs.lemmas.Bool.Decides.{Decides-eqb}
use Rattle.cert_check.proofs.RolledBack.{AreFrom-other, AreFrom-next, AreFrom-ended, AreFrom-wrong, AreFrom-end, nobody}
use Rattle.cert_check.proofs.triangle_lines.are_rolled_back.Goals as goal

pub loop-i-init : goal.loop-i-init
loop-i-init c = record { met = omega arith; so_far = (λ h. h, λ h. h) }

pub loop-i-preserved-then-not-is_rolled_back : goal.loop-i-preserved-then-not-is_rolled_back
loop-i-preserved-then-not-is_rolled_back c =
    let step = AreFrom-other c.args.again.now c.args.outcomes.now c.loop-i.met c.loop-i.i c.loop-i-test.true (sym c.is_rolled_back.ensures ∙ c.if-not-is_rolled_back.true) in
    record { met = c.loop-i.invariant.met; so_far = (λ h. step.0 (c.loop-i.invariant.so_far.0 h), λ h. c.loop-i.invariant.so_far.1 (step.1 h)) }

pub returns-then-met-again : goal.returns-then-met-again
returns-then-met-again c = (
  λ t. absurd (true≢false (sym t)),
  λ h. absurd (AreFrom-ended c.args.again.now c.args.outcomes.now c.loop-i.met c.loop-i.i c.loop-i-test.true (sym c.is_rolled_back.ensures ∙ c.if-not-is_rolled_back.false) (omega (arith, c.if-met-again.true)) (c.loop-i.invariant.so_far.0 h)),
)

pub returns-then-again-met : goal.returns-then-again-met
returns-then-again-met c =
    let below : c.loop-i.met < length c.args.again.now = omega (arith, c.loop-i.invariant.met, c.if-met-again.false) in (
      λ t. absurd (true≢false (sym t)),
      λ h.
          let same = AreFrom-wrong c.args.again.now c.args.outcomes.now c.loop-i.met c.loop-i.i c.loop-i-test.true (sym c.is_rolled_back.ensures ∙ c.if-not-is_rolled_back.false) below (c.loop-i.invariant.so_far.0 h) in
          absurd (c.if-again-met.true same),
    )

pub loop-i-preserved : goal.loop-i-preserved
loop-i-preserved c =
    let below : c.loop-i.met < length c.args.again.now = omega (arith, c.loop-i.invariant.met, c.if-met-again.false) in
    let same : (get_or c.args.again.now c.loop-i.met nobody).triangle ≡ c.loop-i.i = search rules in
    let step = AreFrom-next c.args.again.now c.args.outcomes.now c.loop-i.met c.loop-i.i c.loop-i-test.true (sym c.is_rolled_back.ensures ∙ c.if-not-is_rolled_back.false) below same in
    record { met = omega (arith, below); so_far = (λ h. step.0 (c.loop-i.invariant.so_far.0 h), λ h. c.loop-i.invariant.so_far.1 (step.1 h)) }

pub returns : goal.returns
returns c =
    let ends = AreFrom-end c.args.again.now c.args.outcomes.now c.loop-i.met c.loop-i.i c.loop-i-test.false in
    let decides = Decides-eqb c.loop-i.met (length c.args.again.now) in (
      λ t. c.loop-i.invariant.so_far.1 (ends.1 (omega (arith, decides.0 t))),
      λ h. decides.1 (omega (arith, c.loop-i.invariant.met, ends.0 (c.loop-i.invariant.so_far.0 h))),
    )
