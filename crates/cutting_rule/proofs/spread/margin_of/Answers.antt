use Rattle.std.proofs.Common.{◌≡◌, ◌-ℤ◌, ap, ◌∙◌, arith, w32, SFits, to_z, of_z, to_z-of_z}
use Rattle.grid.specs.Limits.{largest_side}
use Rattle.int_algebra.proofs.Laws.{linear}
use Rattle.int_algebra.proofs.Bounds.{fits_within, within_natural}
use Rattle.cutting_rule.proofs.Spreads.{margin-enough}
use Rattle.cutting_rule.proofs.spread.margin_of.Goals as goal

pub returns-clause-enough : goal.returns-clause-enough
returns-clause-enough c =
    let lo = c.args.lo in
    let hi = c.args.hi in
    let low = c.requires.lo_in.low in
    let high = c.requires.hi_in.high in
    let less = c.requires.ordered in
    let fits : SFits w32 (hi -ℤ lo) = fits_within w32 (within_natural largest_side (hi -ℤ lo) (omega (arith, linear, less)) (omega (arith, linear, low, high))) (omega arith) in
    let inner : to_z w32 (of_z w32 hi) -ℤ to_z w32 (of_z w32 lo) ≡ hi -ℤ lo = λ i. to_z-of_z c.ranges.hi i -ℤ to_z-of_z c.ranges.lo i in
    margin-enough lo hi _ c.args.wide c.args.area (ap (λ z. to_z w32 (of_z w32 z)) inner ∙ to_z-of_z fits) less c.requires.area_in
