use Rattle.soup.proofs.Powers.{power_from_is, next_power}
use Rattle.std.proofs.Common.{◌∙◌, sym, subst, max, ◌≤◌, ◌<◌, ◌/◌, ℕ}
use Rattle.soup.proofs.sides.side_for.Goals as goal

pub returns : goal.returns
returns c =
    let next = c.next_power_of_two.ensures in
    let low : max c.args.room 16 ≤ c.next_power_of_two.result = subst (λ (m : ℕ). m ≤ c.next_power_of_two.result) c.max.ensures next.lower_bound in
    let high : c.next_power_of_two.result / 2 < max 1 (max c.args.room 16) = subst (λ (m : ℕ). c.next_power_of_two.result / 2 < max 1 m) c.max.ensures next.upper_bound in
    next.power.1 ∙ sym (power_from_is 14 4 c.args.room _ (next_power c.args.room _ _ next.power.1 low high c.requires))
