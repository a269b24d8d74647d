use Rattle.std.proofs.Common.{◌≡◌, ◌∙◌, ◌*◌, ◌+ℤ◌, ◌*ℤ◌, pos, SFits, to_z, of_z, to_z-of_z, ap, sym, subst, arith, rules}
use mir.Syntax.{w32, w64}
use Rattle.std.specs.Int.{int_div_euclid}
use Rattle.std.proofs.Math.Facts.{to_z_pos}
use Rattle.grid.specs.Boxes.{IsUpTo}
use Rattle.grid.specs.Limits.{largest_side}
use Rattle.mesh_types.proofs.ForCallers.{small-fits}
use Rattle.plain_ops.proofs.Means.{mean-in}
use Rattle.plain_ops.proofs.targets.mean_of.Goals as goal

pub returns-clause-value : goal.returns-clause-value
returns-clause-value c =
    let s : to_z w64 (of_z w64 c.args.sum) ≡ c.args.sum = to_z-of_z c.ranges.sum in
    let n : to_z w64 c.args.count ≡ pos c.args.count = to_z_pos w64 (omega arith) in
    let is : c.round_quotient.result ≡ int_div_euclid (pos 2 *ℤ c.args.sum +ℤ pos c.args.count) (pos (2 * c.args.count)) = c.round_quotient.ensures ∙ (λ i. int_div_euclid (pos 2 *ℤ s i +ℤ n i) (pos 2 *ℤ n i)) in
    let within : IsUpTo largest_side c.round_quotient.result = subst (IsUpTo largest_side) (sym is) (mean-in largest_side c.args.count c.args.sum c.requires.some c.requires.sum_in) in
    let wide : SFits w64 c.round_quotient.result = search rules in
    ap (λ z. to_z w32 (of_z w32 z)) (to_z-of_z wide) ∙ (to_z-of_z (small-fits c.round_quotient.result within) ∙ is)

pub returns-clause-within : goal.returns-clause-within
returns-clause-within c =
    let s : to_z w64 (of_z w64 c.args.sum) ≡ c.args.sum = to_z-of_z c.ranges.sum in
    let n : to_z w64 c.args.count ≡ pos c.args.count = to_z_pos w64 (omega arith) in
    let is : c.round_quotient.result ≡ int_div_euclid (pos 2 *ℤ c.args.sum +ℤ pos c.args.count) (pos (2 * c.args.count)) = c.round_quotient.ensures ∙ (λ i. int_div_euclid (pos 2 *ℤ s i +ℤ n i) (pos 2 *ℤ n i)) in
    let within : IsUpTo largest_side c.round_quotient.result = subst (IsUpTo largest_side) (sym is) (mean-in largest_side c.args.count c.args.sum c.requires.some c.requires.sum_in) in
    let wide : SFits w64 c.round_quotient.result = search rules in
    subst (IsUpTo largest_side) (sym (ap (λ z. to_z w32 (of_z w32 z)) (to_z-of_z wide) ∙ to_z-of_z (small-fits c.round_quotient.result within))) within
