use Rattle.std.proofs.Common.{rules, ◌≡◌, ◌^◌, pos, SFits, subst, sym, to_z, of_z, to_z-of_z, ◌∙◌, w64, arith}
use Rattle.int_algebra.proofs.Laws.{linear}
use Rattle.int_algebra.proofs.Orders.{natural-NonNegative}
use Rattle.grid.specs.Boxes.{IsUpTo}
use Rattle.tri_distance.proofs.Limits.{wider-IsInBox, box_at_most, power_at_most}
use Rattle.tri_distance.proofs.gaps.gap.Goals as goal

pub scaled_difference-requires-clause-p_in : goal.scaled_difference-requires-clause-p_in
scaled_difference-requires-clause-p_in c = wider-IsInBox (2 ^ 24) c.args.p c.requires.p_in (box_at_most c.args.k c.requires.k_in)

pub scaled_difference-requires-clause-t_in : goal.scaled_difference-requires-clause-t_in
scaled_difference-requires-clause-t_in c =
    let f : SFits w64 c.scale_of.result = search rules in
    let is : to_z w64 (of_z w64 c.scale_of.result) ≡ pos (2 ^ c.args.k) = to_z-of_z f ∙ c.scale_of.ensures in
    let le = power_at_most c.args.k c.requires.k_in in
    subst (IsUpTo (2 ^ 6)) (sym is) (record { low = natural-NonNegative (2 ^ c.args.k); high = omega (arith, linear, le) })
