use Rattle.std.proofs.Common.{◌^◌, ◌*ℤ◌, ap₂, ◌∙◌, lit<, w32, w64}
use Rattle.grid.specs.Limits.{largest_side}
use Rattle.tri_distance.proofs.ForCallers.{up_to-IsWithin}
use Rattle.envelope_tree.proofs.Kept.{kept_is, widened_is, same_outside}
use Rattle.envelope_tree.proofs.bounds.Interval.gap.Goals as goal

pub returns-clause-value : goal.returns-clause-value
returns-clause-value c =
    let scale = kept_is w64 (2 ^ 6) c.args.scale c.requires.scale_in (lit< tt) in
    let low = kept_is w32 largest_side c.args.self.low (up_to-IsWithin c.args.self.low c.requires.self_in.low_in) (lit< tt) in
    let high = kept_is w32 largest_side c.args.self.high (up_to-IsWithin c.args.self.high c.requires.self_in.high_in) (lit< tt) in
    kept_is w64 (2 ^ 25) c.outside.result c.outside.ensures.within (lit< tt) ∙ c.outside.ensures.value
    ∙ same_outside
    (widened_is (2 ^ 24) c.args.p (up_to-IsWithin c.args.p c.requires.p_in) (lit< tt) (lit< tt))
    (kept_is w64 (2 ^ 24) c.at_scale.result c.at_scale.ensures.within (lit< tt) ∙ c.at_scale.ensures.value ∙ ap₂ ◌*ℤ◌ scale low)
    (kept_is w64 (2 ^ 24) c.at_scale-2.result c.at_scale-2.ensures.within (lit< tt) ∙ c.at_scale-2.ensures.value ∙ ap₂ ◌*ℤ◌ scale high)
