use Rattle.std.proofs.Common.{◌≡◌, ◌^◌, ℤ, ◌*ℤ◌, ◌+ℤ◌, ap, subst, sym, ◌∙◌, lit<, to_z, of_z, w32, w64}
use mir.Syntax.{w128}
use Rattle.int_algebra.specs.Within.{IsWithin}
use Rattle.tri_distance.proofs.ForCallers.{up_to-IsWithin}
use Rattle.grid.specs.Boxes.{IsUpTo}
use Rattle.envelope_tree.specs.declared.bounds.Interval.{Interval}
use Rattle.envelope_tree.specs.Gaps.{gap_of}
use Rattle.envelope_tree.proofs.Kept.{kept_is, same_outside}
use Rattle.envelope_tree.proofs.bounds.Bounds.sq_gap.Goals as goal

gap_is : (p s d : ℤ) (i : Interval) → IsUpTo (2 ^ 24) p → IsWithin (2 ^ 6) s → IsWithin (2 ^ 25) d → d ≡ gap_of (to_z w32 (of_z w32 p)) (to_z w64 (of_z w64 s)) i → to_z w64 (of_z w64 d) ≡ gap_of p s i
gap_is p s d i h k within e =
    let scale = kept_is w64 (2 ^ 6) s k (lit< tt) in
    kept_is w64 (2 ^ 25) d within (lit< tt) ∙ e
    ∙ same_outside (kept_is w32 (2 ^ 24) p (up_to-IsWithin p h) (lit< tt)) (ap (λ z. z *ℤ i.low) scale) (ap (λ z. z *ℤ i.high) scale)

pub returns-clause-value : goal.returns-clause-value
returns-clause-value c =
    let x = gap_is c.args.p.x c.args.scale c.gap.result c.args.self.x c.requires.p_in.x_in c.requires.scale_in c.gap.ensures.within c.gap.ensures.value in
    let y = gap_is c.args.p.y c.args.scale c.gap-2.result c.args.self.y c.requires.p_in.y_in c.requires.scale_in c.gap-2.ensures.within c.gap-2.ensures.value in
    let z = gap_is c.args.p.z c.args.scale c.gap-3.result c.args.self.z c.requires.p_in.z_in c.requires.scale_in c.gap-3.ensures.within c.gap-3.ensures.value in
    kept_is w128 (2 ^ 52) c.sum_of_squares.result c.sum_of_squares.ensures.within (lit< tt) ∙ c.sum_of_squares.ensures.value
    ∙ (λ i. x i *ℤ x i +ℤ y i *ℤ y i +ℤ z i *ℤ z i)

pub returns-clause-within : goal.returns-clause-within
returns-clause-within c =
    subst (IsWithin (2 ^ 52)) (sym (kept_is w128 (2 ^ 52) c.sum_of_squares.result c.sum_of_squares.ensures.within (lit< tt))) c.sum_of_squares.ensures.within
