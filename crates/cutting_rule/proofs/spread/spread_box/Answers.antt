use Rattle.std.proofs.Common.{rules, ◌≡◌, ℤ, ap, ◌∙◌, arith, w32, SFits, to_z, of_z, to_z-of_z}
use Rattle.int_algebra.proofs.Bounds.{fits_within, within_natural}
use Rattle.grid.specs.declared.shapes.Point.{Point}
use Rattle.grid.specs.Boxes.{IsUpTo}
use Rattle.grid.specs.Limits.{largest_side}
use Rattle.cutting_rule.proofs.Spreads.{spread-at}
use Rattle.cutting_rule.proofs.spread.spread_box.Goals as goal

kept-is : (z : ℤ) → IsUpTo largest_side z → to_z w32 (of_z w32 z) ≡ z
kept-is z h = to_z-of_z (fits_within w32 (within_natural largest_side z h.low h.high) (omega arith))

pub returns : goal.returns
returns c =
    let lx : SFits w32 c.spread-x.result.lo = search rules in
    let ly : SFits w32 c.spread-y.result.lo = search rules in
    let lz : SFits w32 c.spread-z.result.lo = search rules in
    let hx : SFits w32 c.spread-x.result.hi = search rules in
    let hy : SFits w32 c.spread-y.result.hi = search rules in
    let hz : SFits w32 c.spread-z.result.hi = search rules in
    let l = c.point.ensures in
    let h = c.point-2.ensures in
    let lo = c.requires.lo_in in
    let hi = c.requires.hi_in in
    record {
      x_spread = spread-at _ _ c.args.wide c.args.area _ _ _ _ _ _ (kept-is _ lo.x_in) (kept-is _ hi.x_in) (ap (λ (p : Point). p.x) l ∙ to_z-of_z lx) (ap (λ (p : Point). p.x) h ∙ to_z-of_z hx) c.spread-x.ensures;
      y_spread = spread-at _ _ c.args.wide c.args.area _ _ _ _ _ _ (kept-is _ lo.y_in) (kept-is _ hi.y_in) (ap (λ (p : Point). p.y) l ∙ to_z-of_z ly) (ap (λ (p : Point). p.y) h ∙ to_z-of_z hy) c.spread-y.ensures;
      z_spread = spread-at _ _ c.args.wide c.args.area _ _ _ _ _ _ (kept-is _ lo.z_in) (kept-is _ hi.z_in) (ap (λ (p : Point). p.z) l ∙ to_z-of_z lz) (ap (λ (p : Point). p.z) h ∙ to_z-of_z hz) c.spread-z.ensures;
    }
