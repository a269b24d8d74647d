use Rattle.std.proofs.Common.{rules, ◌≡◌, ◌∙◌, w32, SFits, to_z-of_z, length, sym, ap}
use Rattle.grid.specs.declared.shapes.Point.{Point}
use Rattle.cutting_rule.proofs.Ends.{bounds, length-mapped}
use Rattle.cutting_rule.proofs.bounds.bounds_of.Goals as goal

pub returns-clause-bounds : goal.returns-clause-bounds
returns-clause-bounds c =
    let lx : SFits w32 c.ends_of-x.result.lo = search rules in
    let ly : SFits w32 c.ends_of-y.result.lo = search rules in
    let lz : SFits w32 c.ends_of-z.result.lo = search rules in
    let hx : SFits w32 c.ends_of-x.result.hi = search rules in
    let hy : SFits w32 c.ends_of-y.result.hi = search rules in
    let hz : SFits w32 c.ends_of-z.result.hi = search rules in
    bounds c.ends_of-x.result.lo c.ends_of-y.result.lo c.ends_of-z.result.lo c.ends_of-x.result.hi c.ends_of-y.result.hi c.ends_of-z.result.hi _ _ c.args.tri.now.0 _ _ _
    (c.point.ensures ∙ (λ i. record { x = to_z-of_z lx i; y = to_z-of_z ly i; z = to_z-of_z lz i }))
    (c.point-2.ensures ∙ (λ i. record { x = to_z-of_z hx i; y = to_z-of_z hy i; z = to_z-of_z hz i }))
    c.xs.ensures c.ys.ensures c.zs.ensures c.ends_of-x.ensures c.ends_of-y.ensures c.ends_of-z.ensures

pub returns-clause-three : goal.returns-clause-three
returns-clause-three c =
    let long : length c.xs.result ≡ 3 = search rules in
    sym (length-mapped (λ (p : Point). p.x) c.args.tri.now.0) ∙ (sym (ap length c.xs.ensures) ∙ long)
