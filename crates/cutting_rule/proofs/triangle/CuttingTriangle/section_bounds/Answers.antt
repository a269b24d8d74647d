use Rattle.std.proofs.Common.{◌*◌, pos, ◌≤ℤ◌, subst}
use Rattle.grid.specs.declared.shapes.Tri.{Tri}
use Rattle.grid.specs.Planes.{Plane}
use Rattle.grid.specs.Vectors.{dot}
use Rattle.grid.specs.Limits.{largest_side}
use Rattle.cutting_rule.specs.Touching.{IsReach}
use Rattle.cutting_rule.proofs.SectionBox.{section-IsWithin}
use Rattle.cutting_rule.proofs.Reaches.{reach-is}
use Rattle.cutting_rule.proofs.Spreads.{lo-IsInBox, hi-IsInBox, longest-of}
use Rattle.cutting_rule.proofs.triangle.CuttingTriangle.section_bounds.Goals as goal

pub spread_box-requires-clause-lo_in : goal.spread_box-requires-clause-lo_in
spread_box-requires-clause-lo_in c =
    let t = c.self.inside.tri in
    lo-IsInBox t largest_side c.self.inside.bounds.lo c.self.inside.bounds.hi c.self.invariant.three c.self.invariant.in_box c.self.invariant.bounds

pub spread_box-requires-clause-hi_in : goal.spread_box-requires-clause-hi_in
spread_box-requires-clause-hi_in c =
    let t = c.self.inside.tri in
    hi-IsInBox t largest_side c.self.inside.bounds.lo c.self.inside.bounds.hi c.self.invariant.three c.self.invariant.in_box c.self.invariant.bounds

pub returns : goal.returns
returns c =
    let t = c.self.inside.tri in
    let l = c.spread_box.result.lo in
    let h = c.spread_box.result.hi in
    let u = c.length_above-first.result in
    let v = c.length_above-second.result in
    let w = c.length_above-third.result in
    let u_in = subst (λ (m : Plane). dot m.normal m.normal ≤ℤ pos (u * u)) c.self.invariant.first_is c.length_above-first.ensures.above in
    let v_in = subst (λ (m : Plane). dot m.normal m.normal ≤ℤ pos (v * v)) c.self.invariant.second_is c.length_above-second.ensures.above in
    let w_in = subst (λ (m : Plane). dot m.normal m.normal ≤ℤ pos (w * w)) c.self.invariant.third_is c.length_above-third.ensures.above in
    let area_in = longest-of t c.self.inside.plane c.longest.result c.self.invariant.plane_is c.longest.ensures.high in
    let inside = section-IsWithin t c.self.inside.bounds.lo c.self.inside.bounds.hi l h u v w c.longest.result c.self.invariant.three c.self.invariant.some_area c.self.invariant.bounds u_in v_in w_in area_in c.spread_box.ensures in
    let lo_in = lo-IsInBox t largest_side c.self.inside.bounds.lo c.self.inside.bounds.hi c.self.invariant.three c.self.invariant.in_box c.self.invariant.bounds in
    let hi_in = hi-IsInBox t largest_side c.self.inside.bounds.lo c.self.inside.bounds.hi c.self.invariant.three c.self.invariant.in_box c.self.invariant.bounds in
    subst (λ (t : Tri). IsReach t l h) c.self.view_is
    (reach-is t c.self.inside.bounds.lo c.self.inside.bounds.hi l h _ _ c.self.invariant.bounds lo_in hi_in c.spread_box.ensures inside)
