use Rattle.std.proofs.Common.{◌≡◌, ◌∙◌, ℤ, List, pos, nat_abs, ◌≤ℤ◌, ap, arith, rules, SFits, to_z-of_z}
use mir.Syntax.{w32}
use Rattle.std.proofs.lemmas.Int.{ints}
use Rattle.grid.specs.declared.shapes.Point.{Point}
use Rattle.grid.specs.Determinants.{point_at}
use Rattle.grid.specs.SideBits.{side_bits}
use Rattle.local_ops.proofs.sides.sides_of.Goals as goal

far_end : (side : ℤ) → pos 0 ≤ℤ side → side ≡ pos (nat_abs side)
far_end side h = omega (arith, ints)

pub returns-clause-value : goal.returns-clause-value
returns-clause-value c =
    let v = c.args.store.now in
    let far : c.side.result ≡ pos (nat_abs v.side) = c.side.ensures ∙ far_end v.side c.slots.ensures.sound.box.low in
    let at : c.point.result ≡ point_at v.parts.points c.args.u = c.point.ensures ∙ ap (λ (ps : List Point). point_at ps c.args.u) c.slots.ensures.points in
    let fits : SFits w32 c.side.result = search rules in
    c.sides.ensures.value ∙ (λ i. side_bits ((to_z-of_z fits ∙ far) i) (at i))
