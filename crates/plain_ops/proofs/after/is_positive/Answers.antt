use Rattle.std.proofs.Common.{◌∙◌, ◌↔◌, ◌<ℤ◌, ℤ, pos, sym, subst, arith, rules, SFits, IsTrue, to_z-of_z}
use mir.Syntax.{w128}
use Rattle.std.specs.Int.Signed.{lt_z}
use Rattle.std.proofs.lemmas.Int.{ints}
use Rattle.grid.specs.Determinants.{det_at}
use Rattle.plain_ops.proofs.after.is_positive.Goals as goal

above : (z : ℤ) → IsTrue (lt_z (pos 0) z) ↔ (pos 0 <ℤ z)
above z = (λ h. grind (arith, ints), λ h. grind (arith, ints))

pub returns : goal.returns
returns c =
    let fits : SFits w128 c.det_of.result = search rules in
    let at = det_at c.args.points.now c.args.tet.0 in
    subst (λ (z : ℤ). IsTrue (lt_z (pos 0) z) ↔ (pos 0 <ℤ at)) (sym (to_z-of_z fits ∙ c.det_of.ensures)) (above at)
