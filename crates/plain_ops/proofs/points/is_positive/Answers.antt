use Rattle.std.proofs.Common.{◌≡◌, ◌∙◌, ◌<ℤ◌, pos, sym, subst, arith, rules, SFits, IsTrue, ℤ}
use mir.Syntax.{w128}
use Rattle.std.proofs.Common.{to_z-of_z}
use Rattle.std.specs.Int.Signed.{lt_z}
use Rattle.std.proofs.lemmas.Int.{ints}
use Rattle.grid.specs.Determinants.{det, det_at}
use Rattle.plain_ops.proofs.points.is_positive.Goals as goal
use Rattle.mesh_types.proofs.ForCallers.{det-four, corner-in}

pub det-requires-clause-a_in : goal.det-requires-clause-a_in
det-requires-clause-a_in c = corner-in _ c.args.points.now c.args.tet.0 0 c.point_at.result c.requires.in_box c.requires.there.in_range (omega (arith, c.requires.there.four)) c.point_at.ensures

pub det-requires-clause-b_in : goal.det-requires-clause-b_in
det-requires-clause-b_in c = corner-in _ c.args.points.now c.args.tet.0 1 c.point_at-2.result c.requires.in_box c.requires.there.in_range (omega (arith, c.requires.there.four)) c.point_at-2.ensures

pub det-requires-clause-c_in : goal.det-requires-clause-c_in
det-requires-clause-c_in c = corner-in _ c.args.points.now c.args.tet.0 2 c.point_at-3.result c.requires.in_box c.requires.there.in_range (omega (arith, c.requires.there.four)) c.point_at-3.ensures

pub det-requires-clause-d_in : goal.det-requires-clause-d_in
det-requires-clause-d_in c = corner-in _ c.args.points.now c.args.tet.0 3 c.point_at-4.result c.requires.in_box c.requires.there.in_range (omega (arith, c.requires.there.four)) c.point_at-4.ensures

above : (z : ℤ) → (IsTrue (lt_z (pos 0) z) → pos 0 <ℤ z) × (pos 0 <ℤ z → IsTrue (lt_z (pos 0) z))
above z = (λ h. grind (arith, ints), λ h. grind (arith, ints))

pub returns : goal.returns
returns c =
    let fits : SFits w128 c.det.result = search rules in
    let is : det_at c.args.points.now c.args.tet.0 ≡ c.det.result =
    det-four c.args.points.now c.args.tet.0 c.requires.there.four
    ∙ sym (c.det.ensures ∙ (λ j. det (c.point_at.ensures j) (c.point_at-2.ensures j) (c.point_at-3.ensures j) (c.point_at-4.ensures j))) in
    let at = above (det_at c.args.points.now c.args.tet.0) in
    subst (λ z. (IsTrue (lt_z (pos 0) z) → pos 0 <ℤ det_at c.args.points.now c.args.tet.0) × (pos 0 <ℤ det_at c.args.points.now c.args.tet.0 → IsTrue (lt_z (pos 0) z))) (is ∙ sym (to_z-of_z fits)) at
