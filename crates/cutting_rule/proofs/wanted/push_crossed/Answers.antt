use Rattle.std.proofs.Common.{◌≡◌, ◌++◌, pos, ap, refl, ◌∙◌, arith, length, get_or, rules, w8, SFits, to_z-of_z}
use Rattle.std.proofs.lemmas.List.{length-map}
use Rattle.grid.specs.Determinants.{origin, point_at}
use Rattle.mesh_types.specs.Phases.{points_of}
use Rattle.cutting_rule.specs.Edges.{numbers_of}
use Rattle.cutting_rule.proofs.EdgePairs.{crossed-pair, sign-at, wanted-pairs}
use Rattle.cutting_rule.proofs.Steps.{six-added}
use Rattle.cutting_rule.proofs.wanted.push_crossed.Goals as goal

pub returns : goal.returns
returns c points t e crossed =
    let four : length c.args.tet.0 ≡ 4 = search rules in
    let ps = points_of points c.args.tet.0 in
    let long : length ps ≡ 4 = length-map c.args.tet.0 (point_at points) ∙ four in
    let fits_0 : SFits w8 (get_or c.args.signs 0 (pos 0)) = search rules in
    let fits_1 : SFits w8 (get_or c.args.signs 1 (pos 0)) = search rules in
    let fits_2 : SFits w8 (get_or c.args.signs 2 (pos 0)) = search rules in
    let fits_3 : SFits w8 (get_or c.args.signs 3 (pos 0)) = search rules in
    let s_0 = to_z-of_z fits_0 ∙ sign-at t ps c.args.signs 0 origin e (omega (arith, long)) in
    let s_1 = to_z-of_z fits_1 ∙ sign-at t ps c.args.signs 1 origin e (omega (arith, long)) in
    let s_2 = to_z-of_z fits_2 ∙ sign-at t ps c.args.signs 2 origin e (omega (arith, long)) in
    let s_3 = to_z-of_z fits_3 ∙ sign-at t ps c.args.signs 3 origin e (omega (arith, long)) in
    six-added (numbers_of c.args.into.now.items) _ _ _ _ _ _ _ _ _ _ _ _ c.in_ok-push_if.ensures c.in_ok-push_if-2.ensures c.in_ok-push_if-3.ensures c.in_ok-push_if-4.ensures c.in_ok-push_if-5.ensures c.in_ok-push_if-6.ensures
    ∙ ap (λ es. numbers_of c.args.into.now.items ++ es)
    (wanted-pairs points t 0 c.args.tet.0 ps origin _ _ _ _ _ _ four refl
    (c.are_opposite.ensures ∙ crossed-pair t ps _ _ _ _ crossed s_0 s_1)
    (c.are_opposite-2.ensures ∙ crossed-pair t ps _ _ _ _ crossed s_0 s_2)
    (c.are_opposite-3.ensures ∙ crossed-pair t ps _ _ _ _ crossed s_0 s_3)
    (c.are_opposite-4.ensures ∙ crossed-pair t ps _ _ _ _ crossed s_1 s_2)
    (c.are_opposite-5.ensures ∙ crossed-pair t ps _ _ _ _ crossed s_1 s_3)
    (c.are_opposite-6.ensures ∙ crossed-pair t ps _ _ _ _ crossed s_2 s_3))
