use Rattle.std.proofs.Common.{◌≡◌, ◌++◌, pos, ap, ◌∙◌, arith, length, get_or, rules, w8, SFits, to_z-of_z}
use Rattle.grid.specs.Determinants.{origin}
use Rattle.cutting_rule.specs.Edges.{numbers_of}
use Rattle.cutting_rule.proofs.EdgePairs.{along-pair, sign-at, wanted-pairs}
use Rattle.cutting_rule.proofs.Steps.{six-added}
use Rattle.cutting_rule.proofs.wanted.push_along.Goals as goal

pub wants_along-ac-requires-clause-p_in : goal.wants_along-ac-requires-clause-p_in
wants_along-ac-requires-clause-p_in c =
    let long : length c.args.corners.now ≡ 4 = search rules in
    c.requires.corners_in 0 origin (omega (arith, long))

pub wants_along-ac-requires-clause-q_in : goal.wants_along-ac-requires-clause-q_in
wants_along-ac-requires-clause-q_in c =
    let long : length c.args.corners.now ≡ 4 = search rules in
    c.requires.corners_in 2 origin (omega (arith, long))

pub wants_along-ad-requires-clause-p_in : goal.wants_along-ad-requires-clause-p_in
wants_along-ad-requires-clause-p_in c =
    let long : length c.args.corners.now ≡ 4 = search rules in
    c.requires.corners_in 0 origin (omega (arith, long))

pub wants_along-ad-requires-clause-q_in : goal.wants_along-ad-requires-clause-q_in
wants_along-ad-requires-clause-q_in c =
    let long : length c.args.corners.now ≡ 4 = search rules in
    c.requires.corners_in 3 origin (omega (arith, long))

pub wants_along-bc-requires-clause-p_in : goal.wants_along-bc-requires-clause-p_in
wants_along-bc-requires-clause-p_in c =
    let long : length c.args.corners.now ≡ 4 = search rules in
    c.requires.corners_in 1 origin (omega (arith, long))

pub wants_along-bc-requires-clause-q_in : goal.wants_along-bc-requires-clause-q_in
wants_along-bc-requires-clause-q_in c =
    let long : length c.args.corners.now ≡ 4 = search rules in
    c.requires.corners_in 2 origin (omega (arith, long))

pub wants_along-bd-requires-clause-p_in : goal.wants_along-bd-requires-clause-p_in
wants_along-bd-requires-clause-p_in c =
    let long : length c.args.corners.now ≡ 4 = search rules in
    c.requires.corners_in 1 origin (omega (arith, long))

pub wants_along-bd-requires-clause-q_in : goal.wants_along-bd-requires-clause-q_in
wants_along-bd-requires-clause-q_in c =
    let long : length c.args.corners.now ≡ 4 = search rules in
    c.requires.corners_in 3 origin (omega (arith, long))

pub wants_along-cd-requires-clause-p_in : goal.wants_along-cd-requires-clause-p_in
wants_along-cd-requires-clause-p_in c =
    let long : length c.args.corners.now ≡ 4 = search rules in
    c.requires.corners_in 2 origin (omega (arith, long))

pub wants_along-cd-requires-clause-q_in : goal.wants_along-cd-requires-clause-q_in
wants_along-cd-requires-clause-q_in c =
    let long : length c.args.corners.now ≡ 4 = search rules in
    c.requires.corners_in 3 origin (omega (arith, long))

pub returns : goal.returns
returns c points e =
    let four : length c.args.tet.0 ≡ 4 = search rules in
    let t = c.args.triangle.now in
    let corners = c.args.corners.now in
    let long : length corners ≡ 4 = search rules in
    let fits_0 : SFits w8 (get_or c.args.signs 0 (pos 0)) = search rules in
    let fits_1 : SFits w8 (get_or c.args.signs 1 (pos 0)) = search rules in
    let fits_2 : SFits w8 (get_or c.args.signs 2 (pos 0)) = search rules in
    let fits_3 : SFits w8 (get_or c.args.signs 3 (pos 0)) = search rules in
    let s_0 = to_z-of_z fits_0 ∙ sign-at t corners c.args.signs 0 origin c.requires.signs (omega (arith, long)) in
    let s_1 = to_z-of_z fits_1 ∙ sign-at t corners c.args.signs 1 origin c.requires.signs (omega (arith, long)) in
    let s_2 = to_z-of_z fits_2 ∙ sign-at t corners c.args.signs 2 origin c.requires.signs (omega (arith, long)) in
    let s_3 = to_z-of_z fits_3 ∙ sign-at t corners c.args.signs 3 origin c.requires.signs (omega (arith, long)) in
    six-added (numbers_of c.args.into.now.items) _ _ _ _ _ _ _ _ _ _ _ _ c.in_ok-push_if.ensures c.in_ok-push_if-2.ensures c.in_ok-push_if-3.ensures c.in_ok-push_if-4.ensures c.in_ok-push_if-5.ensures c.in_ok-push_if-6.ensures
    ∙ ap (λ es. numbers_of c.args.into.now.items ++ es)
    (wanted-pairs points t c.args.i c.args.tet.0 corners origin _ _ _ _ _ _ four e
    (c.wants_along-ab.ensures ∙ along-pair t c.args.i corners _ _ _ _ c.requires.first s_0 s_1)
    (c.wants_along-ac.ensures ∙ along-pair t c.args.i corners _ _ _ _ c.requires.first s_0 s_2)
    (c.wants_along-ad.ensures ∙ along-pair t c.args.i corners _ _ _ _ c.requires.first s_0 s_3)
    (c.wants_along-bc.ensures ∙ along-pair t c.args.i corners _ _ _ _ c.requires.first s_1 s_2)
    (c.wants_along-bd.ensures ∙ along-pair t c.args.i corners _ _ _ _ c.requires.first s_1 s_3)
    (c.wants_along-cd.ensures ∙ along-pair t c.args.i corners _ _ _ _ c.requires.first s_2 s_3))
