use Rattle.std.proofs.Common.{◌≡◌, ◌++◌, pos, ap, ◌∙◌, arith, length, get_or, rules, w8, SFits, to_z-of_z}
use Rattle.grid.specs.Determinants.{origin}
use Rattle.grid.specs.Views.{triples_of}
use Rattle.cutting_rule.proofs.EdgePairs.{section-sign, sign-at}
use Rattle.cutting_rule.proofs.SectionFaces.{section-corners}
use Rattle.cutting_rule.proofs.Steps.{four-added}
use Rattle.cutting_rule.proofs.section.push_section.Goals as goal

pub has_in_section-has_b-requires : goal.has_in_section-has_b-requires
has_in_section-has_b-requires c =
    let long : length c.args.corners.now ≡ 4 = search rules in
    c.requires.corners_in 1 origin (omega (arith, long))

pub has_in_section-has_c-requires : goal.has_in_section-has_c-requires
has_in_section-has_c-requires c =
    let long : length c.args.corners.now ≡ 4 = search rules in
    c.requires.corners_in 2 origin (omega (arith, long))

pub has_in_section-has_d-requires : goal.has_in_section-has_d-requires
has_in_section-has_d-requires c =
    let long : length c.args.corners.now ≡ 4 = search rules in
    c.requires.corners_in 3 origin (omega (arith, long))

pub returns : goal.returns
returns c points e =
    let four : length c.args.tet.0 ≡ 4 = search rules in
    let t = c.args.triangle.now in
    let corners = c.args.corners.now in
    let long : length corners ≡ 4 = search rules in
    let fits_0 : SFits w8 (get_or c.args.signs 0 (pos 0)) = search rules in
    let fits_1 : SFits w8 (get_or c.args.signs 1 (pos 0)) = search rules in
    let fits_2 : SFits w8 (get_or c.args.signs 2 (pos 0)) = search rules in
    let fits_3 : SFits w8 (get_or c.args.signs 3 (pos 0)) = search rules in
    let s_0 = to_z-of_z fits_0 ∙ sign-at t corners c.args.signs 0 origin c.requires.signs (omega (arith, long)) in
    let s_1 = to_z-of_z fits_1 ∙ sign-at t corners c.args.signs 1 origin c.requires.signs (omega (arith, long)) in
    let s_2 = to_z-of_z fits_2 ∙ sign-at t corners c.args.signs 2 origin c.requires.signs (omega (arith, long)) in
    let s_3 = to_z-of_z fits_3 ∙ sign-at t corners c.args.signs 3 origin c.requires.signs (omega (arith, long)) in
    four-added (triples_of c.args.into.now.items) _ _ _ _ _ _ _ _ c.in_ok-push_if.ensures c.in_ok-push_if-2.ensures c.in_ok-push_if-3.ensures c.in_ok-push_if-4.ensures
    ∙ ap (λ ts. triples_of c.args.into.now.items ++ ts)
    (section-corners points t c.args.tet.0 corners origin _ _ _ _ _ _ _ _ four e
    (c.has_in_section-has_a.ensures ∙ section-sign t _ _ s_0) (c.has_in_section-has_b.ensures ∙ section-sign t _ _ s_1)
    (c.has_in_section-has_c.ensures ∙ section-sign t _ _ s_2) (c.has_in_section-has_d.ensures ∙ section-sign t _ _ s_3)
    c.all_three.ensures c.all_three-2.ensures c.all_three-3.ensures c.all_three-4.ensures)
