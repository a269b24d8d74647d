use Rattle.std.proofs.Common.{◌≡◌, ◌∙◌, pos, ap, sym, length, get_or, rules, w8, SFits, to_z-of_z}
use Rattle.std.specs.Ordering.{int_eq}
use Rattle.std.proofs.lemmas.Bool.{or_parts}
use Rattle.std.proofs.lemmas.List.{length-map}
use Rattle.grid.specs.Determinants.{point_at}
use Rattle.mesh_types.specs.Phases.{points_of}
use Rattle.grid.specs.Planes.{snap_sign}
use Rattle.mesh_types.specs.CuttingRule.{section_plane}
use Rattle.cutting_rule.proofs.SectionFaces.{no-section}
use Rattle.cutting_rule.proofs.section.may_have_section.Goals as goal

pub returns : goal.returns
returns c none points t x e =
    let long : length c.args.signs ≡ 4 = search rules in
    let four : length x ≡ 4 = sym (length-map x (point_at points)) ∙ (sym (length-map (points_of points x) (snap_sign (section_plane t))) ∙ (sym (ap length e) ∙ long)) in
    let fits_0 : SFits w8 (get_or c.args.signs 0 (pos 0)) = search rules in
    let fits_1 : SFits w8 (get_or c.args.signs 1 (pos 0)) = search rules in
    let fits_2 : SFits w8 (get_or c.args.signs 2 (pos 0)) = search rules in
    let fits_3 : SFits w8 (get_or c.args.signs 3 (pos 0)) = search rules in
    let first = or_parts _ _ (sym c.some_three.ensures ∙ none) in
    let second = or_parts _ _ first.0 in
    let third = or_parts _ _ second.0 in
    no-section points t x c.args.signs _ _ _ _ four e
    (c.is_on-a.ensures ∙ ap (λ s. int_eq s (pos 0)) (to_z-of_z fits_0)) (c.is_on-b.ensures ∙ ap (λ s. int_eq s (pos 0)) (to_z-of_z fits_1))
    (c.is_on-c.ensures ∙ ap (λ s. int_eq s (pos 0)) (to_z-of_z fits_2)) (c.is_on-d.ensures ∙ ap (λ s. int_eq s (pos 0)) (to_z-of_z fits_3))
    third.0 third.1 second.1 first.1
