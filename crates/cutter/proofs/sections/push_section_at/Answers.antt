use Rattle.std.proofs.Common.{◌∙◌, ◌++◌, refl, sym, ap}
use Rattle.std.proofs.lemmas.List.{append-nil}
use Rattle.grid.specs.Limits.{largest_side}
use Rattle.grid.specs.Views.{triples_of}
use Rattle.mesh_types.specs.Phases.{points_of}
use Rattle.tet_slots.specs.Slots.{slot_at}
use Rattle.cutting_rule.specs.Touching.{signs_at}
use Rattle.cutting_rule.proofs.ForCallers.{points-in}
use Rattle.cutter.specs.declared.touching.Touched.{Touched}
use Rattle.cutter.proofs.sections.push_section_at.Goals as goal

pub returns-then-not-may_have_section : goal.returns-then-not-may_have_section
returns-then-not-may_have_section c =
    let tet = (slot_at c.args.slots.now.slots c.args.touched.slot).tet.0 in
    sym (append-nil (triples_of c.args.into.now.items))
    ∙ ap (λ fs. triples_of c.args.into.now.items ++ fs)
    (sym (c.if-not-may_have_section.ensures refl c.args.slots.now.points c.args.triangle.now tet (ap (λ (e : Touched). e.touch.signs) c.requires.touched)))

pub push_section-requires-clause-corners_in : goal.push_section-requires-clause-corners_in
push_section-requires-clause-corners_in c =
    points-in largest_side c.args.slots.now.points c.corner_points-corners.result c.tet-tet.result.0 c.corner_points-corners.ensures c.requires.in_box c.tet-tet.ensures.corners.in_range

pub push_section-requires-clause-signs : goal.push_section-requires-clause-signs
push_section-requires-clause-signs c =
    ap (λ (e : Touched). e.touch.signs) c.requires.touched
    ∙ ap (signs_at c.args.triangle.now) (sym (c.corner_points-corners.ensures ∙ ap (λ x. points_of c.args.slots.now.points x.0) c.tet-tet.ensures.value))
