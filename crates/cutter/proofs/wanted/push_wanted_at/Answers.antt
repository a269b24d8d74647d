use Rattle.std.proofs.Common.{◌≡◌, ◌∙◌, ◌++◌, true, false, sym, ap, get_or, subst}
use Rattle.std.proofs.lemmas.List.{append-nil}
use Rattle.grid.specs.Limits.{largest_side}
use Rattle.mesh_types.specs.CuttingRule.{is_crossed}
use Rattle.mesh_types.specs.Phases.{points_of, wanted_in}
use Rattle.tet_slots.specs.Slots.{slot_at}
use Rattle.cutting_rule.specs.Edges.{numbers_of}
use Rattle.cutting_rule.specs.Touching.{may_want, signs_at}
use Rattle.cutting_rule.proofs.ForCallers.{may-none, points-in}
use Rattle.cutter.specs.declared.touching.Touched.{Touched}
use Rattle.cutter.proofs.TouchedSlots.{phase-at}
use Rattle.cutter.proofs.wanted.push_wanted_at.Goals as goal

pub push_along-requires-clause-corners_in : goal.push_along-requires-clause-corners_in
push_along-requires-clause-corners_in c =
    points-in largest_side c.args.slots.now.points c.corner_points-corners.result c.tet-tet.result.0 c.corner_points-corners.ensures c.requires.in_box c.tet-tet.ensures.corners.in_range

pub push_along-requires-clause-signs : goal.push_along-requires-clause-signs
push_along-requires-clause-signs c =
    ap (λ (e : Touched). e.touch.signs) c.requires.touched
    ∙ ap (signs_at c.args.triangle.now) (sym (c.corner_points-corners.ensures ∙ ap (λ x. points_of c.args.slots.now.points x.0) c.tet-tet.ensures.value))

pub returns-then-not-touched-i : goal.returns-then-not-touched-i
returns-then-not-touched-i c =
    let points = c.args.slots.now.points in
    let tet = (slot_at c.args.slots.now.slots c.args.touched.slot).tet.0 in
    let t = c.args.triangle.now in
    let none : may_want t c.args.i (points_of points tet) ≡ false =
    sym (phase-at t (points_of points tet) c.args.i false c.requires.index) ∙ (sym (ap (λ (e : Touched). get_or e.touch.phases c.args.i false) c.requires.touched) ∙ c.if-not-touched-i.true) in
    sym (append-nil (numbers_of c.args.into.now.items)) ∙ ap (λ es. numbers_of c.args.into.now.items ++ es) (sym (may-none points t c.args.i tet none))

pub returns-then-i-eq0 : goal.returns-then-i-eq0
returns-then-i-eq0 c =
    let points = c.args.slots.now.points in
    let tet = (slot_at c.args.slots.now.slots c.args.touched.slot).tet.0 in
    let t = c.args.triangle.now in
    let first = c.if-i-eq0.true in
    let some : may_want t c.args.i (points_of points tet) ≡ true =
    sym (phase-at t (points_of points tet) c.args.i false c.requires.index) ∙ (sym (ap (λ (e : Touched). get_or e.touch.phases c.args.i false) c.requires.touched) ∙ c.if-not-touched-i.false) in
    let crossed : is_crossed t (points_of points tet) ≡ true = subst (λ i. may_want t i (points_of points tet) ≡ true) first some in
    let value = ap (λ x. x.0) c.tet-tet.ensures.value in
    c.in_ok-push_crossed.ensures points t (ap (λ (e : Touched). e.touch.signs) c.requires.touched ∙ ap (λ x. signs_at t (points_of points x)) (sym value)) (subst (λ x. is_crossed t (points_of points x) ≡ true) (sym value) crossed)
    ∙ (λ j. numbers_of c.args.into.now.items ++ wanted_in points t (sym first j) (value j))
