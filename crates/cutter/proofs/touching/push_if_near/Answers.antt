use Rattle.std.proofs.Common.{◌≡◌, ◌∙◌, ◌++◌, ◌&&◌, [], Bool, true, false, cond, sym, ap}
use Rattle.std.proofs.lemmas.Bool.{and_left, and_right}
use Rattle.std.proofs.lemmas.List.{append-nil}
use Rattle.grid.specs.Limits.{largest_side}
use Rattle.mesh_types.specs.Phases.{points_of}
use Rattle.tet_slots.specs.Slots.{slot_at}
use Rattle.cutting_rule.specs.Bounds.{is_met}
use Rattle.cutting_rule.proofs.ForCallers.{points-in}
use Rattle.cutter.specs.Found.{picked, picked_of}
use Rattle.cutter.proofs.touching.push_if_near.Goals as goal

pub push_if_touched-requires : goal.push_if_touched-requires
push_if_touched-requires c =
    points-in largest_side c.args.slots.now.points c.corner_points-corners.result c.tet.result.0 c.corner_points-corners.ensures c.requires.in_box c.tet.ensures.corners.in_range

pub returns-then-not-live : goal.returns-then-not-live
returns-then-not-live c =
    let points = c.args.slots.now.points in
    let slots = c.args.slots.now.slots in
    sym (append-nil c.args.into.now.items)
    ∙ ap (λ (b : Bool). c.args.into.now.items ++ cond b (picked points slots c.args.triangle.now c.args.slot) []) (sym (and_left _ _ (sym c.if-not-live.ensures)))

pub returns-then-not-meets : goal.returns-then-not-meets
returns-then-not-meets c =
    let points = c.args.slots.now.points in
    let slots = c.args.slots.now.slots in
    let at : c.corner_points-corners.result ≡ points_of points (slot_at slots c.args.slot).tet.0 = c.corner_points-corners.ensures ∙ ap (λ x. points_of points x.0) c.tet.ensures.value in
    let far : false ≡ is_met c.args.reach.lo c.args.reach.hi (points_of points (slot_at slots c.args.slot).tet.0) = c.if-not-meets.ensures ∙ ap (is_met c.args.reach.lo c.args.reach.hi) at in
    sym (append-nil c.args.into.now.items)
    ∙ ap (λ (b : Bool). c.args.into.now.items ++ cond b (picked points slots c.args.triangle.now c.args.slot) []) (sym (and_right _ _ (sym far)))

pub returns : goal.returns
returns c =
    let points = c.args.slots.now.points in
    let slots = c.args.slots.now.slots in
    let t = c.args.triangle.now in
    let at : c.corner_points-corners.result ≡ points_of points (slot_at slots c.args.slot).tet.0 = c.corner_points-corners.ensures ∙ ap (λ x. points_of points x.0) c.tet.ensures.value in
    let met : true ≡ is_met c.args.reach.lo c.args.reach.hi (points_of points (slot_at slots c.args.slot).tet.0) = c.if-not-meets.ensures ∙ ap (is_met c.args.reach.lo c.args.reach.hi) at in
    c.in_ok-push_if_touched.ensures ∙ (λ j. c.args.into.now.items ++ cond (c.if-not-live.ensures j && met j) (picked_of t c.args.slot (at j)) [])
