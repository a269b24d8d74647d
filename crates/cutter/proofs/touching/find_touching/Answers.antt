use Rattle.std.proofs.Common.{◌∙◌, ◌++◌, get_or, ap, arith}
use Rattle.grid.specs.Limits.{largest_side}
use Rattle.mesh_types.specs.Phases.{points_of}
use Rattle.tet_slots.specs.Searches.{meets}
use Rattle.cutting_rule.proofs.ForCallers.{flat-step, flat-end, points-in}
use Rattle.cutter.specs.Found.{picked, picked_of}
use Rattle.cutter.proofs.Near.{passes-at}
use Rattle.cutter.proofs.TouchedSlots.{touching-found}
use Rattle.cutter.proofs.touching.find_touching.Goals as goal

pub tet-requires : goal.tet-requires
tet-requires c =
    let lo = c.section_bounds-reach.result.lo in
    let hi = c.section_bounds-reach.result.hi in
    (passes-at (meets c.args.slots.now.points lo hi) c.args.slots.now.slots c.deref-slot-items.result.now (c.deref-slot-items.ensures.value ∙ c.in_ok-meeting.ensures) c.loop-slot.slot-index 0 (omega arith)).0

pub push_if_touched-requires : goal.push_if_touched-requires
push_if_touched-requires c =
    points-in largest_side c.args.slots.now.points c.corner_points-corners.result c.tet.result.0 c.corner_points-corners.ensures c.requires c.tet.ensures.corners.in_range

pub loop-slot-preserved : goal.loop-slot-preserved
loop-slot-preserved c =
    let points = c.args.slots.now.points in
    let t = c.args.triangle.now in
    let items = c.deref-slot-items.result.now in
    let i = c.loop-slot.slot-index in
    let at = c.corner_points-corners.ensures ∙ ap (λ x. points_of points x.0) c.tet.ensures.value in
    flat-step (picked points c.args.slots.now.slots t) items i 0 _ _ _ (omega arith)
    (c.in_ok-push_if_touched.ensures ∙ ap (λ ps. c.loop-slot.near.items ++ picked_of t (get_or items i 0) ps) at) c.loop-slot.invariant

pub returns : goal.returns
returns c =
    let points = c.args.slots.now.points in
    let slots = c.args.slots.now.slots in
    let t = c.args.triangle.now in
    let items = c.deref-slot-items.result.now in
    touching-found points slots t _ items c.section_bounds-reach.ensures (c.deref-slot-items.ensures.value ∙ c.in_ok-meeting.ensures)
    (flat-end (picked points slots t) items c.loop-slot.slot-index _ _ (omega arith) c.loop-slot.invariant)
