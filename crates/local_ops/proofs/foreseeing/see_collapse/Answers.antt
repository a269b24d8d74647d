use Rattle.std.proofs.Common.{◌≡◌, ◌∙◌, ◌<◌, List, All, length, map, ap, sym, subst}
use Rattle.std.specs.List.{filter, list_all}
use Rattle.grid.specs.declared.shapes.Point.{Point}
use Rattle.grid.specs.Boxes.{IsInBox}
use Rattle.grid.specs.Determinants.{origin, point_at}
use Rattle.grid.specs.Simplices.{has}
use Rattle.grid.specs.Limits.{largest_side}
use Rattle.mesh_types.specs.declared.tries.Try.TheVariants.{Collapse, Shift}
use Rattle.tet_slots.specs.declared.slot.Slot.{Slot}
use Rattle.mesh_store.specs.Parts.{live_tets, mesh_in}
use Rattle.mesh_store.proofs.ForCallers.{well_formed}
use Rattle.local_ops.specs.Apart.{is_apart}
use Rattle.local_ops.specs.Attempts.{may_go}
use Rattle.local_ops.specs.Foreseen.{near_tets}
use Rattle.local_ops.specs.Measures.{corners_at}
use Rattle.local_ops.proofs.Aims.{aim-collapse, near-is}
use Rattle.local_ops.proofs.Ends.{collapse_ends}
use Rattle.local_ops.proofs.Means.{in-grid}
use Rattle.local_ops.proofs.NearSlots.{numbers-there}
use Rattle.local_ops.proofs.Once.{single-collapse}
use Rattle.local_ops.proofs.foreseeing.see_collapse.Goals as goal

pub point-at-requires : goal.point-at-requires
point-at-requires c =
    let v = c.args.store.now in
    subst (λ (ps : List Point). c.args.v < length ps) (sym c.slots.ensures.points) (collapse_ends (mesh_in v.parts) c.args.u c.args.v (well_formed v.side v.parts c.requires.sound) c.requires.candidate).1

pub sight_at-requires-clause-aim : goal.sight_at-requires-clause-aim
sight_at-requires-clause-aim c =
    let v = c.args.store.now in
    let there = (collapse_ends (mesh_in v.parts) c.args.u c.args.v (well_formed v.side v.parts c.requires.sound) c.requires.candidate).1 in
    let is : c.point-at.result ≡ point_at v.parts.points c.args.v = c.point-at.ensures ∙ ap (λ (ps : List Point). point_at ps c.args.v) c.slots.ensures.points in
    let within : IsInBox largest_side c.point-at.result = subst (IsInBox largest_side) (sym is) (in-grid v.side c.requires.sound.box (point_at v.parts.points c.args.v) (c.requires.sound.in_box c.args.v origin there)) in
    aim-collapse v.side v.parts c.requires.sound c.args.u c.args.v c.point-at.result is within

pub are_apart-requires : goal.are_apart-requires
are_apart-requires c =
    let v = c.args.store.now in
    subst (λ (ss : List Slot). All (λ i. i < length ss) c.args.near.now) (sym c.slots-in-Better.ensures.slots)
    (subst (All (λ i. i < length v.parts.slots)) (sym c.requires.near) (numbers-there (may_go (Collapse c.args.u c.args.v)) v.parts.slots))

pub sight_at-requires-in-Better : goal.sight_at-requires-in-Better
sight_at-requires-in-Better c =
    let v = c.args.store.now in
    let there = (collapse_ends (mesh_in v.parts) c.args.u c.args.v (well_formed v.side v.parts c.requires.sound) c.requires.candidate).1 in
    let at : c.point-at.result ≡ point_at v.parts.points c.args.v = c.point-at.ensures ∙ ap (λ (ps : List Point). point_at ps c.args.v) c.slots.ensures.points in
    let within : IsInBox largest_side c.point-at.result = subst (IsInBox largest_side) (sym at) (in-grid v.side c.requires.sound.box (point_at v.parts.points c.args.v) (c.requires.sound.in_box c.args.v origin there)) in
    let is : c.in_ok-single-in-Better.single ≡ list_all (is_apart c.args.u c.args.v (near_tets (Shift c.args.v 0) v.parts.slots)) (near_tets (Collapse c.args.u c.args.v) v.parts.slots) =
    c.in_ok-single-in-Better.ensures ∙ (λ i. list_all (is_apart c.args.u c.args.v (near_tets (Shift c.args.v 0) (c.slots-in-Better.ensures.slots i))) (map (corners_at (c.slots-in-Better.ensures.slots i)) (c.requires.near i))) in
    let all : c.in_ok-single-in-Better.single ≡ list_all (is_apart c.args.u c.args.v (filter (λ x. has x c.args.v) (live_tets v.parts.slots))) (filter (λ x. has x c.args.u) (live_tets v.parts.slots)) =
    is ∙ (λ i. list_all (is_apart c.args.u c.args.v (near-is (Shift c.args.v 0) v.parts.slots i)) (near-is (Collapse c.args.u c.args.v) v.parts.slots i)) in
    record {
      sound = c.requires.sound;
      positive = c.requires.positive;
      near = c.requires.near;
      aim = aim-collapse v.side v.parts c.requires.sound c.args.u c.args.v c.point-at.result at within;
      single = λ o. single-collapse (mesh_in v.parts) (c.requires.once c.if-not-once.false) c.args.u c.args.v (sym all ∙ o);
    }
