use Rattle.std.proofs.Common.{◌≡◌, ◌∙◌, ◌<◌, ◌+◌, ◌≤◌, ℕ, List, length, ap, refl, sym, subst}
use Rattle.std.specs.List.{list_all}
use Rattle.grid.specs.declared.shapes.Point.{Point}
use Rattle.grid.specs.declared.shapes.Tet.{Tet}
use Rattle.grid.specs.Determinants.{IsPositive}
use Rattle.grid.specs.Simplices.{IsTet, replaced}
use Rattle.grid.specs.Limits.{most_made}
use Rattle.tet_slots.specs.declared.slot.Slot.{Slot}
use Rattle.mesh_store.specs.Exchanges.{tet_in}
use Rattle.local_ops.specs.Measures.{is_positive}
use Rattle.local_ops.specs.Swaps.{AreSides, IsSeenWorse, three_of}
use Rattle.local_ops.proofs.Swapped.{first-side, second-side, three-corners, inverted-seen}
use Rattle.local_ops.proofs.Worsened.{first-positive, second-positive, worse-seen}
use Rattle.local_ops.proofs.foreseeing.see_face_swap.Goals as goal
use Rattle.local_ops.proofs.foreseeing.see_face_swap.Goals.{In-Some, After-tet, After-are_three_positive}

sides-are : (c : In-Some) → AreSides c.args.store.now.parts.slots c.args.a c.args.b c.args.c c.in-Some.sides
sides-are c = subst (λ (ss : List Slot). AreSides ss c.args.a c.args.b c.args.c c.in-Some.sides) c.slots-slots.ensures.slots c.in-Some.ensures

tet-is : (c : After-tet) → c.tet.result.0 ≡ tet_in c.args.store.now.parts.slots c.in-Some.sides.first
tet-is c = ap (λ (t : Tet). t.0) c.tet.ensures.value ∙ ap (λ (ss : List Slot). tet_in ss c.in-Some.sides.first) c.slots-slots.ensures.slots

corners-are : (c : After-tet) (u : ℕ) → IsTet (length c.slots-slots.result.now.points) (replaced u c.in-Some.sides.apex c.tet.result.0)
corners-are c u =
    let v = c.args.store.now in
    let h : AreSides v.parts.slots c.args.a c.args.b c.args.c c.in-Some.sides = subst (λ (ss : List Slot). AreSides ss c.args.a c.args.b c.args.c c.in-Some.sides) c.slots-slots.ensures.slots c.in-Some.ensures in
    subst (λ (ps : List Point). IsTet (length ps) (replaced u c.in-Some.sides.apex c.tet.result.0)) (sym c.slots-slots.ensures.points)
    (subst (λ (y : List ℕ). IsTet (length v.parts.points) (replaced u c.in-Some.sides.apex y)) (sym (tet-is c)) (three-corners v.parts c.args.a c.args.b c.args.c c.in-Some.sides h v.side c.requires.sound u))

pub tet-requires : goal.tet-requires
tet-requires c =
    let v = c.args.store.now in
    subst (λ (ss : List Slot). c.in-Some.sides.first < length ss) (sym c.slots-slots.ensures.slots) (first-side v.parts c.args.a c.args.b c.args.c c.in-Some.sides (sides-are (goal.at.tet-requires c).In-Some)).there

pub are_three_positive-requires-clause-at_a : goal.are_three_positive-requires-clause-at_a
are_three_positive-requires-clause-at_a c = corners-are (goal.at.are_three_positive-requires-clause-at_a c).After-tet c.args.a

pub are_three_positive-requires-clause-at_b : goal.are_three_positive-requires-clause-at_b
are_three_positive-requires-clause-at_b c = corners-are (goal.at.are_three_positive-requires-clause-at_b c).After-tet c.args.b

pub are_three_positive-requires-clause-at_c : goal.are_three_positive-requires-clause-at_c
are_three_positive-requires-clause-at_c c = corners-are (goal.at.are_three_positive-requires-clause-at_c c).After-tet c.args.c

module _ (c : After-are_three_positive) where
  three-are : c.are_three_positive.result ≡ list_all (is_positive c.args.store.now.parts.points) (three_of c.args.a c.args.b c.args.c c.in-Some.sides.apex (tet_in c.args.store.now.parts.slots c.in-Some.sides.first))
  three-are =
      let o = c.in-Some.sides.apex in
      let x : c.tet.result.0 ≡ tet_in c.args.store.now.parts.slots c.in-Some.sides.first = ap (λ (t : Tet). t.0) c.tet.ensures.value ∙ ap (λ (ss : List Slot). tet_in ss c.in-Some.sides.first) c.slots-slots.ensures.slots in
      c.are_three_positive.ensures ∙ (λ i. list_all (is_positive (c.slots-slots.ensures.points i)) (three_of c.args.a c.args.b c.args.c o (x i)))

  room-is : length c.slots-slots.result.now.slots + 3 ≤ most_made → length c.args.store.now.parts.slots + 3 ≤ most_made
  room-is l = subst (λ (ss : List Slot). length ss + 3 ≤ most_made) c.slots-slots.ensures.slots l

pub returns-then-not-are_three_positive : goal.returns-then-not-are_three_positive
returns-then-not-are_three_positive c = λ triangles e passed.
    let v = c.args.store.now in
    let h = sides-are (goal.at.returns-then-not-are_three_positive c).In-Some in
    let is = three-are (goal.at.returns-then-not-are_three_positive c).After-are_three_positive in
    let room = room-is (goal.at.returns-then-not-are_three_positive c).After-are_three_positive (c.if-not-has_room_for_three.ensures refl) in
    inverted-seen v.parts c.args.a c.args.b c.args.c c.in-Some.sides h v.side c.requires.sound triangles e room (sym is ∙ c.if-not-are_three_positive.true) passed

pub is_seen_worse-requires-clause-second : goal.is_seen_worse-requires-clause-second
is_seen_worse-requires-clause-second c =
    let v = c.args.store.now in
    subst (λ (ss : List Slot). c.in-Some.sides.second < length ss) (sym c.slots-slots.ensures.slots) (second-side v.parts c.args.a c.args.b c.args.c c.in-Some.sides (sides-are (goal.at.is_seen_worse-requires-clause-second c).In-Some)).there

pub is_seen_worse-requires-clause-first_positive : goal.is_seen_worse-requires-clause-first_positive
is_seen_worse-requires-clause-first_positive c =
    let v = c.args.store.now in
    let h = sides-are (goal.at.is_seen_worse-requires-clause-first_positive c).In-Some in
    subst (λ (ss : List Slot). IsPositive c.slots-slots.result.now.points (tet_in ss c.in-Some.sides.first)) (sym c.slots-slots.ensures.slots)
    (subst (λ (ps : List Point). IsPositive ps (tet_in v.parts.slots c.in-Some.sides.first)) (sym c.slots-slots.ensures.points) (first-positive v.parts c.args.a c.args.b c.args.c c.in-Some.sides h c.requires.positive))

pub is_seen_worse-requires-clause-second_positive : goal.is_seen_worse-requires-clause-second_positive
is_seen_worse-requires-clause-second_positive c =
    let v = c.args.store.now in
    let h = sides-are (goal.at.is_seen_worse-requires-clause-second_positive c).In-Some in
    subst (λ (ss : List Slot). IsPositive c.slots-slots.result.now.points (tet_in ss c.in-Some.sides.second)) (sym c.slots-slots.ensures.slots)
    (subst (λ (ps : List Point). IsPositive ps (tet_in v.parts.slots c.in-Some.sides.second)) (sym c.slots-slots.ensures.points) (second-positive v.parts c.args.a c.args.b c.args.c c.in-Some.sides h c.requires.positive))

slot-corners : (c : After-tet) (u : ℕ) → IsTet (length c.slots-slots.result.now.points) (replaced u c.in-Some.sides.apex (tet_in c.slots-slots.result.now.slots c.in-Some.sides.first))
slot-corners c u = subst (λ (y : List ℕ). IsTet (length c.slots-slots.result.now.points) (replaced u c.in-Some.sides.apex y)) (ap (λ (t : Tet). t.0) c.tet.ensures.value) (corners-are c u)

pub is_seen_worse-requires-clause-at_a : goal.is_seen_worse-requires-clause-at_a
is_seen_worse-requires-clause-at_a c = slot-corners (goal.at.is_seen_worse-requires-clause-at_a c).After-tet c.args.a

pub is_seen_worse-requires-clause-at_b : goal.is_seen_worse-requires-clause-at_b
is_seen_worse-requires-clause-at_b c = slot-corners (goal.at.is_seen_worse-requires-clause-at_b c).After-tet c.args.b

pub is_seen_worse-requires-clause-at_c : goal.is_seen_worse-requires-clause-at_c
is_seen_worse-requires-clause-at_c c = slot-corners (goal.at.is_seen_worse-requires-clause-at_c c).After-tet c.args.c

pub returns-then-branch : goal.returns-then-branch
returns-then-branch c = λ triangles e passed.
    let v = c.args.store.now in
    let s = c.in-Some.sides in
    let h = sides-are (goal.at.returns-then-branch c).In-Some in
    let is = three-are (goal.at.returns-then-branch c).After-are_three_positive in
    let room = room-is (goal.at.returns-then-branch c).After-are_three_positive (c.if-not-has_room_for_three.ensures refl) in
    let seen : IsSeenWorse v.parts.slots v.parts.points c.args.a c.args.b c.args.c s =
    subst (λ (ss : List Slot). IsSeenWorse ss v.parts.points c.args.a c.args.b c.args.c s) c.slots-slots.ensures.slots
    (subst (λ (ps : List Point). IsSeenWorse c.slots-slots.result.now.slots ps c.args.a c.args.b c.args.c s) c.slots-slots.ensures.points (c.in_ok-is_seen_worse.ensures c.if-branch.true)) in
    worse-seen v.parts c.args.a c.args.b c.args.c s h (c.requires.once c.if-not-once.false) seen v.side c.requires.sound triangles e room (sym is ∙ c.if-not-are_three_positive.false) passed
