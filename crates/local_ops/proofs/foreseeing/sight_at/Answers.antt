use Rattle.std.proofs.Common.{◌≡◌, ◌∙◌, ◌<◌, ◌+◌, ◌*◌, ◌≤◌, List, All, length, map, ap, refl, sym, subst, arith}
use Rattle.std.specs.List.{list_all}
use Rattle.grid.specs.declared.shapes.Point.{Point}
use Rattle.grid.specs.Determinants.{IsPositive}
use Rattle.grid.specs.Limits.{most_points, most_made}
use Rattle.mesh_types.specs.declared.tries.Why.TheVariants as why
use Rattle.mesh_types.specs.Journals.{setting}
use Rattle.tet_slots.specs.declared.slot.Slot.{Slot}
use Rattle.tet_slots.specs.Searches.{numbers_of}
use Rattle.mesh_store.specs.Parts.{mesh_in}
use Rattle.local_ops.specs.Attempts.{may_go}
use Rattle.local_ops.specs.Foreseen.{are_lower, become_positive, near_tets}
use Rattle.local_ops.specs.Measures.{corners_at}
use Rattle.local_ops.proofs.Foreseen.{passes-Full, passes-Inverted, fails-Inverted, passes-Worse, fails-Worse}
use Rattle.local_ops.proofs.InOrder.{passes_more, refused}
use Rattle.local_ops.proofs.NearSlots.{length-numbers, numbers-there, near-positive_before, near-pass}
use Rattle.local_ops.proofs.foreseeing.sight_at.Goals as goal

pub has_room-requires : goal.has_room-requires
has_room-requires c =
    let v = c.args.store.now in
    record { few = omega (arith, ap length c.requires.near, length-numbers (may_go c.args.attempt) 0 v.parts.slots, c.requires.sound.slots_few) }

pub are_positive-requires-clause-there : goal.are_positive-requires-clause-there
are_positive-requires-clause-there c =
    let v = c.args.store.now in
    subst (λ (ss : List Slot). All (λ i. i < length ss) c.args.near.now) (sym c.slots-slots.ensures.slots)
    (subst (All (λ i. i < length v.parts.slots)) (sym c.requires.near) (numbers-there (may_go c.args.attempt) v.parts.slots))

pub returns-then-not-are_positive : goal.returns-then-not-are_positive
returns-then-not-are_positive c = λ triangles e passed.
    let v = c.args.store.now in
    let t = c.args.attempt in
    let s = setting triangles e v.side in
    let m = mesh_in v.parts in
    let some : length v.parts.points < most_points = subst (λ (ps : List Point). length ps < most_points) c.slots-slots.ensures.points (c.if-not-has_room.ensures.points refl) in
    let room : length v.parts.slots + 2 * length (numbers_of (may_go t) 0 v.parts.slots) ≤ most_made = omega (arith, ap length c.slots-slots.ensures.slots, ap length c.requires.near, c.if-not-has_room.ensures.made refl) in
    let is : c.are_positive.result ≡ list_all (become_positive t c.args.at v.parts.points) (near_tets t v.parts.slots) =
    c.are_positive.ensures ∙ (λ i. list_all (become_positive t c.args.at (c.slots-slots.ensures.points i)) (map (corners_at (c.slots-slots.ensures.slots i)) (c.requires.near i))) in
    refused s m t why.Inverted (passes_more s m t why.Full passed (passes-Full triangles e v.side v.parts t c.args.at c.requires.sound c.requires.aim some room))
    (fails-Inverted triangles e v.side v.parts t c.args.at c.requires.sound c.requires.aim (sym is ∙ c.if-not-are_positive.true))

pub are_better-requires-clause-there : goal.are_better-requires-clause-there
are_better-requires-clause-there c =
    let v = c.args.store.now in
    subst (λ (ss : List Slot). All (λ i. i < length ss) c.args.near.now) (sym c.slots-slots.ensures.slots)
    (subst (All (λ i. i < length v.parts.slots)) (sym c.requires.near) (numbers-there (may_go c.args.attempt) v.parts.slots))

pub are_better-requires-clause-positive : goal.are_better-requires-clause-positive
are_better-requires-clause-positive c =
    let v = c.args.store.now in
    subst (λ (ss : List Slot). All (λ i. IsPositive c.slots-slots.result.now.points (corners_at ss i)) c.args.near.now) (sym c.slots-slots.ensures.slots)
    (subst (λ (ps : List Point). All (λ i. IsPositive ps (corners_at v.parts.slots i)) c.args.near.now) (sym c.slots-slots.ensures.points)
    (subst (All (λ i. IsPositive v.parts.points (corners_at v.parts.slots i))) (sym c.requires.near) (near-positive_before c.args.attempt v.parts c.requires.positive)))

pub are_better-requires-clause-signs : goal.are_better-requires-clause-signs
are_better-requires-clause-signs c =
    let slots = c.slots-slots.result.now in
    near-pass (become_positive c.args.attempt c.args.at slots.points) slots.slots c.args.near.now (sym c.are_positive.ensures ∙ c.if-not-are_positive.false)

pub returns-then-are_better : goal.returns-then-are_better
returns-then-are_better c = λ triangles e passed.
    let v = c.args.store.now in
    let t = c.args.attempt in
    let s = setting triangles e v.side in
    let m = mesh_in v.parts in
    let some : length v.parts.points < most_points = subst (λ (ps : List Point). length ps < most_points) c.slots-slots.ensures.points (c.if-not-has_room.ensures.points refl) in
    let room : length v.parts.slots + 2 * length (numbers_of (may_go t) 0 v.parts.slots) ≤ most_made = omega (arith, ap length c.slots-slots.ensures.slots, ap length c.requires.near, c.if-not-has_room.ensures.made refl) in
    let is : c.are_positive.result ≡ list_all (become_positive t c.args.at v.parts.points) (near_tets t v.parts.slots) =
    c.are_positive.ensures ∙ (λ i. list_all (become_positive t c.args.at (c.slots-slots.ensures.points i)) (map (corners_at (c.slots-slots.ensures.slots i)) (c.requires.near i))) in
    let lower : c.are_better.result ≡ are_lower t c.args.at v.parts.points (near_tets t v.parts.slots) =
    c.are_better.ensures ∙ (λ i. are_lower t c.args.at (c.slots-slots.ensures.points i) (map (corners_at (c.slots-slots.ensures.slots i)) (c.requires.near i))) in
    let full = passes_more s m t why.Full passed (passes-Full triangles e v.side v.parts t c.args.at c.requires.sound c.requires.aim some room) in
    let signs = passes_more s m t why.Inverted full (passes-Inverted triangles e v.side v.parts t c.args.at c.requires.sound c.requires.aim (sym is ∙ c.if-not-are_positive.false)) in
    let single = passes_more s m t why.Doubled signs (c.requires.single c.if-not-single.false) in
    passes_more s m t why.Worse single (passes-Worse triangles e v.side v.parts t c.args.at c.requires.sound c.requires.aim (sym lower ∙ c.if-are_better.true))

pub returns-else-are_better : goal.returns-else-are_better
returns-else-are_better c = λ triangles e passed.
    let v = c.args.store.now in
    let t = c.args.attempt in
    let s = setting triangles e v.side in
    let m = mesh_in v.parts in
    let some : length v.parts.points < most_points = subst (λ (ps : List Point). length ps < most_points) c.slots-slots.ensures.points (c.if-not-has_room.ensures.points refl) in
    let room : length v.parts.slots + 2 * length (numbers_of (may_go t) 0 v.parts.slots) ≤ most_made = omega (arith, ap length c.slots-slots.ensures.slots, ap length c.requires.near, c.if-not-has_room.ensures.made refl) in
    let is : c.are_positive.result ≡ list_all (become_positive t c.args.at v.parts.points) (near_tets t v.parts.slots) =
    c.are_positive.ensures ∙ (λ i. list_all (become_positive t c.args.at (c.slots-slots.ensures.points i)) (map (corners_at (c.slots-slots.ensures.slots i)) (c.requires.near i))) in
    let lower : c.are_better.result ≡ are_lower t c.args.at v.parts.points (near_tets t v.parts.slots) =
    c.are_better.ensures ∙ (λ i. are_lower t c.args.at (c.slots-slots.ensures.points i) (map (corners_at (c.slots-slots.ensures.slots i)) (c.requires.near i))) in
    let full = passes_more s m t why.Full passed (passes-Full triangles e v.side v.parts t c.args.at c.requires.sound c.requires.aim some room) in
    let signs = passes_more s m t why.Inverted full (passes-Inverted triangles e v.side v.parts t c.args.at c.requires.sound c.requires.aim (sym is ∙ c.if-not-are_positive.false)) in
    refused s m t why.Worse (passes_more s m t why.Doubled signs (c.requires.single c.if-not-single.false))
    (fails-Worse triangles e v.side v.parts t c.args.at c.requires.sound c.requires.aim (sym lower ∙ c.if-are_better.false))
