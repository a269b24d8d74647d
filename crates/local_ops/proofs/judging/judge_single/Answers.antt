use Rattle.std.proofs.Common.{◌≡◌, ◌∙◌, ◌<◌, List, All, sym, subst, drop, length, map, arith}
use Rattle.grid.specs.declared.shapes.Point.{Point}
use Rattle.grid.specs.Determinants.{IsPositive}
use Rattle.mesh_types.specs.Journals.{setting}
use Rattle.mesh_types.specs.Verdicts.{energy_at, largest}
use Rattle.mesh_types.specs.declared.tries.Why.TheVariants as why
use Rattle.tet_slots.specs.declared.slot.Slot.{Slot}
use Rattle.tet_slots.specs.Searches.{numbers_of}
use Rattle.mesh_store.specs.Parts.{live_tets, mesh_in}
use Rattle.local_ops.specs.Attempts.{start_of, may_go}
use Rattle.local_ops.specs.Measures.{corners_at, dead_tets}
use Rattle.local_ops.proofs.InOrder.{passes_more, refused}
use Rattle.local_ops.proofs.Judged.{fresh-positive, passes-Worse, worse-passed}
use Rattle.local_ops.proofs.NearSlots.{near-there, near-positive}
use Rattle.local_ops.proofs.judging.judge_single.Goals as goal

pub largest_new-requires-clause-positive : goal.largest_new-requires-clause-positive
largest_new-requires-clause-positive c =
    let v = c.args.store.now in
    let p = fresh-positive c.args.env.now c.args.e c.args.attempt v c.requires.made (c.requires.passed.each why.Inverted (omega arith)) in
    subst (λ (ps : List Point). All (IsPositive ps) (live_tets (drop c.args.before.now.made c.slots-slots.result.now.slots))) (sym c.slots-slots.ensures.points)
    (subst (λ (ss : List Slot). All (IsPositive v.parts.points) (live_tets (drop c.args.before.now.made ss))) (sym c.slots-slots.ensures.slots)
    (subst (λ n. All (IsPositive v.parts.points) (live_tets (drop n v.parts.slots))) (sym c.requires.before.made) p))

pub largest_dead-requires-clause-there : goal.largest_dead-requires-clause-there
largest_dead-requires-clause-there c =
    let v = c.args.store.now in
    let is = c.deref.ensures.value ∙ c.requires.before.near in
    subst (λ (ss : List Slot). All (λ i. i < length ss) c.deref.result.now) (sym c.slots-slots.ensures.slots)
    (subst (All (λ i. i < length v.parts.slots)) (sym is) (near-there c.args.attempt v c.requires.made))

pub largest_dead-requires-clause-positive : goal.largest_dead-requires-clause-positive
largest_dead-requires-clause-positive c =
    let v = c.args.store.now in
    let is = c.deref.ensures.value ∙ c.requires.before.near in
    subst (λ (ss : List Slot). All (λ i. IsPositive c.slots-slots.result.now.points (corners_at ss i)) c.deref.result.now) (sym c.slots-slots.ensures.slots)
    (subst (λ (ps : List Point). All (λ i. IsPositive ps (corners_at v.parts.slots i)) c.deref.result.now) (sym c.slots-slots.ensures.points)
    (subst (All (λ i. IsPositive v.parts.points (corners_at v.parts.slots i))) (sym is) (near-positive c.args.attempt v c.requires.made)))

pub judge_better-requires-clause-passed : goal.judge_better-requires-clause-passed
judge_better-requires-clause-passed c =
    let v = c.args.store.now in
    let new : c.largest_new.result ≡ largest (map (energy_at v.parts.points) (live_tets (drop (length (start_of v).slots) v.parts.slots))) =
    c.largest_new.ensures ∙ (λ i. largest (map (energy_at (c.slots-slots.ensures.points i)) (live_tets (drop (c.requires.before.made i) (c.slots-slots.ensures.slots i))))) in
    let is = c.deref.ensures.value ∙ c.requires.before.near in
    let dead : c.largest_dead.result ≡ largest (map (energy_at v.parts.points) (dead_tets v.parts.slots (numbers_of (may_go c.args.attempt) 0 (start_of v).slots))) =
    c.largest_dead.ensures ∙ (λ i. largest (map (energy_at (c.slots-slots.ensures.points i)) (dead_tets (c.slots-slots.ensures.slots i) (is i)))) in
    passes_more (setting c.args.env.now c.args.e v.side) (mesh_in (start_of v)) c.args.attempt why.Worse c.requires.passed
    (passes-Worse c.args.env.now c.args.e c.args.attempt v c.requires.made (let l = c.if-largest_new-largest_dead.true in omega (arith, new, dead, l)))

pub returns-else-largest_new-largest_dead : goal.returns-else-largest_new-largest_dead
returns-else-largest_new-largest_dead c =
    let v = c.args.store.now in
    let new : c.largest_new.result ≡ largest (map (energy_at v.parts.points) (live_tets (drop (length (start_of v).slots) v.parts.slots))) =
    c.largest_new.ensures ∙ (λ i. largest (map (energy_at (c.slots-slots.ensures.points i)) (live_tets (drop (c.requires.before.made i) (c.slots-slots.ensures.slots i))))) in
    let is = c.deref.ensures.value ∙ c.requires.before.near in
    let dead : c.largest_dead.result ≡ largest (map (energy_at v.parts.points) (dead_tets v.parts.slots (numbers_of (may_go c.args.attempt) 0 (start_of v).slots))) =
    c.largest_dead.ensures ∙ (λ i. largest (map (energy_at (c.slots-slots.ensures.points i)) (dead_tets (c.slots-slots.ensures.slots i) (is i)))) in
    refused (setting c.args.env.now c.args.e v.side) (mesh_in (start_of v)) c.args.attempt why.Worse c.requires.passed
    (λ w. let b = worse-passed c.args.env.now c.args.e c.args.attempt v c.requires.made w in let l = c.if-largest_new-largest_dead.false in omega (arith, new, dead, l, b))
