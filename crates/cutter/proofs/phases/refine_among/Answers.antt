use Rattle.std.proofs.Common.{◌≡◌, ◌∙◌, ◌++◌, ap, arith, drop, length, map}
use Rattle.std.specs.List.{filter}
use Rattle.tet_slots.specs.Searches.{numbers_of}
use Rattle.tet_slots.specs.Slots.{slot_at}
use Rattle.cutter.specs.Found.{is_touching, touched_at}
use Rattle.cutter.specs.declared.touching.Touched.{Touched}
use Rattle.cutter.proofs.TouchedSlots.{known-at, touching-grown}
use Rattle.cutter.proofs.phases.refine_among.Goals as goal

pub touching_after-requires-clause-there : goal.touching_after-requires-clause-there
touching_after-requires-clause-there c = λ k d lt.
    let old = c.args.store.now.parts in
    let reach = c.args.near.now.reach in
    let t = c.args.triangle.now in
    let there = (known-at old.points old.slots t (is_touching old.points t reach.lo reach.hi) c.deref.result.now (c.deref.ensures.value ∙ c.requires.near.found) k d lt).0 in
    let longer = c.in_ok-count.ensures.grown.longer in
    let many : length c.slots-2.result.now.slots ≡ length c.cut_edges.new.store.parts.slots = ap length c.slots-2.ensures.slots in
    omega (arith, there, longer, many)

pub returns-in-Ok-clause-near : goal.returns-in-Ok-clause-near
returns-in-Ok-clause-near c =
    let old = c.args.store.now.parts in
    let new = c.cut_edges.new.store.parts in
    let t = c.args.triangle.now in
    let lo = c.args.near.now.reach.lo in
    let hi = c.args.near.now.reach.hi in
    let first : c.made-first.result ≡ length old.slots = c.made-first.ensures.count ∙ ap length c.slots.ensures.slots in
    touching-grown t old new c.args.near.now c.in-Ok.slots c.in_ok-count.ensures.grown c.slots.ensures.sound.tets_are c.requires.near
    (c.in-Ok.ensures
    ∙ (λ j.
    filter (λ (e : Touched). (slot_at (c.slots-2.ensures.slots j) e.slot).live) (c.deref.ensures.value j)
    ++ map (touched_at (c.slots-2.ensures.points j) (c.slots-2.ensures.slots j) t) (numbers_of (is_touching (c.slots-2.ensures.points j) t lo hi) (first j) (drop (first j) (c.slots-2.ensures.slots j)))))
