use Rattle.std.proofs.Common.{ap, map, refl, ◌∙◌, arith}
use Rattle.std.specs.List.{flat_map}
use Rattle.tet_slots.specs.Searches.{numbers_of as found_numbers}
use Rattle.tet_slots.specs.Slots.{slot_at}
use Rattle.cutting_rule.specs.Section.{section_in}
use Rattle.cutting_rule.proofs.ForCallers.{mapped-step, mapped-end}
use Rattle.cutter.specs.declared.touching.Touched.{Touched}
use Rattle.cutter.specs.Found.{is_touching}
use Rattle.cutter.proofs.Meeting.{live-touching, not-touching}
use Rattle.cutter.proofs.Near.{near-all}
use Rattle.cutter.proofs.TouchedSlots.{known-at, no_touched, tets-touched}
use Rattle.cutter.proofs.SectionPlaces.{far-sections}
use Rattle.cutter.proofs.sections.section_faces.Goals as goal

pub push_section_at-requires-clause-there : goal.push_section_at-requires-clause-there
push_section_at-requires-clause-there c =
    let points = c.args.slots.now.points in
    let t = c.args.triangle.now in
    let near = c.requires.near in
    (known-at points c.args.slots.now.slots t (is_touching points t c.args.near.now.reach.lo c.args.near.now.reach.hi) c.deref-touched-items.result.now (c.deref-touched-items.ensures.value ∙ near.found) c.loop-touched.touched-index no_touched (omega arith)).0

pub push_section_at-requires-clause-touched : goal.push_section_at-requires-clause-touched
push_section_at-requires-clause-touched c =
    let points = c.args.slots.now.points in
    let t = c.args.triangle.now in
    let near = c.requires.near in
    (known-at points c.args.slots.now.slots t (is_touching points t c.args.near.now.reach.lo c.args.near.now.reach.hi) c.deref-touched-items.result.now (c.deref-touched-items.ensures.value ∙ near.found) c.loop-touched.touched-index no_touched (omega arith)).1

pub loop-touched-preserved : goal.loop-touched-preserved
loop-touched-preserved c =
    let points = c.args.slots.now.points in
    let slots = c.args.slots.now.slots in
    mapped-step (λ (e : Touched). (slot_at slots e.slot).tet.0) (section_in points c.args.triangle.now) c.deref-touched-items.result.now c.loop-touched.touched-index no_touched _ _ _ _ (omega arith) refl
    c.in_ok-push_section_at.ensures c.loop-touched.invariant

pub returns : goal.returns
returns c =
    let near = c.requires.near in
    let lo = c.args.near.now.reach.lo in
    let hi = c.args.near.now.reach.hi in
    let points = c.args.slots.now.points in
    let slots = c.args.slots.now.slots in
    let t = c.args.triangle.now in
    let f = section_in points t in
    let g = λ (e : Touched). (slot_at slots e.slot).tet.0 in
    let items = c.deref-touched-items.result.now in
    let ns = found_numbers (is_touching points t lo hi) 0 slots in
    mapped-end g f items c.loop-touched.touched-index _ _ (omega arith) c.loop-touched.invariant
    ∙ (ap (λ es. flat_map f (map g es)) (c.deref-touched-items.ensures.value ∙ near.found)
    ∙ (ap (flat_map f) (tets-touched points slots t ns)
    ∙ near-all f (is_touching points t lo hi) (λ s m. live-touching points t lo hi s m) (λ s live m. far-sections points t lo hi s.tet.0 c.requires.in_box near.reach (not-touching points t lo hi s live m)) slots))
