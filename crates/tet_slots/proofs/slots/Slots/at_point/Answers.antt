use Rattle.std.proofs.Common.{◌<◌, ◌≤◌, [], length, refl, arith}
use Rattle.std.specs.List.{filter}
use Rattle.tet_slots.specs.Slots.{slot_at}
use Rattle.tet_slots.proofs.KeptLemmas.{having-below, having-found, having-none}
use Rattle.tet_slots.proofs.slots.Slots.at_point.Goals as goal

pub returns-then-u-len-clause-live : goal.returns-then-u-len-clause-live
returns-then-u-len-clause-live c =
    let past : length c.self.inside.lists.items ≤ c.args.u = omega (arith, c.self.inside.lists.ok.0) in
    rw (← c.self.view_is) (having-none c.self.inside.slots.items c.self.inside.forgotten.items c.self.inside.lists.items c.args.u past c.self.invariant.kept.listed c.self.invariant.kept.sound.kept)

pub returns-clause-there : goal.returns-clause-there
returns-clause-there c =
    let there : c.args.u < length c.self.inside.lists.items = omega (arith, c.self.inside.lists.ok.0) in
    rw (← c.self.view_is)
    (having-below c.self.inside.slots.items c.self.inside.slots.items c.self.inside.forgotten.items c.self.inside.lists.items c.args.u c.index.result.now c.as_slice.result.now there c.self.invariant.kept.listed refl c.index.ensures c.as_slice.ensures)

pub returns-clause-live : goal.returns-clause-live
returns-clause-live c =
    let there : c.args.u < length c.self.inside.lists.items = omega (arith, c.self.inside.lists.ok.0) in
    rw (← c.self.view_is)
    (having-found c.self.inside.slots.items c.self.inside.slots.items c.self.inside.forgotten.items c.self.inside.lists.items c.args.u c.index.result.now c.as_slice.result.now [] (filter (λ i. (slot_at c.self.inside.slots.items i).live) c.as_slice.result.now) there c.self.invariant.kept.listed c.self.invariant.kept.sound.kept refl c.index.ensures c.as_slice.ensures refl refl)
