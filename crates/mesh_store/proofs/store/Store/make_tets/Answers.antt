use Rattle.std.proofs.Common.{◌≡◌, ap, map, take, length, arith, length-append, length-take}
use Rattle.std.proofs.lemmas.List.{length-map}
use Rattle.grid.specs.declared.shapes.Tet.{Tet}
use Rattle.grid.specs.Views.{corners_of}
use Rattle.mesh_store.specs.Parts.{StoreView, Parts, live_slot}
use Rattle.mesh_store.proofs.store.Store.make_tets.Goals as goal

pub returns-then-made-ge-MOST_MADE-clause-full : goal.returns-then-made-ge-MOST_MADE-clause-full
returns-then-made-ge-MOST_MADE-clause-full c =
    let v : length c.self.inside.slots.slots ≡ length c.loop-tet.self.parts.slots = ap (λ (v : StoreView). length v.parts.slots) c.self.view_is in
    let now = ap (λ (m : Parts). length m.slots) c.loop-tet.invariant.parts in
    let done = take c.loop-tet.tet-index c.args.tets.now in
    λ _. omega (arith, v, now, length-append c.args.self.now.parts.slots (map live_slot (corners_of done)), length-map (corners_of done) live_slot, length-map done (λ (t : Tet). t.0), length-take c.loop-tet.tet-index c.args.tets.now, c.loop-tet-test.true)
