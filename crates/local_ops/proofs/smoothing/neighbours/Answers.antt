use Rattle.std.proofs.Common.{◌≡◌, ◌∙◌, ◌<◌, List, All, length, eqb, ap, sym, subst}
use Rattle.std.proofs.lemmas.List.Filters.{dedup_is}
use Rattle.std.specs.List.{flat_map}
use Rattle.tet_slots.specs.declared.slot.Slot.{Slot}
use Rattle.tet_slots.specs.Searches.{has_corner, numbers_of}
use Rattle.mesh_store.specs.Parts.{mesh_in}
use Rattle.mesh_store.proofs.ForCallers.{well_formed}
use Rattle.local_ops.specs.Measures.{corners_at}
use Rattle.local_ops.specs.Smoothing.{corners_but}
use Rattle.local_ops.proofs.NearSlots.{numbers-there}
use Rattle.local_ops.proofs.Neighbours.{neighbours-are}
use Rattle.local_ops.proofs.smoothing.neighbours.Goals as goal

pub corners_but-requires : goal.corners_but-requires
corners_but-requires c =
    let slots = c.args.store.now.parts.slots in
    let is : c.deref.result.now ≡ numbers_of (has_corner c.args.u) 0 slots = c.deref.ensures.value ∙ (c.in_ok-having.ensures ∙ ap (numbers_of (has_corner c.args.u) 0) c.slots.ensures.slots) in
    subst (λ (ss : List Slot). All (λ i. i < length ss) c.deref.result.now) (sym c.slots-2.ensures.slots)
    (subst (All (λ i. i < length slots)) (sym is) (numbers-there (has_corner c.args.u) slots))

pub returns : goal.returns
returns c =
    let v = c.args.store.now in
    let slots = v.parts.slots in
    let is : c.deref.result.now ≡ numbers_of (has_corner c.args.u) 0 slots = c.deref.ensures.value ∙ (c.in_ok-having.ensures ∙ ap (numbers_of (has_corner c.args.u) 0) c.slots.ensures.slots) in
    let listed : c.in_ok-around.around.items ≡ flat_map (λ i. corners_but c.args.u (corners_at slots i)) (numbers_of (has_corner c.args.u) 0 slots) =
    c.in_ok-around.ensures ∙ (λ j. flat_map (λ i. corners_but c.args.u (corners_at (c.slots-2.ensures.slots j) i)) (is j)) in
    dedup_is eqb c.sort_unstable.new.self.items c.dedup.new.self.items c.dedup.ensures.filtered
    ∙ neighbours-are (mesh_in v.parts) c.args.u (well_formed v.side v.parts c.slots.ensures.sound) slots (λ i. (mesh_in v.parts).tets) c.in_ok-around.around.items c.sort_unstable.new.self.items listed c.sort_unstable.ensures.permutation c.sort_unstable.ensures.sorted
