use Rattle.std.proofs.Common.{◌≡◌, ◌∙◌, ◌<◌, ℕ, List, [], refl, IfOk, length, map, ap, subst}
use Rattle.std.specs.List.{flat_map}
use Rattle.std.proofs.lemmas.List.Elements.{All-from_recursion}
use Rattle.grid.specs.Views.{corners_of}
use Rattle.mesh_types.specs.Refines.{is_touched, sub_all}
use Rattle.tet_slots.specs.declared.slot.Slot.{Slot}
use Rattle.tet_slots.specs.Searches.{numbers_of}
use Rattle.mesh_store.specs.Changes.{is_split, slot_pieces}
use Rattle.mesh_store.specs.Exchanges.{CanKill, tet_in}
use Rattle.mesh_store.specs.Parts.{StoreView}
use Rattle.mesh_store.proofs.Exchanged.{CanKill-there}
use Rattle.mesh_store.proofs.Killing.{tets-numbers}
use Rattle.mesh_store.proofs.Splits.{split-can_kill}
use Rattle.mesh_store.proofs.store.Store.pieces.Goals as goal
use Rattle.mesh_store.proofs.store.Store.pieces.Goals.{After-deref}

slots-are : (c : After-deref) → c.self.inside.slots.slots ≡ c.args.self.now.parts.slots
slots-are c = ap (λ (v : StoreView). v.parts.slots) c.self.view_is

gone-are : (c : After-deref) → c.deref.result.now ≡ numbers_of (is_split c.args.cuts.now) 0 c.self.inside.slots.slots
gone-are c = c.deref.ensures.value ∙ c.in_ok-gone.ensures

pub tet_pieces-requires-clause-there : goal.tet_pieces-requires-clause-there
tet_pieces-requires-clause-there c =
    let slots = c.self.inside.slots.slots in
    let can : CanKill c.deref.result.now slots = rw (gone-are (goal.at.tet_pieces-requires-clause-there c).After-deref) (split-can_kill c.args.cuts.now slots) in
    All-from_recursion (λ i. i < length slots) c.deref.result.now (CanKill-there c.deref.result.now slots can)

pub returns : goal.returns
returns c =
    let h = (goal.at.returns c).After-deref in
    let slots = c.args.self.now.parts.slots in
    let cuts = c.args.cuts.now in
    let count : c.points.result ≡ length c.args.self.now.parts.points = c.points.ensures.count ∙ ap (λ (v : StoreView). length v.parts.points) c.self.view_is in
    let is : flat_map (sub_all c.points.result cuts) (map (tet_in c.self.inside.slots.slots) c.deref.result.now) ≡ slot_pieces cuts (length c.args.self.now.parts.points) slots =
    ap (λ (ns : List ℕ). flat_map (sub_all c.points.result cuts) (map (tet_in c.self.inside.slots.slots) ns)) (gone-are h)
    ∙ (ap (flat_map (sub_all c.points.result cuts)) (tets-numbers (is_split cuts) (is_touched cuts) (λ s. refl) [] c.self.inside.slots.slots)
    ∙ ((λ j. slot_pieces cuts (count j) c.self.inside.slots.slots) ∙ ap (λ (ss : List Slot). slot_pieces cuts (length c.args.self.now.parts.points) ss) (slots-are h))) in
    subst (λ (xs : List (List ℕ)). IfOk c.tet_pieces.result (λ w. corners_of w.items ≡ xs)) is c.tet_pieces.ensures
