use Rattle.std.proofs.Common.{◌≡◌, ◌∙◌, ◌<◌, ◌+◌, ◌^◌, ℕ, List, length, map, filter, ap, subst, sym, arith}
use Rattle.std.specs.List.{flat_map}
use Rattle.std.proofs.lemmas.List.{length-map}
use Rattle.std.proofs.lemmas.List.Elements.{All-from_recursion}
use Rattle.grid.specs.declared.shapes.Face.{Face}
use Rattle.grid.specs.declared.shapes.Tet.{Tet}
use Rattle.grid.specs.Meshes.{IsTriple}
use Rattle.grid.specs.Simplices.{IsTet, rising}
use Rattle.grid.specs.Views.{corners_of, triples_of}
use Rattle.mesh_types.specs.Refines.{sub_all, is_touched}
use Rattle.tet_slots.specs.declared.slot.Slot.{Slot}
use Rattle.tet_slots.specs.Searches.{numbers_of}
use Rattle.mesh_store.specs.Changes.{is_split, IsSplit}
use Rattle.mesh_store.specs.Exchanges.{CanKill, tet_in}
use Rattle.mesh_store.specs.Parts.{StoreView, tracked_in}
use Rattle.mesh_store.specs.Sound.{IsSoundStore}
use Rattle.mesh_store.proofs.Exchanged.{CanKill-there}
use Rattle.mesh_store.proofs.LiveSlots.{split-length}
use Rattle.mesh_store.proofs.PieceLemmas.{All-unmap}
use Rattle.mesh_store.proofs.Splits.{IsPlannedSplit, split-can_kill, split-fresh, split-corners, split-can_take, split-triples, split-parts}
use Rattle.mesh_store.proofs.store.Store.split_touched.Goals as goal
use Rattle.mesh_store.proofs.store.Store.split_touched.Goals.{In_ok-gone, After-deref-6}

slots-are : (c : In_ok-gone) → c.self.inside.slots.slots ≡ c.args.self.now.parts.slots
slots-are c = ap (λ (v : StoreView). v.parts.slots) c.self.view_is

gone-are : (c : In_ok-gone) → c.in_ok-gone.gone.items ≡ numbers_of (is_split c.args.cuts.now) 0 c.args.self.now.parts.slots
gone-are c = c.in_ok-gone.ensures ∙ ap (numbers_of (is_split c.args.cuts.now) 0) (slots-are c)

sound : (c : In_ok-gone) → IsSoundStore c.args.self.now.side c.args.self.now.parts
sound c = subst (λ (v : StoreView). IsSoundStore v.side v.parts) c.self.view_is c.self.invariant.sound

room : (c : In_ok-gone) → c.args.first + length c.args.cuts.now < 2 ^ 32
room c = let few = (sound c).points_few in omega (arith, few, c.requires.numbered)

pub tet_pieces-requires : goal.tet_pieces-requires
tet_pieces-requires c =
    let h = (goal.at.tet_pieces-requires c).In_ok-gone in
    let can : CanKill c.deref.result.now c.self.inside.slots.slots = rw (c.deref.ensures.value, gone-are h, slots-are h) (split-can_kill c.args.cuts.now c.args.self.now.parts.slots) in
    record { there = All-from_recursion (λ i. i < length c.self.inside.slots.slots) c.deref.result.now (CanKill-there c.deref.result.now c.self.inside.slots.slots can); tets = rw (slots-are h) c.requires.tets; cuts = c.requires.cuts; room = room h }

pub face_pieces-requires : goal.face_pieces-requires
face_pieces-requires c = room (goal.at.face_pieces-requires c).In_ok-gone

planned : (c : After-deref-6) → IsPlannedSplit c.args.cuts.now c.args.first c.args.self.now.parts c.deref-3.result.now (corners_of c.deref-4.result.now) (triples_of c.deref-5.result.now) (triples_of c.deref-6.result.now)
planned c =
    let h = (goal.at.exchange-requires c).In_ok-gone in
    let f : List ℕ → List (List ℕ) = sub_all c.args.first c.args.cuts.now in
    record {
      gone_are = c.deref-3.ensures.value ∙ gone-are h;
      fresh_are = ap corners_of c.deref-4.ensures.value
          ∙ (c.in_ok-fresh.ensures
          ∙ (ap (λ (ss : List Slot). flat_map f (map (tet_in ss) c.deref.result.now)) (slots-are h)
          ∙ ap (λ (is : List ℕ). flat_map f (map (tet_in c.args.self.now.parts.slots) is)) (c.deref.ensures.value ∙ sym c.deref-3.ensures.value)));
      out_are = ap triples_of c.deref-5.ensures.value ∙ (c.in_ok-out.ensures ∙ ap (λ (v : StoreView). filter (is_touched c.args.cuts.now) (tracked_in v.parts.keys)) c.self.view_is);
      into_are = ap triples_of c.deref-6.ensures.value
          ∙ (c.in_ok-into.ensures ∙ ap (λ (fs : List Face). map rising (flat_map f (triples_of fs))) (c.deref-2.ensures.value ∙ sym c.deref-5.ensures.value));
    }

pub exchange-requires : goal.exchange-requires
exchange-requires c =
    let h = (goal.at.exchange-requires c).In_ok-gone in
    let m = c.args.self.now.parts in
    let n = length m.points in
    let fresh = corners_of c.deref-4.result.now in
    let out = triples_of c.deref-5.result.now in
    let into = triples_of c.deref-6.result.now in
    record {
      «open» = c.requires.«open»;
      can_kill = subst (λ (is : List ℕ). CanKill is m.slots) (sym (planned c).gone_are) (split-can_kill c.args.cuts.now m.slots);
      corners = All-unmap (IsTet n) (λ (t : Tet). t.0) c.deref-4.result.now (split-corners c.args.cuts.now c.args.first m c.deref-3.result.now fresh out into (planned c) c.requires.numbered c.requires.tets);
      can_take = split-can_take c.args.cuts.now c.args.first m c.deref-3.result.now fresh out into (planned c) c.args.self.now.side (sound h);
      triples = All-unmap (IsTriple n) (λ (f : Face). f.0) c.deref-6.result.now (split-triples c.args.cuts.now c.args.first m c.deref-3.result.now fresh out into (planned c) c.requires.numbered c.requires.cuts c.requires.triples);
    }

pub returns-clause-ok : goal.returns-clause-ok
returns-clause-ok c =
    let d = (goal.at.returns-clause-ok c).After-deref-6 in
    let h = (goal.at.returns-clause-ok c).In_ok-gone in
    subst (λ (v : StoreView). IsSplit c.args.cuts.now c.args.first c.args.self.now.parts v.parts) (sym c.in_ok-exchange.ensures.ok)
    (split-parts c.args.cuts.now c.args.first c.args.self.now.parts c.deref-3.result.now (corners_of c.deref-4.result.now) (triples_of c.deref-5.result.now) (triples_of c.deref-6.result.now) (planned d) c.args.self.now.side (sound h) c.requires.triples)

pub returns-in_err-exchange-clause-full : goal.returns-in_err-exchange-clause-full
returns-in_err-exchange-clause-full c = λ is.
    let r = rw is at c.from_residual-in_err-exchange.ensures.1 in
    let d = (goal.at.returns-in_err-exchange-clause-full c).After-deref-6 in
    let more = c.in_err-exchange.ensures.full (cc r) in
    let fresh = split-fresh c.args.cuts.now c.args.first c.args.self.now.parts c.deref-3.result.now (corners_of c.deref-4.result.now) (triples_of c.deref-5.result.now) (triples_of c.deref-6.result.now) (planned d) in
    omega (arith, more, ap length fresh, length-map c.deref-4.result.now (λ (t : Tet). t.0), split-length c.args.cuts.now c.args.first c.args.self.now.parts.slots)
