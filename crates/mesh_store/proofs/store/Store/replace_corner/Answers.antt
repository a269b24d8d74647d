use Rattle.std.proofs.Common.{◌≡◌, ◌∙◌, ℕ, List, length, map, ap, subst, sym, ◌<◌, arith}
use Rattle.std.proofs.lemmas.List.{length-map}
use Rattle.std.proofs.lemmas.List.Elements.{All-from_recursion}
use Rattle.grid.specs.declared.shapes.Face.{Face}
use Rattle.grid.specs.declared.shapes.Tet.{Tet}
use Rattle.grid.specs.Meshes.{IsTriple}
use Rattle.grid.specs.Simplices.{IsTet, rising}
use Rattle.grid.specs.Views.{corners_of, triples_of}
use Rattle.tet_slots.specs.declared.slot.Slot.{Slot}
use Rattle.tet_slots.specs.Searches.{numbers_of, has_corner}
use Rattle.mesh_store.specs.Parts.{StoreView, tracked_in}
use Rattle.mesh_store.specs.Sound.{IsSoundStore}
use Rattle.mesh_store.specs.Changes.{IsGrown}
use Rattle.mesh_store.specs.Exchanges.{CanKill, IsMoved, at_corner, put_in, tet_in}
use Rattle.mesh_store.proofs.Killing.{grown-exchanged}
use Rattle.mesh_store.proofs.Exchanged.{CanKill-there}
use Rattle.mesh_store.proofs.MovePlans.{IsPlanned, can_kill-gone, plan-can_kill, plan-corners, plan-can_take, plan-triples, plan-moved, plan-fresh}
use Rattle.mesh_store.proofs.PieceLemmas.{All-unmap}
use Rattle.mesh_store.proofs.store.Store.replace_corner.Goals as goal
use Rattle.mesh_store.proofs.store.Store.replace_corner.Goals.{In_ok-having, After-deref-6}

slots-are : (c : In_ok-having) → c.self.inside.slots.slots ≡ c.args.self.now.parts.slots
slots-are c = ap (λ (v : StoreView). v.parts.slots) c.self.view_is

gone-are : (c : In_ok-having) → c.having.new.into.items ≡ numbers_of (has_corner c.args.u) 0 c.args.self.now.parts.slots
gone-are c = c.in_ok-having.ensures ∙ ap (numbers_of (has_corner c.args.u) 0) (slots-are c)

sound : (c : In_ok-having) → IsSoundStore c.args.self.now.side c.args.self.now.parts
sound c = subst (λ (v : StoreView). IsSoundStore v.side v.parts) c.self.view_is c.self.invariant.sound

pub moved_tets-requires : goal.moved_tets-requires
moved_tets-requires c =
    let h = (goal.at.moved_tets-requires c).In_ok-having in
    let can : CanKill c.deref.result.now c.self.inside.slots.slots = rw (c.deref.ensures.value, gone-are h, slots-are h) (can_kill-gone c.args.u c.args.v c.args.self.now.parts) in
    All-from_recursion (λ i. i < length c.self.inside.slots.slots) c.deref.result.now (CanKill-there c.deref.result.now c.self.inside.slots.slots can)

planned : (c : After-deref-6) → IsPlanned c.args.u c.args.v c.args.self.now.parts c.deref-3.result.now (corners_of c.deref-4.result.now) (triples_of c.deref-5.result.now) (triples_of c.deref-6.result.now)
planned c =
    let h = (goal.at.exchange-requires c).In_ok-having in
    record {
      gone_are = c.deref-3.ensures.value ∙ gone-are h;
      fresh_are = ap corners_of c.deref-4.ensures.value
          ∙ (c.in_ok-fresh.ensures
          ∙ (ap (λ (ss : List Slot). put_in c.args.u c.args.v (map (tet_in ss) c.deref.result.now)) (slots-are h)
          ∙ ap (λ (is : List ℕ). put_in c.args.u c.args.v (map (tet_in c.args.self.now.parts.slots) is)) (c.deref.ensures.value ∙ sym c.deref-3.ensures.value)));
      out_are = ap triples_of c.deref-5.ensures.value ∙ (c.in_ok-out.ensures ∙ ap (λ (v : StoreView). at_corner c.args.u (tracked_in v.parts.keys)) c.self.view_is);
      into_are = ap triples_of c.deref-6.ensures.value
          ∙ (c.in_ok-into.ensures ∙ ap (λ (fs : List Face). map rising (put_in c.args.u c.args.v (triples_of fs))) (c.deref-2.ensures.value ∙ sym c.deref-5.ensures.value));
    }

pub exchange-requires : goal.exchange-requires
exchange-requires c =
    let h = (goal.at.exchange-requires c).In_ok-having in
    let m = c.args.self.now.parts in
    let n = length c.args.self.now.parts.points in
    let fresh = corners_of c.deref-4.result.now in
    let out = triples_of c.deref-5.result.now in
    let into = triples_of c.deref-6.result.now in
    record {
      «open» = c.requires.«open»;
      can_kill = plan-can_kill c.args.u c.args.v m c.args.self.now.side (sound h) c.requires.there c.deref-3.result.now fresh out into (planned c);
      corners = All-unmap (IsTet n) (λ (t : Tet). t.0) c.deref-4.result.now (plan-corners c.args.u c.args.v m c.args.self.now.side (sound h) c.requires.there c.deref-3.result.now fresh out into (planned c));
      can_take = plan-can_take c.args.u c.args.v m c.args.self.now.side (sound h) c.requires.there c.deref-3.result.now fresh out into (planned c);
      triples = All-unmap (IsTriple n) (λ (f : Face). f.0) c.deref-6.result.now (plan-triples c.args.u c.args.v m c.args.self.now.side (sound h) c.requires.there c.deref-3.result.now fresh out into (planned c));
    }

pub returns-clause-ok : goal.returns-clause-ok
returns-clause-ok c =
    let d = (goal.at.returns-clause-ok c).After-deref-6 in
    let h = (goal.at.returns-clause-ok c).In_ok-having in
    subst (λ (v : StoreView). IsMoved c.args.u c.args.v c.args.self.now.parts v.parts) (sym c.in_ok-exchange.ensures.ok)
    (plan-moved c.args.u c.args.v c.args.self.now.parts c.args.self.now.side (sound h) c.requires.there c.deref-3.result.now (corners_of c.deref-4.result.now) (triples_of c.deref-5.result.now) (triples_of c.deref-6.result.now) (planned d))

pub returns-clause-grown : goal.returns-clause-grown
returns-clause-grown c =
    subst (λ (v : StoreView). IsGrown c.args.self.now.parts v.parts) (sym c.in_ok-exchange.ensures.ok)
    (grown-exchanged c.deref-3.result.now (corners_of c.deref-4.result.now) (triples_of c.deref-5.result.now) (triples_of c.deref-6.result.now) c.args.self.now.parts)

pub returns-in_err-exchange-clause-full : goal.returns-in_err-exchange-clause-full
returns-in_err-exchange-clause-full c = λ is.
    let r = rw is at c.from_residual-in_err-exchange.ensures.1 in
    let d = (goal.at.returns-in_err-exchange-clause-full c).After-deref-6 in
    let h = (goal.at.returns-in_err-exchange-clause-full c).In_ok-having in
    let more = c.in_err-exchange.ensures.full (cc r) in
    let fresh = plan-fresh c.args.u c.args.v c.args.self.now.parts c.args.self.now.side (sound h) c.requires.there c.deref-3.result.now (corners_of c.deref-4.result.now) (triples_of c.deref-5.result.now) (triples_of c.deref-6.result.now) (planned d) in
    omega (arith, more, ap length fresh, length-map c.deref-4.result.now (λ (t : Tet). t.0))
