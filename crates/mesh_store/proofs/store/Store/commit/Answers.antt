use Rattle.std.proofs.Common.{◌≡◌, subst, sym, None, ap, ◌∙◌}
use Rattle.mesh_store.specs.Parts.{StoreView}
use Rattle.mesh_store.specs.Sound.{IsSoundStore}
use Rattle.mesh_store.specs.Store.{parts_now}
use Rattle.mesh_store.proofs.store.Store.commit.Goals as goal
use Rattle.mesh_store.proofs.store.Store.commit.Goals.{After-forget_killed}

parts-stay : (c : After-forget_killed) → parts_now (record c.self.inside { slots = c.forget_killed.new.slots; undo = c.forget_killed.new.undo }) ≡ parts_now c.self.inside
parts-stay c = λ i. record { points = c.forget_killed.ensures.points i; slots = c.forget_killed.ensures.slots i; keys = c.self.inside.tracked }

pub forget_killed-requires : goal.forget_killed-requires
forget_killed-requires c = c.self.invariant.forget

pub invariant_of-self : goal.invariant_of-self
invariant_of-self c = record {
  can = rw c.forget_killed.ensures.none tt;
  leave = rw c.forget_killed.ensures.none tt;
  forget = rw c.forget_killed.ensures.none c.forget_killed.ensures.known;
  none = λ _. c.forget_killed.ensures.none;
  sound = subst (IsSoundStore c.self.inside.side) (sym (parts-stay (goal.at.invariant_of-self c).After-forget_killed)) c.self.invariant.sound;
}

pub returns : goal.returns
returns c =
    let h = (goal.at.returns c).After-forget_killed in
    λ i. record { parts = (parts-stay h ∙ ap (λ (v : StoreView). v.parts) c.self.view_is) i; at_begin = None; side = ap (λ (v : StoreView). v.side) c.self.view_is i }
