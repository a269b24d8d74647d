use Rattle.std.proofs.Common.{◌≡◌, ◌∙◌, ◌<◌, ℕ, List, [], ◌∷◌, length, ap, subst, sym, arith, zero, suc, drop, false, true, nat_eq}
use Rattle.std.proofs.lemmas.Bool.{eqb-true, true≢false}
use Rattle.std.specs.List.{flat_map, AllByRecursion as Each}
use Rattle.std.proofs.lemmas.List.Elements.{All-from_recursion}
use Rattle.grid.specs.declared.shapes.Tet.{Tet}
use Rattle.grid.specs.Simplices.{IsTet}
use Rattle.mesh_types.specs.Results.{first_outside}
use Rattle.tet_slots.specs.Searches.{numbers_of, has_edge}
use Rattle.mesh_store.specs.Parts.{StoreView, mesh_in}
use Rattle.mesh_store.specs.Sound.{IsSoundStore}
use Rattle.mesh_store.specs.Changes.{AddedAreLive, IsGrown}
use Rattle.mesh_store.specs.Exchanges.{CanKill, exchanged, tet_in}
use Rattle.mesh_store.proofs.Added.{added-exchanged, none-added}
use Rattle.mesh_store.proofs.Killing.{grown-exchanged}
use Rattle.mesh_store.proofs.Exchanged.{CanKill-there}
use Rattle.mesh_store.proofs.PieceLemmas.{All-unmap}
use Rattle.mesh_store.proofs.SwapMeshes.{IsHinge, split-first, hinge-none, hinge-unchanged, hinge-corners, hinge-mesh, hinge-beyond, edge-can_kill}
use Rattle.mesh_store.proofs.store.Store.swap32_open.Goals as goal
use Rattle.mesh_store.proofs.store.Store.swap32_open.Goals.{In_ok-having2, After-first_outside}

some-of : (n m : ℕ) → false ≡ nat_eq n 0 → n ≡ m → 0 < m
some-of zero m e f = absurd (true≢false (sym e))
some-of (suc n) m e f = omega arith

none-of : (n m : ℕ) → true ≡ nat_eq n 0 → n ≡ m → m ≡ 0
none-of zero m e f = sym f
none-of (suc n) m e f = let z = eqb-true (suc n) 0 (sym e) in absurd (omega (arith, z))

slots-are : (c : In_ok-having2) → c.self.inside.slots.slots ≡ c.args.self.now.parts.slots
slots-are c = ap (λ (v : StoreView). v.parts.slots) c.self.view_is

gone-is : (c : In_ok-having2) → c.having2.new.into.items ≡ numbers_of (has_edge c.args.u c.args.v) 0 c.args.self.now.parts.slots
gone-is c = c.in_ok-having2.ensures ∙ ap (λ (v : StoreView). numbers_of (has_edge c.args.u c.args.v) 0 v.parts.slots) c.self.view_is

sound : (c : In_ok-having2) → IsSoundStore c.args.self.now.side c.args.self.now.parts
sound c = subst (λ (v : StoreView). IsSoundStore v.side v.parts) c.self.view_is c.self.invariant.sound

there : (c : In_ok-having2) (is : List ℕ) → is ≡ c.having2.new.into.items → Each (λ i. i < length c.self.inside.slots.slots) is
there c is e =
    let can : CanKill is c.self.inside.slots.slots = rw (e, gone-is c, slots-are c) (edge-can_kill c.args.u c.args.v c.args.self.now.parts.slots) in
    CanKill-there is c.self.inside.slots.slots can

pub first_outside-requires : goal.first_outside-requires
first_outside-requires c = All-from_recursion (λ i. i < length c.self.inside.slots.slots) c.deref.result.now (there (goal.at.first_outside-requires c).In_ok-having2 c.deref.result.now c.deref.ensures.value)

pub tet-x-requires : goal.tet-x-requires
tet-x-requires c =
    let h = (goal.at.tet-x-requires c).In_ok-having2 in
    let some : 0 < length c.having2.new.into.items = some-of c.having2.new.into.len (length c.having2.new.into.items) c.if-is_empty.ensures c.having2.new.into.ok.0 in
    let e = split-first c.having2.new.into.items c.index.result.now some c.index.ensures in
    let all = there h (c.index.result.now ∷ drop 1 c.having2.new.into.items) (sym e) in
    all.0

-- the first corner outside x, and the first slot
hinge : (c : After-first_outside) → IsHinge c.args.u c.args.v c.args.self.now.parts c.having2.new.into.items c.index.result.now c.tet-x.result.0 c.first_outside.result
hinge c = record {
  numbers = c.in_ok-having2.ensures ∙ ap (λ (v : StoreView). numbers_of (has_edge c.args.u c.args.v) 0 v.parts.slots) c.self.view_is;
  some = some-of c.having2.new.into.len (length c.having2.new.into.items) c.if-is_empty.ensures c.having2.new.into.ok.0;
  first = c.index.ensures;
  tet = ap (λ (t : Tet). t.0) c.tet-x.ensures.value ∙ ap (λ (v : StoreView). tet_in v.parts.slots c.index.result.now) c.self.view_is;
  outside = c.first_outside.ensures ∙ (ap (λ (is : List ℕ). first_outside c.tet-x.result.0 (flat_map (tet_in c.self.inside.slots.slots) is)) c.deref.ensures.value
      ∙ ap (λ (v : StoreView). first_outside c.tet-x.result.0 (flat_map (tet_in v.parts.slots) c.having2.new.into.items)) c.self.view_is);
}

pub exchange-requires : goal.exchange-requires
exchange-requires c =
    let h = (goal.at.exchange-requires c).In_ok-having2 in
    let k = hinge (goal.at.exchange-requires c).After-first_outside in
    let n = length c.args.self.now.parts.points in
    record {
      «open» = c.requires.«open»;
      can_kill = subst (λ (is : List ℕ). CanKill is c.args.self.now.parts.slots) (sym (c.deref-2.ensures.value ∙ gone-is h)) (edge-can_kill c.args.u c.args.v c.args.self.now.parts.slots);
      corners = All-unmap (IsTet n) (λ (t : Tet). t.0) (c.subst.result ∷ c.subst-2.result ∷ [])
          (All-from_recursion (IsTet n) (c.subst.result.0 ∷ c.subst-2.result.0 ∷ []) (
            subst (IsTet n) (sym c.subst.ensures.corners) (hinge-corners c.args.u c.args.v c.args.self.now.parts c.having2.new.into.items c.index.result.now c.tet-x.result.0 c.first_outside.result k c.args.self.now.side (sound h) c.in-Some.c c.in-Some.is c.args.v),
            (subst (IsTet n) (sym c.subst-2.ensures.corners) (hinge-corners c.args.u c.args.v c.args.self.now.parts c.having2.new.into.items c.index.result.now c.tet-x.result.0 c.first_outside.result k c.args.self.now.side (sound h) c.in-Some.c c.in-Some.is c.args.u), tt),
          ));
      can_take = tt;
      triples = λ k d l. absurd (omega arith);
    }

pub returns-clause-ok : goal.returns-clause-ok
returns-clause-ok c =
    let k = hinge (goal.at.returns-clause-ok c).After-first_outside in
    let p = c.subst.ensures.corners in
    let q = c.subst-2.ensures.corners in
    ap (λ (v : StoreView). mesh_in v.parts) c.in_ok-exchange.ensures.ok
    ∙ ((λ i. mesh_in (exchanged (c.deref-2.ensures.value i) (p i ∷ q i ∷ []) [] [] c.args.self.now.parts))
    ∙ hinge-mesh c.args.u c.args.v c.args.self.now.parts c.having2.new.into.items c.index.result.now c.tet-x.result.0 c.first_outside.result k c.in-Some.c c.in-Some.is)

pub returns-clause-grown : goal.returns-clause-grown
returns-clause-grown c =
    subst (λ (v : StoreView). IsGrown c.args.self.now.parts v.parts) (sym c.in_ok-exchange.ensures.ok)
    (grown-exchanged c.deref-2.result.now (c.subst.result.0 ∷ c.subst-2.result.0 ∷ []) [] [] c.args.self.now.parts)

pub returns-clause-added : goal.returns-clause-added
returns-clause-added c =
    subst (λ (v : StoreView). AddedAreLive c.args.self.now.parts v.parts) (sym c.in_ok-exchange.ensures.ok)
    (added-exchanged c.deref-2.result.now (c.subst.result.0 ∷ c.subst-2.result.0 ∷ []) [] [] c.args.self.now.parts)

pub returns-then-is_empty-clause-added : goal.returns-then-is_empty-clause-added
returns-then-is_empty-clause-added c = none-added c.args.self.now.parts

pub returns-in_default-clause-added : goal.returns-in_default-clause-added
returns-in_default-clause-added c = none-added c.args.self.now.parts

pub returns-then-is_empty-clause-ok : goal.returns-then-is_empty-clause-ok
returns-then-is_empty-clause-ok c =
    let none : length c.having2.new.into.items ≡ 0 = none-of c.having2.new.into.len (length c.having2.new.into.items) c.if-is_empty.ensures c.having2.new.into.ok.0 in
    hinge-none c.args.u c.args.v c.args.self.now.parts c.having2.new.into.items (gone-is (goal.at.returns-then-is_empty-clause-ok c).In_ok-having2) none

pub returns-in_default-clause-ok : goal.returns-in_default-clause-ok
returns-in_default-clause-ok c =
    let k = hinge (goal.at.returns-in_default-clause-ok c).After-first_outside in
    hinge-unchanged c.args.u c.args.v c.args.self.now.parts c.having2.new.into.items c.index.result.now c.tet-x.result.0 c.first_outside.result k c.in_default.is

pub returns-in_err-exchange-clause-full : goal.returns-in_err-exchange-clause-full
returns-in_err-exchange-clause-full c = λ is.
    let r = rw is at c.from_residual-in_err-exchange.ensures.1 in
    let k = hinge (goal.at.returns-in_err-exchange-clause-full c).After-first_outside in
    hinge-beyond c.args.u c.args.v c.args.self.now.parts c.having2.new.into.items c.index.result.now c.tet-x.result.0 c.first_outside.result k c.in-Some.c c.in-Some.is (c.in_err-exchange.ensures.full (cc r))
