use Rattle.std.proofs.Common.{◌≡◌, ◌∙◌, ◌<◌, ℕ, Bool, All, List, [], ◌∷◌, Some, length, ap, subst, sym, arith}
use Rattle.std.specs.List.{find}
use Rattle.std.proofs.lemmas.List.Elements.{All-from_recursion}
use Rattle.grid.specs.declared.shapes.Tet.{Tet}
use Rattle.grid.specs.Simplices.{IsTet, replaced}
use Rattle.mesh_types.specs.Results.{first_outside, is_across}
use Rattle.tet_slots.specs.declared.slot.Slot.{Slot}
use Rattle.tet_slots.specs.Searches.{numbers_of, has_edge}
use Rattle.mesh_store.specs.Parts.{StoreView, mesh_in}
use Rattle.mesh_store.specs.Sound.{IsSoundStore}
use Rattle.mesh_store.specs.Changes.{AddedAreLive, IsGrown}
use Rattle.mesh_store.specs.Exchanges.{CanKill, exchanged, has_either, tet_in}
use Rattle.mesh_store.proofs.Added.{added-exchanged, none-added}
use Rattle.mesh_store.proofs.Finding.{IsFirst}
use Rattle.mesh_store.proofs.Killing.{grown-exchanged}
use Rattle.mesh_store.proofs.Exchanged.{CanKill-there}
use Rattle.mesh_store.proofs.PieceLemmas.{All-unmap}
use Rattle.mesh_store.proofs.SwapMeshes.{edge-can_kill, face-first, face-second, face-none, face-alone, face-closed, face-can_kill, face-corners, mesh-face, beyond-face}
use Rattle.mesh_store.proofs.store.Store.swap23_open.Goals as goal
use Rattle.mesh_store.proofs.store.Store.swap23_open.Goals.{In_ok-having2, In-Some, After-tet-x, After-first_across, After-outside_corner, After-subst-3}

slots-are : (c : In_ok-having2) → c.self.inside.slots.slots ≡ c.args.self.now.parts.slots
slots-are c = ap (λ (v : StoreView). v.parts.slots) c.self.view_is

around-is : (c : In_ok-having2) → c.having2.new.into.items ≡ numbers_of (has_edge c.args.a c.args.b) 0 c.args.self.now.parts.slots
around-is c = c.in_ok-having2.ensures ∙ ap (numbers_of (has_edge c.args.a c.args.b) 0) (slots-are c)

sound : (c : In_ok-having2) → IsSoundStore c.args.self.now.side c.args.self.now.parts
sound c = subst (λ (v : StoreView). IsSoundStore v.side v.parts) c.self.view_is c.self.invariant.sound

there : (c : In_ok-having2) (is : List ℕ) → is ≡ c.having2.new.into.items → All (λ i. i < length c.self.inside.slots.slots) is
there c is e =
    let can : CanKill is c.self.inside.slots.slots = rw (e, around-is c, slots-are c) (edge-can_kill c.args.a c.args.b c.args.self.now.parts.slots) in
    All-from_recursion (λ i. i < length c.self.inside.slots.slots) is (CanKill-there is c.self.inside.slots.slots can)

pub first_at_face-requires : goal.first_at_face-requires
first_at_face-requires c = there (goal.at.first_at_face-requires c).In_ok-having2 c.deref.result.now c.deref.ensures.value

pub first_across-requires : goal.first_across-requires
first_across-requires c = there (goal.at.first_across-requires c).In_ok-having2 c.deref-2.result.now c.deref-2.ensures.value

abbrev three-of : ℕ → ℕ → ℕ → ℕ → List ℕ → List (List ℕ)
three-of a b c o x = replaced a o x ∷ replaced b o x ∷ replaced c o x ∷ []

-- a search among the slots at the edge, as the code and as the mesh has them
among-slots : (a b : ℕ) (s m : List Slot) (is ns : List ℕ) (p : List ℕ → Bool) → s ≡ m → is ≡ ns → ns ≡ numbers_of (has_edge a b) 0 s → find (λ j. p (tet_in s j)) is ≡ find (λ j. p (tet_in m j)) (numbers_of (has_edge a b) 0 m)
among-slots a b s m is ns p e f g =
    ap (λ (ks : List ℕ). find (λ j. p (tet_in s j)) ks) (f ∙ g) ∙ ap (λ (ss : List Slot). find (λ j. p (tet_in ss j)) (numbers_of (has_edge a b) 0 ss)) e

first-of : (c : In-Some) → IsFirst (has_either (c.args.a ∷ c.args.b ∷ c.args.c ∷ [])) c.args.self.now.parts.slots c.in-Some.first
first-of c =
    face-first c.args.a c.args.b c.args.c c.args.self.now.parts c.in-Some.first
    (sym (c.in-Some.ensures
    ∙ among-slots c.args.a c.args.b c.self.inside.slots.slots c.args.self.now.parts.slots c.deref.result.now c.having2.new.into.items (has_either (c.args.a ∷ c.args.b ∷ c.args.c ∷ [])) (ap (λ (v : StoreView). v.parts.slots) c.self.view_is) c.deref.ensures.value c.in_ok-having2.ensures))

x-is : (c : After-tet-x) → c.tet-x.result.0 ≡ tet_in c.args.self.now.parts.slots c.in-Some.first
x-is c = ap (λ (t : Tet). t.0) c.tet-x.ensures.value ∙ ap (λ (v : StoreView). tet_in v.parts.slots c.in-Some.first) c.self.view_is

across-is : (c : After-first_across) → c.first_across.result ≡ find (λ j. is_across (c.args.a ∷ c.args.b ∷ c.args.c ∷ []) (tet_in c.args.self.now.parts.slots c.in-Some.first) (tet_in c.args.self.now.parts.slots j)) (numbers_of (has_edge c.args.a c.args.b) 0 c.args.self.now.parts.slots)
across-is c =
    let x : c.tet-x.result.0 ≡ tet_in c.args.self.now.parts.slots c.in-Some.first = ap (λ (t : Tet). t.0) c.tet-x.ensures.value ∙ ap (λ (v : StoreView). tet_in v.parts.slots c.in-Some.first) c.self.view_is in
    c.first_across.ensures
    ∙ (among-slots c.args.a c.args.b c.self.inside.slots.slots c.args.self.now.parts.slots c.deref-2.result.now c.having2.new.into.items (is_across (c.args.a ∷ c.args.b ∷ c.args.c ∷ []) c.tet-x.result.0) (ap (λ (v : StoreView). v.parts.slots) c.self.view_is) c.deref-2.ensures.value c.in_ok-having2.ensures
    ∙ ap (λ (x : List ℕ). find (λ j. is_across (c.args.a ∷ c.args.b ∷ c.args.c ∷ []) x (tet_in c.args.self.now.parts.slots j)) (numbers_of (has_edge c.args.a c.args.b) 0 c.args.self.now.parts.slots)) x)

second-from : (c : After-first_across) (j : ℕ) → c.first_across.result ≡ Some j → IsFirst (is_across (c.args.a ∷ c.args.b ∷ c.args.c ∷ []) (tet_in c.args.self.now.parts.slots c.in-Some.first)) c.args.self.now.parts.slots j
second-from c j e = face-second c.args.a c.args.b c.args.c c.args.self.now.parts (tet_in c.args.self.now.parts.slots c.in-Some.first) j (sym (across-is c) ∙ e)

apex-is : (c : After-outside_corner) → c.outside_corner.result ≡ first_outside (tet_in c.args.self.now.parts.slots c.in-Some.first) (tet_in c.args.self.now.parts.slots c.in-Some-first_across.second)
apex-is c =
    let x : c.tet-x.result.0 ≡ tet_in c.args.self.now.parts.slots c.in-Some.first = ap (λ (t : Tet). t.0) c.tet-x.ensures.value ∙ ap (λ (v : StoreView). tet_in v.parts.slots c.in-Some.first) c.self.view_is in
    c.outside_corner.ensures
    ∙ (ap (λ (x : List ℕ). first_outside x c.tet.result.0) x
    ∙ ap (first_outside (tet_in c.args.self.now.parts.slots c.in-Some.first)) (ap (λ (y : Tet). y.0) c.tet.ensures.value ∙ ap (λ (v : StoreView). tet_in v.parts.slots c.in-Some-first_across.second) c.self.view_is))

fresh-are : (c : After-subst-3) → c.subst.result.0 ∷ c.subst-2.result.0 ∷ c.subst-3.result.0 ∷ [] ≡ three-of c.args.a c.args.b c.args.c c.in-Some-outside_corner.e (tet_in c.args.self.now.parts.slots c.in-Some.first)
fresh-are c =
    let x : c.tet-x.result.0 ≡ tet_in c.args.self.now.parts.slots c.in-Some.first = ap (λ (t : Tet). t.0) c.tet-x.ensures.value ∙ ap (λ (v : StoreView). tet_in v.parts.slots c.in-Some.first) c.self.view_is in
    let p = c.subst.ensures.corners ∙ ap (replaced c.args.a c.in-Some-outside_corner.e) x in
    let q = c.subst-2.ensures.corners ∙ ap (replaced c.args.b c.in-Some-outside_corner.e) x in
    let r = c.subst-3.ensures.corners ∙ ap (replaced c.args.c c.in-Some-outside_corner.e) x in
    λ i. p i ∷ q i ∷ r i ∷ []

pub tet-x-requires : goal.tet-x-requires
tet-x-requires c =
    let h = (goal.at.tet-x-requires c).In_ok-having2 in
    let s = (goal.at.tet-x-requires c).In-Some in
    subst (λ (ss : List Slot). c.in-Some.first < length ss) (sym (slots-are h)) (first-of s).there

pub tet-requires : goal.tet-requires
tet-requires c =
    let h = (goal.at.tet-requires c).In_ok-having2 in
    let g = second-from (goal.at.tet-requires c).After-first_across c.in-Some-first_across.second c.in-Some-first_across.is in
    subst (λ (ss : List Slot). c.in-Some-first_across.second < length ss) (sym (slots-are h)) g.there

pub exchange-requires : goal.exchange-requires
exchange-requires c =
    let h = (goal.at.exchange-requires c).In_ok-having2 in
    let f = first-of (goal.at.exchange-requires c).In-Some in
    let g = second-from (goal.at.exchange-requires c).After-first_across c.in-Some-first_across.second c.in-Some-first_across.is in
    let a = sym (apex-is (goal.at.exchange-requires c).After-outside_corner) ∙ c.in-Some-outside_corner.is in
    let s = fresh-are (goal.at.exchange-requires c).After-subst-3 in
    record {
      «open» = c.requires.«open»;
      can_kill = face-can_kill c.args.a c.args.b c.args.c c.args.self.now.parts c.in-Some.first f c.in-Some-first_across.second g c.in-Some-outside_corner.e a;
      corners = All-unmap (IsTet (length c.args.self.now.parts.points)) (λ (t : Tet). t.0) (c.subst.result ∷ c.subst-2.result ∷ c.subst-3.result ∷ [])
          (subst (All (IsTet (length c.args.self.now.parts.points))) (sym s)
          (All-from_recursion (IsTet (length c.args.self.now.parts.points)) (three-of c.args.a c.args.b c.args.c c.in-Some-outside_corner.e (tet_in c.args.self.now.parts.slots c.in-Some.first)) (
            face-corners c.args.a c.args.b c.args.c c.args.self.now.parts c.in-Some.first f c.in-Some-first_across.second g c.in-Some-outside_corner.e a c.args.self.now.side (sound h) c.args.a,
            (
              face-corners c.args.a c.args.b c.args.c c.args.self.now.parts c.in-Some.first f c.in-Some-first_across.second g c.in-Some-outside_corner.e a c.args.self.now.side (sound h) c.args.b,
              (face-corners c.args.a c.args.b c.args.c c.args.self.now.parts c.in-Some.first f c.in-Some-first_across.second g c.in-Some-outside_corner.e a c.args.self.now.side (sound h) c.args.c, tt),
            ),
          )));
      can_take = tt;
      triples = λ k d l. absurd (omega arith);
    }

pub returns-clause-ok : goal.returns-clause-ok
returns-clause-ok c =
    let f = first-of (goal.at.returns-clause-ok c).In-Some in
    let g = second-from (goal.at.returns-clause-ok c).After-first_across c.in-Some-first_across.second c.in-Some-first_across.is in
    let a = sym (apex-is (goal.at.returns-clause-ok c).After-outside_corner) ∙ c.in-Some-outside_corner.is in
    let s = fresh-are (goal.at.returns-clause-ok c).After-subst-3 in
    ap (λ (v : StoreView). mesh_in v.parts) c.in_ok-exchange.ensures.ok
    ∙ (ap (λ (xs : List (List ℕ)). mesh_in (exchanged (c.in-Some.first ∷ c.in-Some-first_across.second ∷ []) xs [] [] c.args.self.now.parts)) s
    ∙ mesh-face c.args.a c.args.b c.args.c c.args.self.now.parts c.in-Some.first f c.in-Some-first_across.second g c.in-Some-outside_corner.e a)

pub returns-clause-grown : goal.returns-clause-grown
returns-clause-grown c =
    subst (λ (v : StoreView). IsGrown c.args.self.now.parts v.parts) (sym c.in_ok-exchange.ensures.ok)
    (grown-exchanged (c.in-Some.first ∷ c.in-Some-first_across.second ∷ []) (c.subst.result.0 ∷ c.subst-2.result.0 ∷ c.subst-3.result.0 ∷ []) [] [] c.args.self.now.parts)

pub returns-clause-added : goal.returns-clause-added
returns-clause-added c =
    subst (λ (v : StoreView). AddedAreLive c.args.self.now.parts v.parts) (sym c.in_ok-exchange.ensures.ok)
    (added-exchanged (c.in-Some.first ∷ c.in-Some-first_across.second ∷ []) (c.subst.result.0 ∷ c.subst-2.result.0 ∷ c.subst-3.result.0 ∷ []) [] [] c.args.self.now.parts)

pub returns-in_default-clause-added : goal.returns-in_default-clause-added
returns-in_default-clause-added c = none-added c.args.self.now.parts

pub returns-in_default-first_across-clause-added : goal.returns-in_default-first_across-clause-added
returns-in_default-first_across-clause-added c = none-added c.args.self.now.parts

pub returns-in_default-outside_corner-clause-added : goal.returns-in_default-outside_corner-clause-added
returns-in_default-outside_corner-clause-added c = none-added c.args.self.now.parts

pub returns-in_default-clause-ok : goal.returns-in_default-clause-ok
returns-in_default-clause-ok c =
    face-none c.args.a c.args.b c.args.c c.args.self.now.parts
    (sym (c.in_default.ensures
    ∙ among-slots c.args.a c.args.b c.self.inside.slots.slots c.args.self.now.parts.slots c.deref.result.now c.having2.new.into.items (has_either (c.args.a ∷ c.args.b ∷ c.args.c ∷ [])) (ap (λ (v : StoreView). v.parts.slots) c.self.view_is) c.deref.ensures.value c.in_ok-having2.ensures))

pub returns-in_default-first_across-clause-ok : goal.returns-in_default-first_across-clause-ok
returns-in_default-first_across-clause-ok c =
    let f = first-of (goal.at.returns-in_default-first_across-clause-ok c).In-Some in
    let d = (goal.at.returns-in_default-first_across-clause-ok c).After-first_across in
    face-alone c.args.a c.args.b c.args.c c.args.self.now.parts c.in-Some.first f (sym (across-is d) ∙ c.in_default-first_across.is)

pub returns-in_default-outside_corner-clause-ok : goal.returns-in_default-outside_corner-clause-ok
returns-in_default-outside_corner-clause-ok c =
    let f = first-of (goal.at.returns-in_default-outside_corner-clause-ok c).In-Some in
    let g = second-from (goal.at.returns-in_default-outside_corner-clause-ok c).After-first_across c.in-Some-first_across.second c.in-Some-first_across.is in
    let d = (goal.at.returns-in_default-outside_corner-clause-ok c).After-outside_corner in
    face-closed c.args.a c.args.b c.args.c c.args.self.now.parts c.in-Some.first f c.in-Some-first_across.second g (sym (apex-is d) ∙ c.in_default-outside_corner.is)

pub returns-in_err-exchange-clause-full : goal.returns-in_err-exchange-clause-full
returns-in_err-exchange-clause-full c = λ is.
    let r = rw is at c.from_residual-in_err-exchange.ensures.1 in
    let f = first-of (goal.at.returns-in_err-exchange-clause-full c).In-Some in
    let g = second-from (goal.at.returns-in_err-exchange-clause-full c).After-first_across c.in-Some-first_across.second c.in-Some-first_across.is in
    let a = sym (apex-is (goal.at.returns-in_err-exchange-clause-full c).After-outside_corner) ∙ c.in-Some-outside_corner.is in
    beyond-face c.args.a c.args.b c.args.c c.args.self.now.parts c.in-Some.first f c.in-Some-first_across.second g c.in-Some-outside_corner.e a (c.in_err-exchange.ensures.full (cc r))
