use Rattle.std.proofs.Common.{◌≡◌, ◌∙◌, Bool, true, false, not, [], ◌∷◌, ap, refl, sym}
use Rattle.grid.specs.declared.shapes.Tet.{Tet}
use Rattle.grid.specs.Simplices.{replaced}
use Rattle.mesh_store.specs.Exchanges.{tet_in}
use Rattle.local_ops.specs.Swaps.{are_below, are_new_once, three_of}
use Rattle.local_ops.proofs.worsening.is_seen_worse.Goals as goal

off : (b : Bool) → not b ≡ true → b ≡ false
off true e = sym e
off false e = refl

pub returns : goal.returns
returns c = λ worse.
    let slots = c.args.slots.now.slots in
    let s = c.args.sides in
    let x : c.tet-x.result.0 ≡ tet_in slots s.first = ap (λ (t : Tet). t.0) c.tet-x.ensures.value in
    let y : c.tet-y.result.0 ≡ tet_in slots s.second = ap (λ (t : Tet). t.0) c.tet-y.ensures.value in
    let p = c.subst-p.ensures.corners ∙ ap (replaced c.args.a s.apex) x in
    let q = c.subst-q.ensures.corners ∙ ap (replaced c.args.b s.apex) x in
    let r = c.subst-r.ensures.corners ∙ ap (replaced c.args.c s.apex) x in
    let new : c.subst-p.result.0 ∷ c.subst-q.result.0 ∷ c.subst-r.result.0 ∷ [] ≡ three_of c.args.a c.args.b c.args.c s.apex (tet_in slots s.first) = λ i. p i ∷ q i ∷ r i ∷ [] in
    record {
      d = c.in-Some.far;
      free = c.in_ok-has_tet_at.ensures c.if-branch.false;
      once = sym (c.are_new_once.ensures ∙ (λ i. are_new_once (x i) (y i) (new i) c.in-Some.far s.apex)) ∙ c.if-not-are_new_once.false;
      worse = sym (c.are_below.ensures ∙ (λ i. are_below c.args.slots.now.points (x i) (y i) (new i))) ∙ off c.are_below.result worse;
    }
