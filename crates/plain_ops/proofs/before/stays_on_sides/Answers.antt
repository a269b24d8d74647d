use Rattle.std.proofs.Common.{◌≡◌, ◌∙◌, ◌≤ℤ◌, ◌↔◌, ℤ, List, IsTrue, pos, nat_abs, false, refl, ap, sym, subst, arith, to_z-of_z}
use Rattle.std.proofs.lemmas.Bool.{true≢false}
use Rattle.std.proofs.lemmas.Int.{ints}
use Rattle.grid.specs.declared.shapes.Point.{Point}
use Rattle.grid.specs.Determinants.{point_at}
use Rattle.plain_ops.specs.Befores.{StaysAtEnd}
use Rattle.plain_ops.proofs.BoxEnds.{stays_is}
use Rattle.plain_ops.proofs.before.stays_on_sides.Goals as goal

far_end : (side : ℤ) → pos 0 ≤ℤ side → side ≡ pos (nat_abs side)
far_end side h = omega (arith, ints)

pub returns-then-not-stays_at_end : goal.returns-then-not-stays_at_end
returns-then-not-stays_at_end c =
    let points = c.args.mesh.now.points in
    let p : c.point_or_origin-p.result ≡ point_at points c.args.u = c.point_or_origin-p.ensures.value ∙ ap (λ (ps : List Point). point_at ps c.args.u) c.as_slice.ensures in
    let q : c.point_or_origin-q.result ≡ point_at points c.args.v = c.point_or_origin-q.ensures.value ∙ ap (λ (ps : List Point). point_at ps c.args.v) c.as_slice-2.ensures in
    let near : IsTrue false ↔ StaysAtEnd (pos 0) (point_at points c.args.u) (point_at points c.args.v) =
    subst (λ (A : Type 0). A) (λ i. IsTrue false ↔ StaysAtEnd (pos 0) (p i) (q i)) c.if-not-stays_at_end.ensures in
    (λ t. absurd (true≢false (sym t)), λ h. near.1 ((stays_is (nat_abs c.args.side) (point_at points c.args.u) (point_at points c.args.v)).1 h).0)

pub returns : goal.returns
returns c =
    let points = c.args.mesh.now.points in
    let l = nat_abs c.args.side in
    let p : c.point_or_origin-p.result ≡ point_at points c.args.u = c.point_or_origin-p.ensures.value ∙ ap (λ (ps : List Point). point_at ps c.args.u) c.as_slice.ensures in
    let q : c.point_or_origin-q.result ≡ point_at points c.args.v = c.point_or_origin-q.ensures.value ∙ ap (λ (ps : List Point). point_at ps c.args.v) c.as_slice-2.ensures in
    let near : StaysAtEnd (pos 0) (point_at points c.args.u) (point_at points c.args.v) =
    subst (λ (A : Type 0). A) (λ i. StaysAtEnd (pos 0) (p i) (q i)) (c.if-not-stays_at_end.ensures.0 refl) in
    let far : IsTrue c.stays_at_end-2.result ↔ StaysAtEnd (pos l) (point_at points c.args.u) (point_at points c.args.v) =
    subst (λ (A : Type 0). A) (λ i. IsTrue c.stays_at_end-2.result ↔ StaysAtEnd ((to_z-of_z c.ranges.side ∙ far_end c.args.side c.requires) i) (p i) (q i)) c.stays_at_end-2.ensures in
    let is = stays_is l (point_at points c.args.u) (point_at points c.args.v) in
    (λ t. is.0 (near, far.0 t), λ h. far.1 (is.1 h).1)
