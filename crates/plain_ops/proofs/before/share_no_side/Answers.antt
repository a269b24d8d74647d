use Rattle.std.proofs.Common.{◌≡◌, ◌∙◌, ◌≤ℤ◌, ◌↔◌, ℤ, List, IsTrue, pos, nat_abs, false, refl, ap, sym, subst, arith, to_z-of_z}
use Rattle.std.proofs.lemmas.Bool.{true≢false}
use Rattle.std.proofs.lemmas.Int.{ints}
use Rattle.grid.specs.declared.shapes.Point.{Point}
use Rattle.grid.specs.Determinants.{point_at}
use Rattle.plain_ops.specs.Befores.{IsApartAtEnd}
use Rattle.plain_ops.proofs.BoxEnds.{apart_is}
use Rattle.plain_ops.proofs.before.share_no_side.Goals as goal

far_end : (side : ℤ) → pos 0 ≤ℤ side → side ≡ pos (nat_abs side)
far_end side h = omega (arith, ints)

pub returns-then-not-is_apart_at_end : goal.returns-then-not-is_apart_at_end
returns-then-not-is_apart_at_end c =
    let points = c.args.mesh.now.points in
    let p : c.point_or_origin-p.result ≡ point_at points c.args.u = c.point_or_origin-p.ensures.value ∙ ap (λ (ps : List Point). point_at ps c.args.u) c.as_slice.ensures in
    let q : c.point_or_origin-q.result ≡ point_at points c.args.v = c.point_or_origin-q.ensures.value ∙ ap (λ (ps : List Point). point_at ps c.args.v) c.as_slice-2.ensures in
    let near : IsTrue false ↔ IsApartAtEnd (pos 0) (point_at points c.args.u) (point_at points c.args.v) =
    subst (λ (A : Type 0). A) (λ i. IsTrue false ↔ IsApartAtEnd (pos 0) (p i) (q i)) c.if-not-is_apart_at_end.ensures in
    (λ t. absurd (true≢false (sym t)), λ h. near.1 ((apart_is (nat_abs c.args.side) (point_at points c.args.u) (point_at points c.args.v)).1 h).0)

pub returns : goal.returns
returns c =
    let points = c.args.mesh.now.points in
    let l = nat_abs c.args.side in
    let p : c.point_or_origin-p.result ≡ point_at points c.args.u = c.point_or_origin-p.ensures.value ∙ ap (λ (ps : List Point). point_at ps c.args.u) c.as_slice.ensures in
    let q : c.point_or_origin-q.result ≡ point_at points c.args.v = c.point_or_origin-q.ensures.value ∙ ap (λ (ps : List Point). point_at ps c.args.v) c.as_slice-2.ensures in
    let near : IsApartAtEnd (pos 0) (point_at points c.args.u) (point_at points c.args.v) =
    subst (λ (A : Type 0). A) (λ i. IsApartAtEnd (pos 0) (p i) (q i)) (c.if-not-is_apart_at_end.ensures.0 refl) in
    let far : IsTrue c.is_apart_at_end-2.result ↔ IsApartAtEnd (pos l) (point_at points c.args.u) (point_at points c.args.v) =
    subst (λ (A : Type 0). A) (λ i. IsTrue c.is_apart_at_end-2.result ↔ IsApartAtEnd ((to_z-of_z c.ranges.side ∙ far_end c.args.side c.requires) i) (p i) (q i)) c.is_apart_at_end-2.ensures in
    let is = apart_is l (point_at points c.args.u) (point_at points c.args.v) in
    (λ t. is.0 (near, far.0 t), λ h. far.1 (is.1 h).1)
