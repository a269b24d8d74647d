use Rattle.std.proofs.Common.{◌≡◌, ◌∙◌, ◌+◌, ◌++◌, List, length, ap, sym}
use Rattle.std.proofs.lemmas.List.{length-map, map-append}
use Rattle.grid.specs.declared.shapes.Point.{Point}
use Rattle.grid.specs.declared.shapes.Tet.{Tet}
use Rattle.grid.specs.Views.{corners_of, triples_of}
use Rattle.plain_ops.proofs.results.exchange.Goals as goal

pub returns : goal.returns
returns c =
    let m = c.args.mesh.now in
    let kept = c.args.kept.items in
    let fresh = c.args.fresh.items in
    let points : c.from_vec.result ≡ m.points ++ c.args.at.now = c.from_vec.ensures ∙ (c.in_ok-extend_from_slice.ensures.items ∙ ap (λ (ps : List Point). ps ++ c.args.at.now) (c.in_ok-points.ensures.items ∙ c.as_slice.ensures)) in
    let tets : corners_of c.from_vec-2.result ≡ corners_of kept ++ corners_of fresh =
    ap corners_of (c.from_vec-2.ensures ∙ (c.in_ok-extend_from_slice-2.ensures.items ∙ ap (λ (fs : List Tet). kept ++ fs) c.deref.ensures.value)) ∙ map-append (λ (x : Tet). x.0) kept fresh in
    let tracked : triples_of c.from_vec-3.result ≡ triples_of c.args.tracked.items = ap triples_of c.from_vec-3.ensures in
    let made : c.in_ok-made.made ≡ m.made + length (corners_of fresh) = c.in_ok-made.ensures ∙ ap (λ n. m.made + n) (ap (length {A = Tet}) c.deref-2.ensures.value ∙ sym (length-map fresh (λ (x : Tet). x.0))) in
    λ i. record { mesh = record { points = points i; tets = tets i; tracked = tracked i; made = made i }; gone = corners_of c.args.gone.items; fresh = corners_of fresh }
