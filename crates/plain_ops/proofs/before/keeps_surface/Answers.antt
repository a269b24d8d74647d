use Rattle.std.proofs.Common.{◌↔◌, IsTrue, false, refl, sym, subst}
use Rattle.std.proofs.lemmas.Bool.{true≢false}
use Rattle.grid.specs.Views.{triples_of}
use Rattle.mesh_types.specs.Views.{mesh_of}
use Rattle.plain_ops.specs.Befores.{StaysOnSurface, AreApart}
use Rattle.plain_ops.proofs.RimPoints.{keeps_is}
use Rattle.plain_ops.proofs.before.keeps_surface.Goals as goal

pub returns-then-not-stays_on_surface : goal.returns-then-not-stays_on_surface
returns-then-not-stays_on_surface c =
    let m = mesh_of c.args.mesh.now in
    let stays : IsTrue false ↔ StaysOnSurface m.tracked c.args.u c.args.v =
    subst (λ (A : Type 0). A) (λ i. IsTrue false ↔ StaysOnSurface (triples_of (c.as_slice-faces.ensures i)) c.args.u c.args.v) c.if-not-stays_on_surface.ensures in
    (λ t. absurd (true≢false (sym t)), λ k. stays.1 ((keeps_is m c.args.u c.args.v).1 k).0)

pub returns : goal.returns
returns c =
    let m = mesh_of c.args.mesh.now in
    let stays : StaysOnSurface m.tracked c.args.u c.args.v =
    subst (λ (A : Type 0). A) (λ i. StaysOnSurface (triples_of (c.as_slice-faces.ensures i)) c.args.u c.args.v) (c.if-not-stays_on_surface.ensures.0 refl) in
    let apart : IsTrue c.are_apart.result ↔ AreApart m.tracked c.args.u c.args.v =
    subst (λ (A : Type 0). A) (λ i. IsTrue c.are_apart.result ↔ AreApart (triples_of (c.as_slice-faces.ensures i)) c.args.u c.args.v) c.are_apart.ensures in
    let is = keeps_is m c.args.u c.args.v in
    (λ t. is.0 (stays, apart.0 t), λ k. apart.1 (is.1 k).1)
