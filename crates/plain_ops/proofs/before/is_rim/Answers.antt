use Rattle.std.proofs.Common.{sym, refl, ap, ◌∙◌, arith}
use Rattle.std.proofs.lemmas.Bool.{true≢false}
use Rattle.mesh_types.specs.Views.{mesh_of}
use Rattle.grid.specs.Views.{triples_of}
use Rattle.plain_ops.specs.Befores.{is_rim_edge}
use Rattle.plain_ops.proofs.RimPoints.{rim-from, no-rim}
use Rattle.plain_ops.proofs.before.is_rim.Goals as goal

pub returns-then-is_rim_edge : goal.returns-then-is_rim_edge
returns-then-is_rim_edge c = (λ _. rim-from (mesh_of c.args.mesh.now).tracked c.args.u c.loop-w.w (sym (c.is_rim_edge.ensures ∙ ap (λ fs. is_rim_edge (triples_of fs) c.args.u c.loop-w.w) c.as_slice-faces.ensures) ∙ c.if-is_rim_edge.true), λ _. refl)

pub returns : goal.returns
returns c =
    let m = mesh_of c.args.mesh.now in
    (λ t. absurd (true≢false (sym t)), λ r. absurd (no-rim m.tracked c.args.u _ c.requires.well_formed.triples_are (λ k lt. c.loop-w.invariant.none k (omega (arith, c.loop-w.invariant.end))) r))
