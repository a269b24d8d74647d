use Rattle.std.proofs.Common.{[], refl, sym, arith, below_more}
use Rattle.std.proofs.lemmas.Bool.{true≢false}
use Rattle.grid.specs.declared.shapes.Face.{Face}
use Rattle.grid.specs.Views.{triples_of}
use Rattle.cutting_rule.proofs.ForCallers.{all-at}
use Rattle.plain_ops.specs.Befores.{FallsOnAnother}
use Rattle.plain_ops.proofs.RimPoints.{apart-from, apart-to, at-place}
use Rattle.plain_ops.proofs.before.are_apart.Goals as goal

abbrev no_face : Face
no_face = record { 0 = [] }

pub returns-then-falls_on_another : goal.returns-then-falls_on_another
returns-then-falls_on_another c =
    let ts = triples_of c.args.faces.now in
    (λ t. absurd (true≢false (sym t)), λ a. absurd (at-place (λ (f : Face). f.0) (λ t. ¬ FallsOnAnother ts c.args.u c.args.v t) c.args.faces.now no_face c.loop-face.face-index (apart-to ts c.args.u c.args.v a) (omega arith) (c.if-falls_on_another.ensures.yes refl)))

pub loop-face-preserved : goal.loop-face-preserved
loop-face-preserved c = below_more _ _ c.loop-face.invariant (c.if-falls_on_another.ensures.no refl)

pub returns : goal.returns
returns c =
    let ts = triples_of c.args.faces.now in
    (λ _. apart-from ts c.args.u c.args.v (all-at (λ (f : Face). f.0) (λ t. ¬ FallsOnAnother ts c.args.u c.args.v t) c.args.faces.now no_face (λ k lt. c.loop-face.invariant k (omega arith))), λ _. refl)
