use Rattle.std.proofs.Common.{[], refl, sym, arith, below_more}
use Rattle.std.proofs.lemmas.Bool.{true≢false}
use Rattle.grid.specs.declared.shapes.Face.{Face}
use Rattle.grid.specs.Views.{triples_of}
use Rattle.cutting_rule.proofs.ForCallers.{all-at}
use Rattle.plain_ops.specs.Afters.{IsFine}
use Rattle.plain_ops.proofs.RimPoints.{at-place}
use Rattle.plain_ops.proofs.after.are_covered.Goals as goal

abbrev no_face : Face
no_face = record { 0 = [] }

pub returns-then-not-is_fine : goal.returns-then-not-is_fine
returns-then-not-is_fine c =
    (λ t. absurd (true≢false (sym t)), λ a. c.if-not-is_fine.ensures.1 (at-place (λ (f : Face). f.0) (IsFine c.args.env.now c.args.e (triples_of c.args.before.now) c.args.points.now) c.args.faces.now no_face c.loop-face.face-index a (omega arith)))

pub loop-face-preserved : goal.loop-face-preserved
loop-face-preserved c = below_more _ _ c.loop-face.invariant (c.if-not-is_fine.ensures.0 refl)

pub returns : goal.returns
returns c =
    (λ _. all-at (λ (f : Face). f.0) (IsFine c.args.env.now c.args.e (triples_of c.args.before.now) c.args.points.now) c.args.faces.now no_face (λ k lt. c.loop-face.invariant k (omega arith)), λ _. refl)
