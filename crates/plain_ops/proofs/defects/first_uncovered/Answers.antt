use Rattle.std.proofs.Common.{refl, arith, [], below_more}
use Rattle.grid.specs.declared.shapes.Face.{Face}
use Rattle.grid.specs.Views.{triples_of}
use Rattle.mesh_types.specs.Insertion.{IsUncovered}
use Rattle.cutting_rule.proofs.ForCallers.{names-at, all-at}
use Rattle.plain_ops.proofs.defects.first_uncovered.Goals as goal

abbrev no_face : Face
no_face = record { 0 = [] }

pub returns-then-is_uncovered : goal.returns-then-is_uncovered
returns-then-is_uncovered c =
    let points = c.args.points.now in
    names-at (λ (f : Face). f.0) (IsUncovered points c.args.env.now c.args.e (triples_of c.args.before.now)) points c.args.faces.now c.loop-face.face-index no_face c.face_points.result (omega arith)
    c.loop-face.invariant (c.if-is_uncovered.ensures.yes refl) c.face_points.ensures

pub loop-face-preserved : goal.loop-face-preserved
loop-face-preserved c = below_more _ _ c.loop-face.invariant (c.if-is_uncovered.ensures.no refl)

pub returns : goal.returns
returns c =
    all-at (λ (f : Face). f.0) (λ f. ¬ IsUncovered c.args.points.now c.args.env.now c.args.e (triples_of c.args.before.now) f) c.args.faces.now no_face (λ k lt. c.loop-face.invariant k (omega arith))
