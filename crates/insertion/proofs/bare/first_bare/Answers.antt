use Rattle.std.proofs.Common.{refl, get_or, arith, [], below_more}
use Rattle.grid.specs.declared.shapes.Face.{Face}
use Rattle.insertion.specs.Bare.{IsBare, IsKept}
use Rattle.cutting_rule.proofs.ForCallers.{names-at, all-at}
use Rattle.insertion.proofs.Starting.{kept-not}
use Rattle.insertion.proofs.bare.first_bare.Goals as goal

pub returns-then-is_bare : goal.returns-then-is_bare
returns-then-is_bare c =
    let points = c.args.slots.now.points in
    let none : Face = record { 0 = [] } in
    names-at (λ (f : Face). f.0) (IsBare points c.args.env.now c.args.e c.args.first) points c.args.faces.now c.loop-face.face-index none c.face_points.result (omega arith)
    (λ k below b. kept-not points c.args.env.now c.args.e c.args.first (get_or c.args.faces.now k none).0 (c.loop-face.invariant k below) b)
    (c.if-is_bare.ensures.bare refl) c.face_points.ensures

pub loop-face-preserved : goal.loop-face-preserved
loop-face-preserved c = below_more _ _ c.loop-face.invariant (c.if-is_bare.ensures.kept refl)

pub returns : goal.returns
returns c =
    all-at (λ (f : Face). f.0) (IsKept c.args.slots.now.points c.args.env.now c.args.e c.args.first) c.args.faces.now (record { 0 = [] }) (λ k lt. c.loop-face.invariant k (omega arith))
