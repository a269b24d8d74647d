use Rattle.std.proofs.Common.{refl, get_or, arith, All, []}
use Rattle.grid.specs.declared.shapes.Face.{Face}
use Rattle.grid.specs.Determinants.{point_at}
use Rattle.grid.specs.Near.{Near}
use Rattle.mesh_types.specs.Insertion.{IsStray}
use Rattle.cutting_rule.proofs.ForCallers.{names-at, all-at, all-has}
use Rattle.plain_ops.proofs.defects.first_stray.Goals as goal

pub returns-then-is_stray : goal.returns-then-is_stray
returns-then-is_stray c =
    let points = c.args.points.now in
    let t = c.args.tri.now in
    let none : Face = record { 0 = [] } in
    names-at (λ (f : Face). f.0) (IsStray points t c.args.e) points c.args.faces.now c.loop-face.face-index none c.face_points.result (omega arith)
    (λ k below s. s.far (all-has (λ u. Near (point_at points u) 0 t c.args.e) (get_or c.args.faces.now k none).0 s.corner (c.loop-face.invariant k below) s.of_face))
    (c.if-is_stray.ensures.stray refl) c.face_points.ensures

pub returns : goal.returns
returns c =
    let points = c.args.points.now in
    let none : Face = record { 0 = [] } in
    all-at (λ (f : Face). f.0) (λ f. All (λ u. Near (point_at points u) 0 c.args.tri.now c.args.e) f) c.args.faces.now none (λ k lt. c.loop-face.invariant k (omega arith))
