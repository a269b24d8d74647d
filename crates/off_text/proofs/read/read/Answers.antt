use Rattle.std.proofs.Common.{sym, ◌∙◌}
use Rattle.std.proofs.lemmas.Result.{err_from_is_err_and}
use Rattle.off_text.proofs.Whole.{same_soup}
use Rattle.off_text.proofs.Whole.{keyword_fails, first_count_fails, count_fails, edges_fail, points_fail, faces_fail_too, after_faces}
use Rattle.off_text.proofs.read.read.Goals as goal

pub returns-in_err-start : goal.returns-in_err-start
returns-in_err-start c =
    let p = err_from_is_err_and c.from_residual.result c.from_residual.ensures.1 in
    rw (p.1, p.2) (keyword_fails c.args.digits c.in_err-start.field-0.0 c.args.bytes.now c.in_err-start.ensures.gives)

pub returns-in_err-vertices : goal.returns-in_err-vertices
returns-in_err-vertices c =
    let p = err_from_is_err_and c.from_residual-in_err-vertices.result c.from_residual-in_err-vertices.ensures.1 in
    rw (p.1, p.2) (first_count_fails c.args.digits c.in_err-vertices.field-0.0 c.args.bytes.now _ c.in_ok-start.ensures.gives c.in_err-vertices.ensures.gives)

pub returns-in_err-faces : goal.returns-in_err-faces
returns-in_err-faces c =
    let p = err_from_is_err_and c.from_residual-in_err-faces.result c.from_residual-in_err-faces.ensures.1 in
    rw (p.1, p.2) (count_fails c.args.digits c.in_err-faces.field-0.0 c.args.bytes.now _ _ _ c.in_ok-start.ensures.gives c.in_ok-vertices.ensures.gives c.in_err-faces.ensures.gives)

pub returns-in_err-edges : goal.returns-in_err-edges
returns-in_err-edges c =
    let p = err_from_is_err_and c.from_residual-in_err-edges.result c.from_residual-in_err-edges.ensures.1 in
    rw (p.1, p.2) (edges_fail c.args.digits c.in_err-edges.field-0.0 c.args.bytes.now _ _ _ _ _
    (record { keyword_is = c.in_ok-start.ensures.gives; vertices_are = c.in_ok-vertices.ensures.gives; faces_are = c.in_ok-faces.ensures.gives }) c.in_err-edges.ensures.gives)

pub returns-in_err-points : goal.returns-in_err-points
returns-in_err-points c =
    let p = err_from_is_err_and c.from_residual-in_err-points.result c.from_residual-in_err-points.ensures.1 in
    rw (p.1, p.2) (points_fail c.args.digits c.in_err-points.field-0.0 c.args.bytes.now _ _ _ _ _ _
    (record { keyword_is = c.in_ok-start.ensures.gives; vertices_are = c.in_ok-vertices.ensures.gives; faces_are = c.in_ok-faces.ensures.gives }) c.in_ok-edges.ensures.gives c.in_err-points.ensures.gives)

pub returns-in_err-triangles : goal.returns-in_err-triangles
returns-in_err-triangles c =
    let p = err_from_is_err_and c.from_residual-in_err-triangles.result c.from_residual-in_err-triangles.ensures.1 in
    rw (p.1, p.2) (faces_fail_too c.args.digits c.in_err-triangles.field-0.0 c.args.bytes.now _ _ _ _ _ _ _ _
    (record { keyword_is = c.in_ok-start.ensures.gives; vertices_are = c.in_ok-vertices.ensures.gives; faces_are = c.in_ok-faces.ensures.gives }) c.in_ok-edges.ensures.gives c.in_ok-points.ensures.gives c.in_err-triangles.ensures)

pub returns : goal.returns
returns c =
    after_faces c.args.digits c.args.bytes.now _ _ _ _ _ _ _ _ _
    (record { keyword_is = c.in_ok-start.ensures.gives; vertices_are = c.in_ok-vertices.ensures.gives; faces_are = c.in_ok-faces.ensures.gives }) c.in_ok-edges.ensures.gives c.in_ok-points.ensures.gives c.in_ok-triangles.ensures
    ∙ same_soup _ _ _ _ (sym c.from_vec.ensures) (sym c.from_vec-2.ensures)
