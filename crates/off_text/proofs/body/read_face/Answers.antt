use Rattle.std.proofs.Common.{◌≡◌, ℕ, length, subst, ◌∙◌, rules}
use Rattle.std.proofs.lemmas.Result.{err_from_is_err_and}
use Rattle.off_text.specs.Scans.{rest_at}
use Rattle.off_text.specs.Grammar.{next, corner_count}
use Rattle.off_text.specs.Gives.{Fails}
use Rattle.off_text.proofs.Loops.{corner_count_fails, first_corner_fails, second_corner_fails, other_corner_fails, face_is, counted}
use Rattle.off_text.proofs.body.read_face.Goals as goal

pub returns-in_err-corners-clause-err : goal.returns-in_err-corners-clause-err
returns-in_err-corners-clause-err c =
    let p = err_from_is_err_and c.from_residual.result c.from_residual.ensures.1 in
    let same : c.len.result ≡ length c.args.triangles.now.items = search rules in
    rw (p.1, p.2) (corner_count_fails c.in_err-corners.field-0.0 (length c.args.bytes.now) c.args.vertices _ _
    (subst (λ (m : ℕ). Fails c.in_err-corners.field-0.0 (next (corner_count m) (length c.args.bytes.now) (rest_at c.args.bytes.now c.args.from))) same c.in_err-corners.ensures.gives))

pub returns-in_err-first-clause-err : goal.returns-in_err-first-clause-err
returns-in_err-first-clause-err c =
    let p = err_from_is_err_and c.from_residual-in_err-first.result c.from_residual-in_err-first.ensures.1 in
    let same : c.len.result ≡ length c.args.triangles.now.items = search rules in
    rw (p.1, p.2) (first_corner_fails c.in_err-first.field-0.0 (length c.args.bytes.now) c.args.vertices _ _ _ _ c.in_ok-corners.ensures.least (counted _ _ (length c.args.bytes.now) (rest_at c.args.bytes.now c.args.from) _ _ same c.in_ok-corners.ensures.gives) c.in_err-first.ensures.gives)

pub returns-in_err-second-clause-err : goal.returns-in_err-second-clause-err
returns-in_err-second-clause-err c =
    let p = err_from_is_err_and c.from_residual-in_err-second.result c.from_residual-in_err-second.ensures.1 in
    let same : c.len.result ≡ length c.args.triangles.now.items = search rules in
    rw (p.1, p.2) (second_corner_fails c.in_err-second.field-0.0 (length c.args.bytes.now) c.args.vertices _ _ _ _ _ _ c.in_ok-corners.ensures.least (counted _ _ (length c.args.bytes.now) (rest_at c.args.bytes.now c.args.from) _ _ same c.in_ok-corners.ensures.gives) c.in_ok-first.ensures.gives c.in_err-second.ensures.gives)

pub returns-in_err-end-clause-err : goal.returns-in_err-end-clause-err
returns-in_err-end-clause-err c =
    let p = err_from_is_err_and c.from_residual-in_err-end.result c.from_residual-in_err-end.ensures.1 in
    let same : c.len.result ≡ length c.args.triangles.now.items = search rules in
    rw (p.1, p.2) (other_corner_fails c.in_err-end.field-0.0 (length c.args.bytes.now) c.args.vertices _ _ _ _ _ _ _ _
    (record { least = c.in_ok-corners.ensures.least; number = counted _ _ (length c.args.bytes.now) (rest_at c.args.bytes.now c.args.from) _ _ same c.in_ok-corners.ensures.gives; first = c.in_ok-first.ensures.gives; second = c.in_ok-second.ensures.gives })
    c.in_err-end.ensures.err)

pub returns-clause-ok : goal.returns-clause-ok
returns-clause-ok c =
    let same : c.len.result ≡ length c.args.triangles.now.items = search rules in
    face_is (length c.args.bytes.now) c.args.vertices _ _ _ _ _ _ _ _ c.args.triangles.now.items _ _
    (record { least = c.in_ok-corners.ensures.least; number = counted _ _ (length c.args.bytes.now) (rest_at c.args.bytes.now c.args.from) _ _ same c.in_ok-corners.ensures.gives; first = c.in_ok-first.ensures.gives; second = c.in_ok-second.ensures.gives })
    c.in_ok-end.ensures.ok (c.next_line.ensures.words ∙ c.in_ok-end.ensures.beyond)
