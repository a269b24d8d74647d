use Rattle.std.proofs.Common.{rules, ◌≡◌, ◌*◌, ◌^◌, ◌≤◌, SFits, w64, to_z, of_z, to_z-of_z, sym, subst}
use Rattle.std.specs.Prelude.{ℤ, unsigned_abs}
use Rattle.lines.specs.Fields.{space, feed, decimal_word, Within}
use Rattle.lines.proofs.ForCallers.{field_allowed, starts, goes_on, ends, fails}
use Rattle.report_text.proofs.Head.{three_near}
use Rattle.std.proofs.lemmas.Result.{err_from_is_err_and}
use Rattle.report_text.specs.Rules.{shift_line}
use Rattle.report_text.proofs.read_head.read_shift_line.Goals as goal

pub returns-in_err-rest-clause-gives : goal.returns-in_err-rest-clause-gives
unfolding shift_line
returns-in_err-rest-clause-gives c =
    let p = err_from_is_err_and c.from_residual.result c.from_residual.ensures.1 in
    rw (p.1, p.2) (fails c.in_err-rest.field-0.0 (starts (shift_line) c.args.bytes.now) c.in_err-rest.ensures)

pub returns-in_err-x-clause-gives : goal.returns-in_err-x-clause-gives
unfolding shift_line
returns-in_err-x-clause-gives c =
    let p = err_from_is_err_and c.from_residual-in_err-x.result c.from_residual-in_err-x.ensures.1 in
    rw (p.1, p.2) (fails c.in_err-x.field-0.0 (goes_on (starts (shift_line) c.args.bytes.now) c.in_ok-rest.ensures) c.in_err-x.ensures)

pub returns-in_err-y-clause-gives : goal.returns-in_err-y-clause-gives
unfolding shift_line
returns-in_err-y-clause-gives c =
    let p = err_from_is_err_and c.from_residual-in_err-y.result c.from_residual-in_err-y.ensures.1 in
    rw (p.1, p.2) (fails c.in_err-y.field-0.0 (goes_on (goes_on (starts (shift_line) c.args.bytes.now) c.in_ok-rest.ensures) c.in_ok-x.ensures) c.in_err-y.ensures)

pub returns-in_err-z-clause-gives : goal.returns-in_err-z-clause-gives
unfolding shift_line
returns-in_err-z-clause-gives c =
    let p = err_from_is_err_and c.from_residual-in_err-z.result c.from_residual-in_err-z.ensures.1 in
    rw (p.1, p.2) (fails c.in_err-z.field-0.0 (goes_on (goes_on (goes_on (starts (shift_line) c.args.bytes.now) c.in_ok-rest.ensures) c.in_ok-x.ensures) c.in_ok-y.ensures) c.in_err-z.ensures)

pub returns-clause-gives : goal.returns-clause-gives
unfolding shift_line
returns-clause-gives c =
    let fx : SFits w64 c.in_ok-x.x = search rules in
    let fy : SFits w64 c.in_ok-y.y = search rules in
    let fz : SFits w64 c.in_ok-z.z = search rules in
    let ex : to_z w64 (of_z w64 c.in_ok-x.x) ≡ c.in_ok-x.x = to_z-of_z fx in
    let ey : to_z w64 (of_z w64 c.in_ok-y.y) ≡ c.in_ok-y.y = to_z-of_z fy in
    let ez : to_z w64 (of_z w64 c.in_ok-z.z) ≡ c.in_ok-z.z = to_z-of_z fz in
    rw (ex, ey, ez) (ends (goes_on (goes_on (goes_on (goes_on (starts shift_line c.args.bytes.now) c.in_ok-rest.ensures) c.in_ok-x.ensures) c.in_ok-y.ensures) c.in_ok-z.ensures))

pub returns-clause-near : goal.returns-clause-near
returns-clause-near c =
    let fx : SFits w64 c.in_ok-x.x = search rules in
    let fy : SFits w64 c.in_ok-y.y = search rules in
    let fz : SFits w64 c.in_ok-z.z = search rules in
    three_near _ _ _ (subst (λ (x : ℤ). unsigned_abs x ≤ 2 * 10 ^ 9) (sym (to_z-of_z fx)) (field_allowed (decimal_word 0 space) (Within (2 * 10 ^ 9)) c.in_ok-rest.rest.now c.in_ok-x.x c.in_ok-x.rest.now c.in_ok-x.ensures))
    (subst (λ (y : ℤ). unsigned_abs y ≤ 2 * 10 ^ 9) (sym (to_z-of_z fy)) (field_allowed (decimal_word 0 space) (Within (2 * 10 ^ 9)) c.in_ok-x.rest.now c.in_ok-y.y c.in_ok-y.rest.now c.in_ok-y.ensures))
    (subst (λ (z : ℤ). unsigned_abs z ≤ 2 * 10 ^ 9) (sym (to_z-of_z fz)) (field_allowed (decimal_word 0 feed) (Within (2 * 10 ^ 9)) c.in_ok-y.rest.now c.in_ok-z.z c.in_ok-z.rest.now c.in_ok-z.ensures))
