use Rattle.std.proofs.Common.{rules, ◌≡◌, ◌+◌, ◌^◌, ◌*◌, length, sym, subst, arith, SFits, w32, w64, to_z, of_z, to_z-of_z}
use Rattle.std.specs.Prelude.{ℤ, ◌-ℤ◌}
use Rattle.std.proofs.lemmas.Result.{err_from_is_err_and}
use Rattle.grid.specs.Limits.{largest_side}
use Rattle.lines.specs.Fields.{decimal_word, Within}
use Rattle.lines.proofs.ForCallers.{starts, goes_on, ends, fails, fails_first, narrow_reads, narrow_breaks, narrow_fails, coordinate_clear, field_allowed}
use Rattle.report_text.specs.Rules.{grid_number, IsGrid}
use Rattle.lines.specs.Forms.{Reads}
use Rattle.report_text.proofs.read_words.read_grid.Goals as goal

pub returns-in_err-z : goal.returns-in_err-z
unfolding grid_number
returns-in_err-z c =
    let p = err_from_is_err_and c.from_residual.result c.from_residual.ensures.1 in
    rw (p.1, p.2) (fails c.in_err-z.field-0.0 (starts (grid_number c.args.side c.args.shift c.args.end) c.args.bytes.now) (narrow_fails (decimal_word 0 c.args.end) (Within (2 * 10 ^ 9 + largest_side)) (IsGrid c.args.side c.args.shift) c.args.bytes.now c.in_err-z.field-0.0 (λ m k. k.0) c.in_err-z.ensures))

pub returns-in-Some : goal.returns-in-Some
unfolding grid_number
returns-in-Some c =
    let fz : SFits w64 c.in_ok-z.z = search rules in
    let fs : SFits w64 c.args.shift = search rules in
    let ez : to_z w64 (of_z w64 c.in_ok-z.z) ≡ c.in_ok-z.z = to_z-of_z fz in
    let es : to_z w64 (of_z w64 c.args.shift) ≡ c.args.shift = to_z-of_z fs in
    let found : (c.in-Some.g ≡ c.in_ok-z.z -ℤ c.args.shift) × IsGrid c.args.side c.args.shift c.in_ok-z.z = rw (← ez, ← es) c.in-Some.ensures in
    let fg : SFits w32 c.in-Some.g = search rules in
    let eg : to_z w32 (of_z w32 c.in-Some.g) ≡ c.in-Some.g = to_z-of_z fg in
    rw eg (subst (λ (g : ℤ). Reads (grid_number c.args.side c.args.shift c.args.end) c.args.bytes.now g c.in_ok-z.rest.now) (sym found.0) (ends (goes_on (starts (grid_number c.args.side c.args.shift c.args.end) c.args.bytes.now) (narrow_reads (decimal_word 0 c.args.end) (Within (2 * 10 ^ 9 + largest_side)) (IsGrid c.args.side c.args.shift) c.args.bytes.now c.in_ok-z.z c.in_ok-z.rest.now c.in_ok-z.ensures found.1))))

pub returns-in-None : goal.returns-in-None
unfolding grid_number
returns-in-None c =
    let fz : SFits w64 c.in_ok-z.z = search rules in
    let fs : SFits w64 c.args.shift = search rules in
    let ez : to_z w64 (of_z w64 c.in_ok-z.z) ≡ c.in_ok-z.z = to_z-of_z fz in
    let es : to_z w64 (of_z w64 c.args.shift) ≡ c.args.shift = to_z-of_z fs in
    let none : IsGrid c.args.side c.args.shift c.in_ok-z.z → ⊥ = rw (← ez, ← es) c.in-None.ensures in
    fails_first (length c.args.bytes.now) (starts (grid_number c.args.side c.args.shift c.args.end) c.args.bytes.now) (narrow_breaks (decimal_word 0 c.args.end) (Within (2 * 10 ^ 9 + largest_side)) (IsGrid c.args.side c.args.shift) c.args.bytes.now c.in_ok-z.z c.in_ok-z.rest.now (coordinate_clear 0 c.args.end (2 * 10 ^ 9 + largest_side) c.requires.end (omega arith)) (λ m k. k.0) c.in_ok-z.ensures none)

pub grid_of-requires-clause-small : goal.grid_of-requires-clause-small
grid_of-requires-clause-small c =
    let fz : SFits w64 c.in_ok-z.z = search rules in
    let ez : to_z w64 (of_z w64 c.in_ok-z.z) ≡ c.in_ok-z.z = to_z-of_z fz in
    rw ez (field_allowed (decimal_word 0 c.args.end) (Within (2 * 10 ^ 9 + largest_side)) c.args.bytes.now c.in_ok-z.z c.in_ok-z.rest.now c.in_ok-z.ensures)
