use Rattle.std.proofs.Common.{ℕ, ◌<◌, ◌≤◌, ◌^◌, [], ◌∷◌, ℤ, ◌*ℤ◌, unsigned_abs, sym, ap, ◌∙◌, subst, to_z-of_z}
use mir.Syntax.{w128}
use Rattle.int_algebra.specs.Within.{IsWithin}
use Rattle.int_algebra.proofs.Bounds.{AreWithin}
use Rattle.int_algebra.proofs.Kept.{Code, variable, ◌⊗◌, kept, kept-value}
use Rattle.off_text.specs.Rounding.{within_most}
use Rattle.off_text.proofs.Rounded.{times_power_too_large, ten_power}
use Rattle.off_text.proofs.rounding.times_power.Goals as goal

abbrev product : Code
product = kept w128 (kept w128 (variable 0) ⊗ kept w128 (variable 1))

all_in : (c : goal.After-within_most) → AreWithin (10 ^ 9 ∷ 10 ^ 9 ∷ []) (c.args.m ∷ c.pow.result ∷ [])
all_in c =
    let size = c.unsigned_abs.ensures.value ∙ ap unsigned_abs (to_z-of_z c.ranges.m) in
    let m : IsWithin (10 ^ 9) c.args.m = record { within = subst (λ (n : ℕ). n ≤ 10 ^ 9) size c.if-unsigned_abs-gt-LARGEST.false } in
    let unit : IsWithin (10 ^ 9) c.pow.result = subst (IsWithin (10 ^ 9)) (sym c.pow.ensures) (record { within = ten_power c.args.power 9 c.requires.power }) in
    (m, (unit, tt))

pub returns-then-unsigned_abs-gt-LARGEST : goal.returns-then-unsigned_abs-gt-LARGEST
returns-then-unsigned_abs-gt-LARGEST c =
    let size = c.unsigned_abs.ensures.value ∙ ap unsigned_abs (to_z-of_z c.ranges.m) in
    sym (times_power_too_large c.args.m c.args.power (subst (λ (n : ℕ). 10 ^ 9 < n) size c.if-unsigned_abs-gt-LARGEST.true))

pub returns : goal.returns
returns c =
    c.within_most.ensures
    ∙ ap within_most (kept-value (10 ^ 9 ∷ 10 ^ 9 ∷ []) (c.args.m ∷ c.pow.result ∷ []) (all_in c) product tt ∙ ap (λ (u : ℤ). c.args.m *ℤ u) c.pow.ensures)
