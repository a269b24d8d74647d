use Rattle.std.proofs.Common.{◌≡◌, ℤ, pos, negsuc, ◌-ℤ◌, unsigned_abs, [], ◌∷◌, sym, ap, ap₂, ◌∙◌, to_z, of_z, to_z-of_z, w64}
use mir.Syntax.{w128}
use Rattle.std.specs.Int.Signed.{le_z, lt_z}
use Rattle.int_algebra.proofs.Kept.{Code, constant, variable, ◌⊖◌, kept, kept-value}
use Rattle.off_text.specs.Rounding.{within_most, scale, times_power, over_power}
use Rattle.off_text.proofs.Rounded.{zero_scale, far_down, far_up, is_low, is_high, below_zero, scale_down, scale_up}
use Rattle.off_text.proofs.rounding.scale.Goals as goal

pub returns-then-m-eq0 : goal.returns-then-m-eq0
returns-then-m-eq0 c =
    let none : c.args.m ≡ pos 0 = sym (to_z-of_z c.ranges.m) ∙ ap (to_z w128) c.if-m-eq0.true in
    sym (ap within_most (ap (λ (k : ℤ). scale k c.args.power) none ∙ zero_scale c.args.power))

pub returns-then-power-le-HALVED : goal.returns-then-power-le-HALVED
returns-then-power-le-HALVED c =
    let low = is_low c.args.power (sym (ap (λ (x : ℤ). le_z x (negsuc 32)) (to_z-of_z c.ranges.power)) ∙ c.if-power-le-HALVED.true) in
    sym (ap within_most (far_down c.args.m c.args.power c.requires low))

pub returns-then-power-gt-MOST_POWER : goal.returns-then-power-gt-MOST_POWER
returns-then-power-gt-MOST_POWER c =
    let high = is_high c.args.power (sym (ap (λ (x : ℤ). lt_z (pos 9) x) (to_z-of_z c.ranges.power)) ∙ c.if-power-gt-MOST_POWER.true) in
    sym (far_up c.args.m c.args.power (λ e. c.if-m-eq0.false (ap (of_z w128) e)) high)

abbrev negated : Code
negated = kept w64 (constant (pos 0) ⊖ kept w64 (variable 0))

pub returns-then-power-lt0 : goal.returns-then-power-lt0
returns-then-power-lt0 c =
    let same = to_z-of_z c.ranges.power in
    let test = sym (ap (λ (x : ℤ). lt_z x (pos 0)) same) ∙ c.if-power-lt0.true in
    let few = below_zero c.args.power (sym (ap (λ (x : ℤ). le_z x (negsuc 32)) same) ∙ c.if-power-le-HALVED.false) test in
    c.over_power.ensures
    ∙ ap (λ (m : ℤ). within_most (over_power m (unsigned_abs (to_z w64 (of_z w64 (pos 0 -ℤ to_z w64 (of_z w64 c.args.power))))))) (to_z-of_z c.ranges.m)
    ∙ ap within_most (scale_down c.args.m c.args.power _ test (kept-value (32 ∷ []) (c.args.power ∷ []) (few, tt) negated tt))

pub returns-else-power-lt0 : goal.returns-else-power-lt0
returns-else-power-lt0 c =
    let same = to_z-of_z c.ranges.power in
    let test = sym (ap (λ (x : ℤ). lt_z x (pos 0)) same) ∙ c.if-power-lt0.false in
    c.times_power.ensures
    ∙ ap₂ (λ (m x : ℤ). within_most (times_power m (unsigned_abs x))) (to_z-of_z c.ranges.m) same
    ∙ ap within_most (scale_up c.args.m c.args.power test)
