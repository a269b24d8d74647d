use Rattle.std.proofs.Common.{◌≡◌, ℕ, ◌*◌, ◌^◌, ◌≤◌, List, [], ◌∷◌, ℤ, pos, ◌*ℤ◌, to_z, sym, ap, ◌∙◌, arith, mul-le-mul, lit≤}
use mir.Syntax.{w128}
use lib.IntN.{nat_abs}
use Rattle.std.proofs.Math.Facts.{to_z_pos}
use Rattle.int_algebra.specs.Within.{IsWithin}
use Rattle.int_algebra.proofs.Bounds.{AreWithin, within_cast}
use Rattle.int_algebra.proofs.Kept.{Code, variable, ◌⊗◌, kept, code_value, kept-value, fits_code}
use Rattle.grid.proofs.ForCallers.{square_is}
use Rattle.grid.specs.Limits.{most_epsilon}
use Rattle.planes.specs.Bounded.{plane_with, sq_reach_of}
use Rattle.planes.specs.Roots.{root}
use Rattle.planes.proofs.Roots.{root-is}
use Rattle.planes.proofs.plane.Plane.new.Goals as goal

abbrev product : Code
product = variable 0 ⊗ kept w128 (variable 1)

abbrev bounds : List ℕ
bounds = 2 ^ 24 ∷ 2 ^ 76 ∷ []

abbrev values : ℕ → ℤ → List ℤ
values n z = to_z w128 n ∷ z ∷ []

sq_snap_in : (c : goal.After-squared_length) → c.args.snap * c.args.snap ≤ 2 ^ 24
sq_snap_in c =
    let h : c.args.snap * c.args.snap ≤ most_epsilon * most_epsilon = mul-le-mul c.requires.snap_high c.requires.snap_high in
    omega (arith, h)

length_in : (c : goal.After-squared_length) → IsWithin (2 ^ 76) c.squared_length.result
length_in c =
    c.squared_length.ensures.within (2 ^ 37) (2 ^ 76) c.requires.normal_in (lit≤ tt)

all_in : (c : goal.After-squared_length) → AreWithin bounds (values (c.args.snap * c.args.snap) c.squared_length.result)
all_in c = (within_cast w128 (2 ^ 24) (c.args.snap * c.args.snap) (sq_snap_in c) (omega (arith, sq_snap_in c)), (length_in c, tt))

pub overflow_mul-sq_reach : goal.overflow_mul-sq_reach
overflow_mul-sq_reach c = fits_code bounds (values (c.args.snap * c.args.snap) c.squared_length.result) (all_in c) w128 product tt

sq_reach_is : (c : goal.After-squared_length) → code_value (values (c.args.snap * c.args.snap) c.squared_length.result) (kept w128 product) ≡ sq_reach_of (plane_with c.args.normal c.args.origin c.args.snap)
sq_reach_is c =
    let cast : to_z w128 (c.args.snap * c.args.snap) ≡ pos (c.args.snap * c.args.snap) = to_z_pos w128 (omega (arith, sq_snap_in c)) in
    let sq : to_z w128 (c.args.snap * c.args.snap) ≡ pos (c.args.snap ^ 2) = cast ∙ ap pos (sym (square_is c.args.snap)) in
    kept-value bounds (values (c.args.snap * c.args.snap) c.squared_length.result) (all_in c) (kept w128 product) tt ∙ (λ i. sq i *ℤ c.squared_length.ensures.value i)

pub invariant_of-result : goal.invariant_of-result
invariant_of-result c =
    let n : c.unsigned_abs.result ≡ nat_abs (sq_reach_of (plane_with c.args.normal c.args.origin c.args.snap)) = c.unsigned_abs.ensures.value ∙ ap nat_abs (sq_reach_is c.before.before) in
    record {
      bounded = record { normal_in = c.requires.normal_in; origin_in = c.requires.origin_in; snap_low = c.requires.snap_low; snap_high = c.requires.snap_high };
      reach_is = root-is _ _ c.isqrt.ensures.square_le c.isqrt.ensures.next_square_gt ∙ ap root n;
    }
