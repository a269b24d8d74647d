-- The code's values as codes (`Kept`), where f and g are cast to 128 bits.
use Rattle.std.proofs.Common.{◌≡◌, ℕ, ◌^◌, ◌≤◌, List, [], ◌∷◌, ℤ, pos, ◌+ℤ◌, ◌*ℤ◌, w32, SFits, T, to_z, ◌∙◌, arith}
use mir.Syntax.{w128}
use Rattle.std.proofs.Math.Facts.{to_z_pos}
use Rattle.int_algebra.proofs.Bounds.{AreWithin, within_natural, within_cast}
use Rattle.int_algebra.proofs.Kept.{Code, variable, ◌⊕◌, ◌⊗◌, kept, code_value, is_safe, kept-value, fits_code}
use Rattle.grid.specs.Boxes.{IsUpTo}
use Rattle.grid.specs.Limits.{largest_side}
use Rattle.planes.proofs.mean.weighted_sum.Goals as goal

-- the coordinate i, cast to 128 bits
abbrev coordinate : ℕ → Code
coordinate i = kept w32 (variable i)

abbrev left : Code
left = kept w128 (coordinate 0) ⊗ variable 3

abbrev right : Code
right = kept w128 (coordinate 1) ⊗ variable 2

abbrev both : Code
both = kept w128 left ⊕ kept w128 right

abbrev values : ℤ → ℤ → ℕ → ℕ → List ℤ
values u v f g = u ∷ v ∷ to_z w128 f ∷ to_z w128 g ∷ []

abbrev bounds : List ℕ
bounds = largest_side ∷ largest_side ∷ 2 ^ 57 ∷ 2 ^ 57 ∷ []

module _ (u v : ℤ) (f g : ℕ) (h : record { u_in : IsUpTo largest_side u; v_in : IsUpTo largest_side v; f_in : f ≤ 2 ^ 57; g_in : g ≤ 2 ^ 57 }) where
  weight : (n : ℕ) → n ≤ 2 ^ 57 → to_z w128 n ≡ pos n
  weight n le = to_z_pos w128 (omega arith)

  all_in : AreWithin bounds (values u v f g)
  all_in = (within_natural _ u h.u_in.low h.u_in.high, (within_natural _ v h.v_in.low h.v_in.high, (within_cast w128 _ f h.f_in (omega arith), (within_cast w128 _ g h.g_in (omega arith), tt))))

  fits : (e : Code) → T (is_safe bounds (kept w128 e)) → SFits w128 (code_value (values u v f g) e)
  fits = fits_code bounds (values u v f g) all_in w128

  is : code_value (values u v f g) (kept w128 both) ≡ (u *ℤ pos g) +ℤ (v *ℤ pos f)
  is = kept-value bounds (values u v f g) all_in (kept w128 both) tt ∙ (λ i. (u *ℤ weight g h.g_in i) +ℤ (v *ℤ weight f h.f_in i))

pub overflow_cast-result : goal.overflow_cast-result
overflow_cast-result c = fits c.args.u c.args.v c.args.f c.args.g c.requires (coordinate 0) tt

pub overflow_mul-result : goal.overflow_mul-result
overflow_mul-result c = fits c.args.u c.args.v c.args.f c.args.g c.requires left tt

pub overflow_cast-result-3 : goal.overflow_cast-result-3
overflow_cast-result-3 c = fits c.args.u c.args.v c.args.f c.args.g c.requires (coordinate 1) tt

pub overflow_mul-result-2 : goal.overflow_mul-result-2
overflow_mul-result-2 c = fits c.args.u c.args.v c.args.f c.args.g c.requires right tt

pub overflow_add-result : goal.overflow_add-result
overflow_add-result c = fits c.args.u c.args.v c.args.f c.args.g c.requires both tt

pub returns : goal.returns
returns c = is c.args.u c.args.v c.args.f c.args.g c.requires
