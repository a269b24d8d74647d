-- The code's values as codes (`Kept`): each fits by its bound, and the result is the sum.
use Rattle.std.proofs.Common.{ℕ, ◌^◌, List, [], ◌∷◌, ℤ, w64, SFits, T}
use Rattle.int_algebra.proofs.Bounds.{AreWithin}
use Rattle.int_algebra.proofs.Kept.{Code, variable, ◌⊕◌, ◌⊗◌, kept, code_value, is_safe, kept-value, fits_code}
use Rattle.grid.specs.declared.determinants.Edge.{Edge}
use Rattle.grid.specs.Edges.{IsShort}
use Rattle.grid.proofs.determinants.squared_length.Goals as goal

abbrev square : ℕ → Code
square i = kept w64 (variable i) ⊗ kept w64 (variable i)

abbrev two : Code
two = kept w64 (square 0) ⊕ kept w64 (square 1)

abbrev three : Code
three = kept w64 two ⊕ kept w64 (square 2)

abbrev values : Edge → List ℤ
values p = p.x ∷ p.y ∷ p.z ∷ []

abbrev bounds : List ℕ
bounds = 2 ^ 19 ∷ 2 ^ 19 ∷ 2 ^ 19 ∷ []

all_in : (p : Edge) → IsShort p → AreWithin bounds (values p)
all_in p h = (h.x_in, (h.y_in, (h.z_in, tt)))

fits : (p : Edge) → IsShort p → (e : Code) → T (is_safe bounds (kept w64 e)) → SFits w64 (code_value (values p) e)
fits p h = fits_code bounds (values p) (all_in p h) w64

pub overflow_mul-result : goal.overflow_mul-result
overflow_mul-result c = fits c.args.p c.requires (square 0) tt

pub overflow_mul-result-2 : goal.overflow_mul-result-2
overflow_mul-result-2 c = fits c.args.p c.requires (square 1) tt

pub overflow_add-result : goal.overflow_add-result
overflow_add-result c = fits c.args.p c.requires two tt

pub overflow_mul-result-3 : goal.overflow_mul-result-3
overflow_mul-result-3 c = fits c.args.p c.requires (square 2) tt

pub overflow_add-result-2 : goal.overflow_add-result-2
overflow_add-result-2 c = fits c.args.p c.requires three tt

pub returns : goal.returns
returns c = kept-value bounds (values c.args.p) (all_in c.args.p c.requires) (kept w64 three) tt
