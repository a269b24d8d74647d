-- The code's values as codes (`Kept`): each fits by its bound, and the result is the determinant.
use Rattle.std.proofs.Common.{ℕ, ◌+◌, ◌*◌, ◌^◌, List, [], ◌∷◌, w64, SFits, ℤ, T}
use Rattle.int_algebra.proofs.Bounds.{AreWithin}
use Rattle.int_algebra.proofs.Kept.{Code, variable, ◌⊕◌, ◌⊖◌, ◌⊗◌, kept, code_value, is_safe, kept-value, fits_code}
use Rattle.grid.specs.declared.determinants.Edge.{Edge}
use Rattle.grid.specs.Edges.{IsShort}
use Rattle.grid.proofs.determinants.triple_product.Goals as goal

-- the coordinate i of the edge p
abbrev side : ℕ → ℕ → Code
side p i = kept w64 (variable (3 * p + i))

abbrev term : ℕ → ℕ → Code
term i j = side 1 i ⊗ side 2 j

abbrev minor : ℕ → ℕ → Code
minor i j = kept w64 (term i j) ⊖ kept w64 (term j i)

abbrev part : ℕ → ℕ → ℕ → Code
part k i j = side 0 k ⊗ kept w64 (minor i j)

abbrev two : Code
two = kept w64 (part 0 1 2) ⊖ kept w64 (part 1 0 2)

abbrev three : Code
three = kept w64 two ⊕ kept w64 (part 2 0 1)

abbrev values : Edge → Edge → Edge → List ℤ
values p q r = p.x ∷ p.y ∷ p.z ∷ q.x ∷ q.y ∷ q.z ∷ r.x ∷ r.y ∷ r.z ∷ []

abbrev bounds : List ℕ
bounds = 2 ^ 19 ∷ 2 ^ 19 ∷ 2 ^ 19 ∷ 2 ^ 19 ∷ 2 ^ 19 ∷ 2 ^ 19 ∷ 2 ^ 19 ∷ 2 ^ 19 ∷ 2 ^ 19 ∷ []

module _ (p q r : Edge) (h : record { p_in : IsShort p; q_in : IsShort q; r_in : IsShort r }) where
  all_in : AreWithin bounds (values p q r)
  all_in = (h.p_in.x_in, (h.p_in.y_in, (h.p_in.z_in, (h.q_in.x_in, (h.q_in.y_in, (h.q_in.z_in, (h.r_in.x_in, (h.r_in.y_in, (h.r_in.z_in, tt)))))))))

  fits : (e : Code) → T (is_safe bounds (kept w64 e)) → SFits w64 (code_value (values p q r) e)
  fits = fits_code bounds (values p q r) all_in w64

pub overflow_mul-result : goal.overflow_mul-result
overflow_mul-result c = fits c.args.p c.args.q c.args.r c.requires (term 1 2) tt

pub overflow_mul-result-2 : goal.overflow_mul-result-2
overflow_mul-result-2 c = fits c.args.p c.args.q c.args.r c.requires (term 2 1) tt

pub overflow_sub-result : goal.overflow_sub-result
overflow_sub-result c = fits c.args.p c.args.q c.args.r c.requires (minor 1 2) tt

pub overflow_mul-result-3 : goal.overflow_mul-result-3
overflow_mul-result-3 c = fits c.args.p c.args.q c.args.r c.requires (part 0 1 2) tt

pub overflow_mul-result-4 : goal.overflow_mul-result-4
overflow_mul-result-4 c = fits c.args.p c.args.q c.args.r c.requires (term 0 2) tt

pub overflow_mul-result-5 : goal.overflow_mul-result-5
overflow_mul-result-5 c = fits c.args.p c.args.q c.args.r c.requires (term 2 0) tt

pub overflow_sub-result-2 : goal.overflow_sub-result-2
overflow_sub-result-2 c = fits c.args.p c.args.q c.args.r c.requires (minor 0 2) tt

pub overflow_mul-result-6 : goal.overflow_mul-result-6
overflow_mul-result-6 c = fits c.args.p c.args.q c.args.r c.requires (part 1 0 2) tt

pub overflow_sub-result-3 : goal.overflow_sub-result-3
overflow_sub-result-3 c = fits c.args.p c.args.q c.args.r c.requires two tt

pub overflow_mul-result-7 : goal.overflow_mul-result-7
overflow_mul-result-7 c = fits c.args.p c.args.q c.args.r c.requires (term 0 1) tt

pub overflow_mul-result-8 : goal.overflow_mul-result-8
overflow_mul-result-8 c = fits c.args.p c.args.q c.args.r c.requires (term 1 0) tt

pub overflow_sub-result-4 : goal.overflow_sub-result-4
overflow_sub-result-4 c = fits c.args.p c.args.q c.args.r c.requires (minor 0 1) tt

pub overflow_mul-result-9 : goal.overflow_mul-result-9
overflow_mul-result-9 c = fits c.args.p c.args.q c.args.r c.requires (part 2 0 1) tt

pub overflow_add-result : goal.overflow_add-result
overflow_add-result c = fits c.args.p c.args.q c.args.r c.requires three tt

pub returns : goal.returns
returns c = kept-value bounds (values c.args.p c.args.q c.args.r) (all_in c.args.p c.args.q c.args.r c.requires) (kept w64 three) tt
