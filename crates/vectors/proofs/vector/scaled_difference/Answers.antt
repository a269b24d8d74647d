-- The code's values as codes (`Kept`), where t is the number 0, and the coordinates of p and a are 1 to 3 and 4 to 6.
use Rattle.std.proofs.Common.{◌≡◌, ℕ, ◌+◌, ◌^◌, List, [], ◌∷◌, ℤ, w32, w64, SFits, T, subst, sym}
use Rattle.int_algebra.proofs.Bounds.{AreWithin, within_natural}
use Rattle.int_algebra.proofs.Kept.{Code, variable, ◌⊖◌, ◌⊗◌, kept, code_value, is_safe, kept-value, fits_code}
use Rattle.grid.specs.declared.shapes.Point.{Point}
use Rattle.grid.specs.Boxes.{IsUpTo, IsInBox}
use Rattle.grid.specs.Vectors as vectors
use Rattle.grid.specs.Limits.{largest_side}
use Rattle.vectors.specs.Bounded.{gap_of, IsVectorWithin}
use Rattle.vectors.proofs.VectorLemmas.{points_within, gap_of-IsVectorWithin}
use Rattle.vectors.proofs.vector.scaled_difference.Goals as goal

abbrev product : ℕ → Code
product i = kept w64 (variable 0) ⊗ kept w64 (kept w32 (variable (4 + i)))

abbrev part : ℕ → Code
part i = kept w64 (kept w32 (variable (1 + i))) ⊖ kept w64 (product i)

abbrev bounds : List ℕ
bounds = 2 ^ 6 ∷ 2 ^ 24 ∷ 2 ^ 24 ∷ 2 ^ 24 ∷ largest_side ∷ largest_side ∷ largest_side ∷ []

abbrev values : Point → ℤ → Point → List ℤ
values p t a = t ∷ p.x ∷ p.y ∷ p.z ∷ a.x ∷ a.y ∷ a.z ∷ []

module _ (p a : Point) (t : ℤ) (h : record { p_in : IsInBox (2 ^ 24) p; t_in : IsUpTo (2 ^ 6) t; a_in : IsInBox largest_side a }) where
  all_in : AreWithin bounds (values p t a)
  all_in = (within_natural _ t h.t_in.low h.t_in.high, points_within h.p_in h.a_in)

  fits : (e : Code) → T (is_safe bounds (kept w64 e)) → SFits w64 (code_value (values p t a) e)
  fits = fits_code bounds (values p t a) all_in w64

  is : ◌≡◌ {A = vectors.Vector}
      (record { x = code_value (values p t a) (kept w64 (part 0)); y = code_value (values p t a) (kept w64 (part 1)); z = code_value (values p t a) (kept w64 (part 2)) })
      (gap_of p t a)
  unfolding gap_of
  is =
      let at = kept-value bounds (values p t a) all_in in
      λ i. record { x = at (kept w64 (part 0)) tt i; y = at (kept w64 (part 1)) tt i; z = at (kept w64 (part 2)) tt i }

pub overflow_mul-result : goal.overflow_mul-result
overflow_mul-result c = fits c.args.p c.args.a c.args.t c.requires (product 0) tt

pub overflow_sub-result : goal.overflow_sub-result
overflow_sub-result c = fits c.args.p c.args.a c.args.t c.requires (part 0) tt

pub overflow_mul-result-2 : goal.overflow_mul-result-2
overflow_mul-result-2 c = fits c.args.p c.args.a c.args.t c.requires (product 1) tt

pub overflow_sub-result-2 : goal.overflow_sub-result-2
overflow_sub-result-2 c = fits c.args.p c.args.a c.args.t c.requires (part 1) tt

pub overflow_mul-result-3 : goal.overflow_mul-result-3
overflow_mul-result-3 c = fits c.args.p c.args.a c.args.t c.requires (product 2) tt

pub overflow_sub-result-3 : goal.overflow_sub-result-3
overflow_sub-result-3 c = fits c.args.p c.args.a c.args.t c.requires (part 2) tt

pub returns-clause-value : goal.returns-clause-value
returns-clause-value c = is c.args.p c.args.a c.args.t c.requires

pub returns-clause-within : goal.returns-clause-within
returns-clause-within c =
    subst (IsVectorWithin (2 ^ 24)) (sym (is c.args.p c.args.a c.args.t c.requires)) (gap_of-IsVectorWithin (2 ^ 6) largest_side c.args.t c.args.p c.args.a c.requires.p_in c.requires.t_in c.requires.a_in)
