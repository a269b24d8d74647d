-- The code's values as codes (`Kept`): each fits by its bound, and the result is the sum.
use Rattle.std.proofs.Common.{◌≡◌, ℕ, ◌+◌, ◌^◌, List, [], ◌∷◌, w64, subst, sym}
use mir.Syntax.{w128}
use Rattle.int_algebra.specs.Within.{IsWithin}
use Rattle.int_algebra.proofs.Kept.{Code, variable, ◌⊕◌, ◌⊗◌, kept, code_value, kept-value}
use Rattle.grid.specs.Vectors as vectors
use Rattle.grid.proofs.ForCallers.{coordinates_then}
use Rattle.vectors.specs.declared.vector.Vector.{Vector}
use Rattle.vectors.specs.Bounded.{vector_of, IsVectorWithin}
use Rattle.vectors.proofs.VectorLemmas.{two_within, dot-IsWithin}
use Rattle.vectors.proofs.Fitting.{long_three-SFits}
use Rattle.vectors.proofs.products.dot.Goals as goal

abbrev term : ℕ → Code
term i = kept w128 (kept w64 (variable i)) ⊗ kept w128 (kept w64 (variable (3 + i)))

abbrev two : Code
two = kept w128 (term 0) ⊕ kept w128 (term 1)

abbrev three : Code
three = kept w128 two ⊕ kept w128 (term 2)

abbrev bounds : List ℕ
bounds = 2 ^ 49 ∷ 2 ^ 49 ∷ 2 ^ 49 ∷ 2 ^ 49 ∷ 2 ^ 49 ∷ 2 ^ 49 ∷ []

module _ (m n : Vector) (h : record { m_in : IsVectorWithin (2 ^ 49) (vector_of m); n_in : IsVectorWithin (2 ^ 49) (vector_of n) }) where
  is : code_value (coordinates_then (vector_of m ∷ vector_of n ∷ []) []) (kept w128 three) ≡ vectors.dot (vector_of m) (vector_of n)
  unfolding vectors.dot
  is = kept-value bounds (coordinates_then (vector_of m ∷ vector_of n ∷ []) []) (two_within h.m_in h.n_in) (kept w128 three) tt

pub overflow_add-result-2 : goal.overflow_add-result-2
overflow_add-result-2 c =
    let h = c.requires.m_in in
    let i = c.requires.n_in in
    long_three-SFits _ _ _ _ _ _ h.x_in i.x_in h.y_in i.y_in h.z_in i.z_in

pub returns-clause-value : goal.returns-clause-value
returns-clause-value c = is c.args.m c.args.n c.requires

pub returns-clause-within : goal.returns-clause-within
returns-clause-within c = λ j k l h i le. subst (IsWithin l) (sym (is c.args.m c.args.n c.requires)) (dot-IsWithin l h i le)
