-- The code's values as codes (`Kept`): each fits by its bound, and the result is the sum.
use Rattle.std.proofs.Common.{◌≡◌, ℕ, ◌+◌, ◌^◌, List, [], ◌∷◌, w64, subst, sym}
use Rattle.int_algebra.specs.Within.{IsWithin}
use Rattle.int_algebra.proofs.Kept.{Code, variable, ◌⊕◌, ◌⊗◌, kept, code_value, kept-value}
use Rattle.grid.specs.Vectors as vectors
use Rattle.grid.proofs.ForCallers.{coordinates_then}
use Rattle.vectors.specs.declared.vector.Vector.{Vector}
use Rattle.vectors.specs.Bounded.{vector_of, IsVectorWithin}
use Rattle.vectors.proofs.VectorLemmas.{two_within, dot-IsWithin}
use Rattle.vectors.proofs.products.short_dot.Goals as goal

abbrev term : ℕ → Code
term i = kept w64 (variable i) ⊗ kept w64 (variable (3 + i))

abbrev two : Code
two = kept w64 (term 0) ⊕ kept w64 (term 1)

abbrev three : Code
three = kept w64 two ⊕ kept w64 (term 2)

abbrev bounds : List ℕ
bounds = 2 ^ 37 ∷ 2 ^ 37 ∷ 2 ^ 37 ∷ 2 ^ 24 ∷ 2 ^ 24 ∷ 2 ^ 24 ∷ []

module _ (m n : Vector) (h : record { m_in : IsVectorWithin (2 ^ 37) (vector_of m); n_in : IsVectorWithin (2 ^ 24) (vector_of n) }) where
  is : code_value (coordinates_then (vector_of m ∷ vector_of n ∷ []) []) (kept w64 three) ≡ vectors.dot (vector_of m) (vector_of n)
  unfolding vectors.dot
  is = kept-value bounds (coordinates_then (vector_of m ∷ vector_of n ∷ []) []) (two_within h.m_in h.n_in) (kept w64 three) tt

pub returns-clause-value : goal.returns-clause-value
returns-clause-value c = is c.args.m c.args.n c.requires

pub returns-clause-within : goal.returns-clause-within
returns-clause-within c = λ j k l h i le. subst (IsWithin l) (sym (is c.args.m c.args.n c.requires)) (dot-IsWithin l h i le)
