-- The code's values as codes (`Kept`): each fits by its bound, and the result is the vector product.
use Rattle.std.proofs.Common.{◌≡◌, ℕ, ◌+◌, ◌^◌, List, [], ◌∷◌, w64, subst, sym, lit≤}
use Rattle.int_algebra.proofs.Kept.{Code, variable, ◌⊖◌, ◌⊗◌, kept, code_value, kept-value}
use Rattle.grid.specs.Vectors as vectors
use Rattle.grid.proofs.ForCallers.{coordinates_then}
use Rattle.vectors.specs.declared.vector.Vector.{Vector}
use Rattle.vectors.specs.Bounded.{vector_of, IsVectorWithin}
use Rattle.vectors.proofs.VectorLemmas.{two_within, cross-IsVectorWithin}
use Rattle.vectors.proofs.products.cross.Goals as goal

-- the product of the component i of m and the component j of n
abbrev term : ℕ → ℕ → Code
term i j = kept w64 (variable i) ⊗ kept w64 (variable (3 + j))

abbrev minor : ℕ → ℕ → Code
minor i j = kept w64 (term i j) ⊖ kept w64 (term j i)

abbrev bounds : List ℕ
bounds = 2 ^ 24 ∷ 2 ^ 24 ∷ 2 ^ 24 ∷ 2 ^ 24 ∷ 2 ^ 24 ∷ 2 ^ 24 ∷ []

module _ (m n : Vector) (h : record { m_in : IsVectorWithin (2 ^ 24) (vector_of m); n_in : IsVectorWithin (2 ^ 24) (vector_of n) }) where
  is : ◌≡◌ {A = vectors.Vector}
      (record { x = code_value (coordinates_then (vector_of m ∷ vector_of n ∷ []) []) (kept w64 (minor 1 2)); y = code_value (coordinates_then (vector_of m ∷ vector_of n ∷ []) []) (kept w64 (minor 2 0)); z = code_value (coordinates_then (vector_of m ∷ vector_of n ∷ []) []) (kept w64 (minor 0 1)) })
      (vectors.cross (vector_of m) (vector_of n))
  is =
      let at = kept-value bounds (coordinates_then (vector_of m ∷ vector_of n ∷ []) []) (two_within h.m_in h.n_in) in
      λ i. record { x = at (kept w64 (minor 1 2)) tt i; y = at (kept w64 (minor 2 0)) tt i; z = at (kept w64 (minor 0 1)) tt i }

pub returns-clause-value : goal.returns-clause-value
returns-clause-value c = is c.args.m c.args.n c.requires

pub returns-clause-within : goal.returns-clause-within
returns-clause-within c = subst (IsVectorWithin (2 ^ 49)) (sym (is c.args.m c.args.n c.requires)) (cross-IsVectorWithin (2 ^ 49) c.requires.m_in c.requires.n_in (lit≤ tt))

pub returns-clause-short : goal.returns-clause-short
returns-clause-short c = λ h i. subst (IsVectorWithin (2 ^ 37)) (sym (is c.args.m c.args.n c.requires)) (cross-IsVectorWithin (2 ^ 37) h i (lit≤ tt))
