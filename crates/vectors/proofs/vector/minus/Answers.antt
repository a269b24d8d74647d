-- The code's values as codes (`Kept`).
use Rattle.std.proofs.Common.{ℕ, ◌+◌, ◌^◌, List, [], ◌∷◌, w64}
use Rattle.int_algebra.proofs.Kept.{Code, variable, ◌⊖◌, kept, kept-value}
use Rattle.grid.specs.Vectors.{minus}
use Rattle.grid.proofs.ForCallers.{coordinates_then}
use Rattle.vectors.specs.Bounded.{vector_of}
use Rattle.vectors.proofs.VectorLemmas.{two_within}
use Rattle.vectors.proofs.vector.minus.Goals as goal

abbrev part : ℕ → Code
part i = kept w64 (kept w64 (variable i) ⊖ kept w64 (variable (3 + i)))

abbrev bounds : List ℕ
bounds = 2 ^ 24 ∷ 2 ^ 24 ∷ 2 ^ 24 ∷ 2 ^ 24 ∷ 2 ^ 24 ∷ 2 ^ 24 ∷ []

pub returns-clause-value : goal.returns-clause-value
unfolding minus
returns-clause-value c =
    let at = kept-value bounds (coordinates_then (vector_of c.args.m ∷ vector_of c.args.n ∷ []) []) (two_within c.requires.m_in c.requires.n_in) in
    λ i. record { x = at (part 0) tt i; y = at (part 1) tt i; z = at (part 2) tt i }
