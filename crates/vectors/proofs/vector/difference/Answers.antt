-- The code's values as codes (`Kept`), where the coordinates of a are the numbers 0 to 2 and those of b 3 to 5.
use Rattle.std.proofs.Common.{ℕ, ◌+◌, List, [], ◌∷◌, w32, w64}
use Rattle.grid.specs.Limits.{largest_side}
use Rattle.int_algebra.proofs.Kept.{Code, variable, ◌⊖◌, kept, kept-value}
use Rattle.vectors.proofs.VectorLemmas.{points_within}
use Rattle.vectors.proofs.vector.difference.Goals as goal

abbrev part : ℕ → Code
part i = kept w64 (kept w64 (kept w32 (variable i)) ⊖ kept w64 (kept w32 (variable (3 + i))))

abbrev bounds : List ℕ
bounds = largest_side ∷ largest_side ∷ largest_side ∷ largest_side ∷ largest_side ∷ largest_side ∷ []

pub returns-clause-value : goal.returns-clause-value
returns-clause-value c =
    let at = kept-value bounds (c.args.a.x ∷ c.args.a.y ∷ c.args.a.z ∷ c.args.b.x ∷ c.args.b.y ∷ c.args.b.z ∷ []) (points_within c.requires.a_in c.requires.b_in) in
    λ i. record { x = at (part 0) tt i; y = at (part 1) tt i; z = at (part 2) tt i }
