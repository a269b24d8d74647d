-- The last member of the second part.
use Rattle.std.proofs.Common.{◌≡◌, ℕ, ◌+◌, ◌-◌, List, [], ◌∷◌, ◌++◌, length, map, get_or, ap, ◌∙◌, arith}
use Rattle.std.proofs.lemmas.List.{length-append, length-map, map-append}
use Rattle.std.proofs.Math.Seq.{get_or-append_seam}
use Rattle.mesh_types.specs.declared.outcome.Again.{Again}
use Rattle.report_text.specs.Rules.{least_next}

pub least_next_is : (before : List Again) (a : Again) → least_next (before ++ a ∷ []) ≡ a.triangle + 1
least_next_is before a =
    let f : Again → ℕ = λ b. b.triangle + 1 in
    let place : length (before ++ a ∷ []) - 1 ≡ length (map f before) = omega (arith, length-append before (a ∷ []), length-map before f) in
    ap (λ l. get_or l (length (before ++ a ∷ []) - 1) 0) (map-append f before (a ∷ [])) ∙ ap (λ n. get_or (map f before ++ f a ∷ []) n 0) place ∙ get_or-append_seam (map f before) (f a) [] 0
