-- The pieces of one tetrahedron more.
use Rattle.std.proofs.Common.{◌≡◌, ℕ, Bool, List, [], ◌∷◌, ◌++◌, sym, ◌∙◌, ap, append_assoc}
use Rattle.std.specs.List.{filter, flat_map}
use Rattle.std.proofs.lemmas.Grind.{flat_map-append}
use Rattle.std.proofs.lemmas.List.Elements.{filter-append}

pub pieces_step : (g : List ℕ → List (List ℕ)) (p : List ℕ → Bool) (t : List ℕ) (rest all new target : List (List ℕ)) → new ≡ all ++ flat_map g (filter p (t ∷ [])) → all ++ flat_map g (filter p (t ∷ rest)) ≡ target → new ++ flat_map g (filter p rest) ≡ target
pieces_step g p t rest all new target more before =
    ap (λ (ts : List (List ℕ)). ts ++ flat_map g (filter p rest)) more
    ∙ append_assoc all (flat_map g (filter p (t ∷ []))) (flat_map g (filter p rest))
    ∙ ap (λ (ts : List (List ℕ)). all ++ ts) (sym (flat_map-append g (filter p (t ∷ [])) (filter p rest)))
    ∙ ap (λ (ts : List (List ℕ)). all ++ flat_map g ts) (sym (filter-append p (t ∷ []) rest))
    ∙ before
