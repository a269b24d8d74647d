-- What is put at the end of a text, piece after piece.
use Rattle.std.proofs.Common.{◌≡◌, ℕ, List, ◌++◌, ap, ◌∙◌, append_assoc}
use Rattle.std.specs.Prelude.{codes}

-- the six pieces of a line
pub six_pieces : (old a b c o p q r s t : List ℕ) → o ≡ old ++ a → p ≡ o ++ codes " " → q ≡ p ++ b → r ≡ q ++ codes " " → s ≡ r ++ c → t ≡ s ++ codes "\n" → t ≡ old ++ (a ++ codes " " ++ b ++ codes " " ++ c ++ codes "\n")
six_pieces old a b c o p q r s t e f g h i j =
    j ∙ ap (λ bs. bs ++ codes "\n") (i ∙ ap (λ bs. bs ++ c) (h ∙ ap (λ bs. bs ++ codes " ") (g ∙ ap (λ bs. bs ++ b) (f ∙ ap (λ bs. bs ++ codes " ") e))))
    ∙ regroup old a b c
  where
    regroup : (old a b c : List ℕ) → old ++ a ++ codes " " ++ b ++ codes " " ++ c ++ codes "\n" ≡ old ++ (a ++ codes " " ++ b ++ codes " " ++ c ++ codes "\n")
    regroup old a b c = simp append_assoc
