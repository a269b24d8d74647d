-- What is put at the end of a text, one behind the other.
use Rattle.std.proofs.Common.{◌≡◌, List, [], ◌++◌, sym, ap, ◌∙◌, append_assoc, ℕ}
use Rattle.std.proofs.lemmas.List.{append-nil}

-- one more in front, and the last one
pub put_more : (old after text : List ℕ) {now new : List ℕ} → now ≡ old ++ text → new ≡ now ++ after → new ≡ old ++ (text ++ after)
put_more old after text {now} {new} e k = k ∙ ap (λ bs. bs ++ after) e ∙ append_assoc old text after

pub put_last : (old text : List ℕ) {new : List ℕ} → new ≡ old ++ text → new ≡ old ++ (text ++ [])
put_last old text {new} e = e ∙ ap (λ bs. old ++ bs) (sym (append-nil text))
