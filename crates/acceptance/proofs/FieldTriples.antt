-- A height field has vertices of three coordinates and triangles of three corners.
use Rattle.std.proofs.Common.{◌≡◌, ℕ, ◌+◌, List, [], ◌∷◌, length, refl}
use Rattle.std.proofs.lemmas.List.Elements.{All-from_recursion}
use Rattle.std.specs.List.{AllByRecursion as Each, range_with_len, flat_map}
use Rattle.soup.specs.HeightField.{at_places, vertex_at, square_at, height_field}
use Rattle.soup.proofs.ForCallers.{row_all}
use Rattle.off_text.specs.Text.{IsOfTriples}

each_place : {X : Type 0} (P : X → Type 0) (n : ℕ) (f : ℕ → ℕ → List X) → ((i j : ℕ) → Each P (f i j)) → Each P (at_places n f)
each_place P n f h = row_all P (λ j. flat_map (λ i. f i j) (range_with_len 0 n)) 0 n (λ j in_rows. row_all P (λ i. f i j) 0 n (λ i in_row. h i j))

pub height_field-IsOfTriples : (k seed : ℕ) → IsOfTriples (height_field k seed)
unfolding height_field
height_field-IsOfTriples k seed = record {
  vertices = All-from_recursion (λ v. length v ≡ 3) (height_field k seed).vertices (each_place (λ v. length v ≡ 3) (k + 1) (λ i j. vertex_at k seed i j ∷ []) (λ i j. (refl, tt)));
  faces = All-from_recursion (λ f. length f ≡ 3) (height_field k seed).faces (each_place (λ f. length f ≡ 3) k (square_at k) (λ i j. (refl, (refl, tt))));
}
