-- Triples with the numbers of the file rise, and stand in order, where the triples do.
use Rattle.std.proofs.Common.{◌≡◌, ℕ, ◌+◌, ◌<◌, true, ◌||◌, ◌&&◌, eqb, ltb, List, [], ◌∷◌, map, refl, ap₂, ◌∙◌, arith}
use Rattle.std.specs.List.{AllByRecursion as Each}
use Rattle.std.proofs.lemmas.Bool.Decides.{nat_tests}
use Rattle.grid.specs.Simplices.{Rises}
use Rattle.grid.specs.Meshes.{is_below, Ordered}
use Rattle.msh_text.specs.FileMesh.{file_numbers}

eqb-next : (a b : ℕ) → eqb (a + 1) (b + 1) ≡ eqb a b
eqb-next a b = grind (arith, nat_tests)

ltb-next : (a b : ℕ) → ltb (a + 1) (b + 1) ≡ ltb a b
ltb-next a b = grind (arith, nat_tests)

above-next : (a : ℕ) (x : List ℕ) → Each (λ b. a < b) x → Each (λ b. a + 1 < b) (file_numbers x)
above-next a [] h = tt
above-next a (b ∷ x) h = (let lt = h.0 in omega (arith, lt), above-next a x h.1)

pub Rises-next : (x : List ℕ) → Rises x → Rises (file_numbers x)
Rises-next [] h = tt
Rises-next (a ∷ x) h = (above-next a x h.0, Rises-next x h.1)

is_below-next : (x y : List ℕ) → is_below (file_numbers x) (file_numbers y) ≡ is_below x y
is_below-next [] [] = refl
is_below-next [] (b ∷ y) = refl
is_below-next (a ∷ x) [] = refl
is_below-next (a ∷ x) (b ∷ y) = ap₂ ◌||◌ (ltb-next a b) (ap₂ ◌&&◌ (eqb-next a b) (is_below-next x y))

below-next : (x : List ℕ) (ys : List (List ℕ)) → Each (λ y. is_below x y ≡ true) ys → Each (λ y. is_below (file_numbers x) y ≡ true) (map file_numbers ys)
below-next x [] h = tt
below-next x (y ∷ ys) h = (is_below-next x y ∙ h.0, below-next x ys h.1)

pub Ordered-next : (xs : List (List ℕ)) → Ordered xs → Ordered (map file_numbers xs)
Ordered-next [] h = tt
Ordered-next (x ∷ xs) h = (below-next x xs h.0, Ordered-next xs h.1)
