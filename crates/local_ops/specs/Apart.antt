-- Whether a collapse lays a face on another.
use Rattle.std.specs.Prelude.{ℕ, Bool, false, not, ◌&&◌, ◌||◌, nat_lt, List, [], ◌∷◌, count_by}
use Rattle.std.specs.List.{list_all}
use Rattle.grid.specs.Simplices.{has, replaced, faces, is_rotation}

-- no oriented face of y is one of z
abbrev pub shares_no_face : List ℕ → List ℕ → Bool
shares_no_face y z = list_all (λ f. not (nat_lt 0 (count_by (is_rotation f) (faces z)))) (faces y)

-- three corners of y are corners of z
abbrev pub shares_three : List ℕ → List ℕ → Bool
shares_three (a ∷ b ∷ c ∷ d ∷ []) z = (has z a && has z b && (has z c || has z d)) || (has z c && has z d && (has z a || has z b))
shares_three y z = false

-- z has u, or no face of y
abbrev pub is_apart_from : ℕ → List ℕ → List ℕ → Bool
is_apart_from u y z = has z u || shares_no_face y z

-- x has v, or no face of it, with v in place of u, is one of those that have not u
abbrev pub is_apart : ℕ → ℕ → List (List ℕ) → List ℕ → Bool
is_apart u v xs x = has x v || list_all (is_apart_from u (replaced u v x)) xs
