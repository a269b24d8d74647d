-- The height field: a square of triangles over a grid of vertices, with heights from a sequence of numbers.
use Rattle.std.specs.Prelude.{ℕ, zero, suc, ◌+◌, ◌*◌, ◌/◌, ◌%◌, ◌^◌, ℤ, pos, List, [], ◌∷◌}
use Rattle.std.specs.List.{range_with_len, flat_map}
use Rattle.soup.specs.declared.raw.Raw.{Raw}

-- ---- heights
-- the word of 32 bits after a word, of a linear congruential sequence
abbrev pub next_word : ℕ → ℕ
next_word x = (1664525 * x + 1013904223) % 2 ^ 32

-- the word so many steps after the seed
unfoldable pub word_after : (seed steps : ℕ) → ℕ
word_after seed zero = seed
word_after seed (suc steps) = next_word (word_after seed steps)

-- the height of a vertex by its number: the topmost three bits of the word that is taken for it, the first for vertex 0
abbrev pub height : (seed number : ℕ) → ℕ
height seed number = word_after seed (number + 1) / 2 ^ 29

-- ---- vertices and triangles
-- what is made for each place (i, j) of n times n places, i running fastest
abbrev pub at_places : {X : Type 0} → (n : ℕ) → (ℕ → ℕ → List X) → List X
at_places n f = flat_map (λ j. flat_map (λ i. f i j) (range_with_len 0 n)) (range_with_len 0 n)

-- the number of the vertex (i, j), of k squares along each axis
abbrev pub vertex_number : (k i j : ℕ) → ℕ
vertex_number k i j = i + (k + 1) * j

-- the vertex (i, j): four units apart along each axis, at its height
abbrev pub vertex_at : (k seed i j : ℕ) → List ℤ
vertex_at k seed i j = pos (4 * i) ∷ pos (4 * j) ∷ pos (height seed (vertex_number k i j)) ∷ []

-- the two triangles of the square (i, j), on both sides of its diagonal from (i, j) to (i + 1, j + 1)
abbrev pub square_at : (k i j : ℕ) → List (List ℕ)
square_at k i j =
    (vertex_number k i j ∷ vertex_number k (i + 1) j ∷ vertex_number k (i + 1) (j + 1) ∷ [])
    ∷ (vertex_number k i j ∷ vertex_number k (i + 1) (j + 1) ∷ vertex_number k i (j + 1) ∷ []) ∷ []

-- the height field of k squares along each axis
unfoldable pub height_field : (k seed : ℕ) → Raw
height_field k seed = record {
  vertices = at_places (k + 1) (λ i j. vertex_at k seed i j ∷ []);
  faces = at_places k (square_at k);
}
