-- The height field is within the limits of a soup.
use Rattle.std.proofs.Common.{◌≡◌, ℕ, suc, ◌+◌, ◌*◌, ◌/◌, ◌%◌, ◌^◌, ◌<◌, ◌≤◌, List, [], ◌∷◌, length, All, ap, refl, sym, ◌∙◌, subst, arith, ℤ, pos}
use Rattle.std.proofs.lemmas.Int.{ints}
use Rattle.std.proofs.lemmas.List.Elements.{All-from_recursion}
use Rattle.std.specs.List.{AllByRecursion, range_with_len, flat_map}
use native.Mathlib.Nat.{mul-le-mul}
use Rattle.soup.specs.Limits.{IsVertex, IsFaceBelow, IsRaw}
use Rattle.soup.specs.Placement.{along, extent, IsInside}
use Rattle.soup.specs.HeightField.{next_word, word_after, height, at_places, vertex_number, vertex_at, square_at, height_field}
use Rattle.soup.proofs.Places.{row_length, row_all}
use Rattle.soup.proofs.Ranges.{inside, spread_inside}

-- ---- words
pub one_step : (seed n word : ℕ) → word ≡ word_after seed n → next_word word ≡ word_after seed (n + 1)
unfolding word_after
one_step seed n word is =
    let more : n + 1 ≡ suc n = omega arith in
    ap next_word is ∙ sym (ap (word_after seed) more)

pub no_step : (seed n : ℕ) → n ≡ 0 → seed ≡ word_after seed n
unfolding word_after
no_step seed n is = sym (ap (word_after seed) is)

-- a vertex by the word that was taken for it
pub vertex_is : (k seed i j word : ℕ) (v : List ℤ) → v ≡ pos (4 * i) ∷ pos (4 * j) ∷ pos (word / 2 ^ 29) ∷ [] → word ≡ word_after seed (vertex_number k i j + 1) → v ≡ vertex_at k seed i j
vertex_is k seed i j word v is taken = is ∙ ap (λ (w : ℕ). pos (4 * i) ∷ pos (4 * j) ∷ pos (w / 2 ^ 29) ∷ []) taken

below : (x : ℕ) → x % 2 ^ 32 / 2 ^ 29 ≤ 7
below x = omega arith

pub height_few : (seed n : ℕ) → height seed n ≤ 7
height_few seed n = subst (λ (m : ℕ). m / 2 ^ 29 ≤ 7) (one_step seed n (word_after seed n) refl) (below (1664525 * word_after seed n + 1013904223))

-- behind the last vertex of a row comes the first of the next
pub next_row : (p j : ℕ) → p + p * j ≡ 0 + p * (j + 1)
next_row p j = grind arith

-- ---- each place
pub places_length : {X : Type 0} (w n : ℕ) (f : ℕ → ℕ → List X) → ((i j : ℕ) → length (f i j) ≡ w) → length (at_places n f) ≡ n * (n * w)
places_length w n f h = row_length (λ j. flat_map (λ i. f i j) (range_with_len 0 n)) (n * w) 0 n (λ j. row_length (λ i. f i j) w 0 n (λ i. h i j))

places_all : {X : Type 0} (P : X → Type 0) (n : ℕ) (f : ℕ → ℕ → List X) → ((i j : ℕ) → i < n → j < n → AllByRecursion P (f i j)) → AllByRecursion P (at_places n f)
places_all P n f h = row_all P (λ j. flat_map (λ i. f i j) (range_with_len 0 n)) 0 n (λ j below_j. row_all P (λ i. f i j) 0 n (λ i below_i. h i j (omega arith) (omega arith)))

-- ---- vertices
-- a vertex whose coordinates are from 0 to 256
record IsLow (v : List ℤ) : Type 0 where
  x : IsInside 0 256 (along 0 v)
  y : IsInside 0 256 (along 1 v)
  z : IsInside 0 256 (along 2 v)

vertex_low : (k seed i j : ℕ) → k ≤ 64 → i < k + 1 → j < k + 1 → IsLow (vertex_at k seed i j)
vertex_low k seed i j few in_i in_j = record {
  x = inside 256 (4 * i) (omega arith);
  y = inside 256 (4 * j) (omega arith);
  z = inside 256 (height seed (vertex_number k i j)) (omega (arith, height_few seed (vertex_number k i j)));
}

vertices_low : (k seed : ℕ) → k ≤ 64 → AllByRecursion IsLow (at_places (k + 1) (λ i j. vertex_at k seed i j ∷ []))
vertices_low k seed few = places_all IsLow (k + 1) (λ i j. vertex_at k seed i j ∷ []) (λ i j in_i in_j. (vertex_low k seed i j few in_i in_j, tt))

each : {X : Type 0} (P Q : X → Type 0) → ((x : X) → P x → Q x) → (xs : List X) → AllByRecursion P xs → AllByRecursion Q xs
each P Q h [] ps = tt
each P Q h (x ∷ xs) ps = (h x ps.0, each P Q h xs ps.1)

low-IsVertex : (v : List ℤ) → IsLow v → IsVertex v
low-IsVertex v h = record {
  x_in = record { within = omega (arith, ints, h.x.low, h.x.high) };
  y_in = record { within = omega (arith, ints, h.y.low, h.y.high) };
  z_in = record { within = omega (arith, ints, h.z.low, h.z.high) };
}

-- ---- triangles
-- a vertex of the square of side n has a number below the square of n
number_below : (k i j : ℕ) → i ≤ k → j ≤ k → vertex_number k i j < (k + 1) * ((k + 1) * 1)
number_below k i j in_i in_j =
    let rows : (k + 1) * j ≤ (k + 1) * k = mul-le-mul (omega arith) in_j in
    let all : (k + 1) * ((k + 1) * 1) ≡ (k + 1) * k + (k + 1) = grind arith in
    omega (arith, rows, all)

square_below : (k i j : ℕ) → i < k → j < k → AllByRecursion (IsFaceBelow ((k + 1) * ((k + 1) * 1))) (square_at k i j)
square_below k i j in_i in_j =
    let near = number_below k i j (omega arith) (omega arith) in
    let right = number_below k (i + 1) j (omega arith) (omega arith) in
    let far = number_below k (i + 1) (j + 1) (omega arith) (omega arith) in
    let above = number_below k i (j + 1) (omega arith) (omega arith) in
    (record { a_in = near; b_in = right; c_in = far }, (record { a_in = near; b_in = far; c_in = above }, tt))

-- ---- the soup
few_places : (m n w : ℕ) → m ≤ n → m * (m * w) ≤ n * (n * w)
few_places m n w le = mul-le-mul le (mul-le-mul le (omega arith))

pub height_field-IsRaw : (k seed : ℕ) → k ≤ 64 → IsRaw (height_field k seed)
unfolding height_field
height_field-IsRaw k seed few =
    let count : length (height_field k seed).vertices ≡ (k + 1) * ((k + 1) * 1) = places_length 1 (k + 1) (λ i j. vertex_at k seed i j ∷ []) (λ i j. refl) in
    let faces : length (height_field k seed).faces ≡ k * (k * 2) = places_length 2 k (square_at k) (λ i j. refl) in
    record {
      vertices_few = omega (arith, count, few_places (k + 1) 65 1 (omega arith));
      faces_few = omega (arith, faces, few_places k 64 2 few);
      coordinates = All-from_recursion IsVertex (height_field k seed).vertices (each IsLow IsVertex low-IsVertex (height_field k seed).vertices (vertices_low k seed few));
      corners = subst (λ (n : ℕ). All (IsFaceBelow n) (height_field k seed).faces) (sym count)
          (All-from_recursion (IsFaceBelow ((k + 1) * ((k + 1) * 1))) (height_field k seed).faces (places_all (IsFaceBelow ((k + 1) * ((k + 1) * 1))) k (square_at k) (square_below k)));
    }

pub height_field_extent : (k seed : ℕ) → k ≤ 64 → extent (height_field k seed) ≤ 256
unfolding height_field
height_field_extent k seed few =
    let low = vertices_low k seed few in
    let vs = (height_field k seed).vertices in
    omega (
      arith,
      spread_inside 256 0 vs (each IsLow (λ v. IsInside 0 256 (along 0 v)) (λ v h. h.x) vs low),
      spread_inside 256 1 vs (each IsLow (λ v. IsInside 0 256 (along 1 v)) (λ v h. h.y) vs low),
      spread_inside 256 2 vs (each IsLow (λ v. IsInside 0 256 (along 2 v)) (λ v h. h.z) vs low),
    )
