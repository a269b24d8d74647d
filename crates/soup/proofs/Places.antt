-- What is made for each place of a square, row by row.
use Rattle.std.proofs.Common.{◌≡◌, ℕ, zero, suc, ◌+◌, ◌*◌, ◌<◌, List, [], ◌∷◌, ◌++◌, length, refl, ap, sym, ◌∙◌, append_assoc, arith, length-append}
use Rattle.std.proofs.lemmas.List.{append-nil}
use Rattle.std.specs.List.{range_with_len, flat_map, AllByRecursion}
use Rattle.soup.specs.HeightField.{at_places}

-- ---- one row
pub row_more : {X : Type 0} (f : ℕ → List X) (a n j : ℕ) → a + n ≡ j → flat_map f (range_with_len a (n + 1)) ≡ flat_map f (range_with_len a n) ++ f j
row_more f a zero j is =
    let same : a ≡ j = omega (arith, is) in
    append-nil (f a) ∙ ap f same
row_more f a (suc n) j is =
    let longer : suc n + 1 ≡ suc (n + 1) = omega arith in
    ap (λ m. flat_map f (range_with_len a m)) longer
    ∙ ap (λ xs. f a ++ xs) (row_more f (a + 1) n j (omega (arith, is)))
    ∙ sym (append_assoc (f a) (flat_map f (range_with_len (a + 1) n)) (f j))

pub row_length : {X : Type 0} (f : ℕ → List X) (w a n : ℕ) → ((i : ℕ) → length (f i) ≡ w) → length (flat_map f (range_with_len a n)) ≡ n * w
row_length f w a zero h = omega arith
row_length f w a (suc n) h = omega (arith, length-append (f a) (flat_map f (range_with_len (a + 1) n)), h a, row_length f w (a + 1) n h)

all_joined : {X : Type 0} (P : X → Type 0) (xs ys : List X) → AllByRecursion P xs → AllByRecursion P ys → AllByRecursion P (xs ++ ys)
all_joined P [] ys h k = k
all_joined P (x ∷ xs) ys h k = (h.0, all_joined P xs ys h.1 k)

pub row_all : {X : Type 0} (P : X → Type 0) (f : ℕ → List X) (a n : ℕ) → ((i : ℕ) → i < a + n → AllByRecursion P (f i)) → AllByRecursion P (flat_map f (range_with_len a n))
row_all P f a zero h = tt
row_all P f a (suc n) h = all_joined P (f a) (flat_map f (range_with_len (a + 1) n)) (h a (omega arith)) (row_all P f (a + 1) n (λ i lt. h i (omega arith)))

-- ---- the rows below j, and the places below i of the row j
pub so_far : {X : Type 0} → (ℕ → ℕ → List X) → (n i j : ℕ) → List X
so_far f n i j = flat_map (λ j. flat_map (λ i. f i j) (range_with_len 0 n)) (range_with_len 0 j) ++ flat_map (λ i. f i j) (range_with_len 0 i)

module _ {X : Type 0} (f : ℕ → ℕ → List X) (n : ℕ) where
  row : ℕ → List X
  row j = flat_map (λ i. f i j) (range_with_len 0 n)

  pub so_far-none : so_far f n 0 0 ≡ []
  unfolding so_far
  so_far-none = refl

  pub so_far-more : (i j : ℕ) → so_far f n i j ++ f i j ≡ so_far f n (i + 1) j
  unfolding so_far row
  so_far-more i j =
      append_assoc (flat_map row (range_with_len 0 j)) (flat_map (λ i. f i j) (range_with_len 0 i)) (f i j)
      ∙ ap (λ xs. flat_map row (range_with_len 0 j) ++ xs) (sym (row_more (λ i. f i j) 0 i i (omega arith)))

  pub so_far-row : (j : ℕ) → so_far f n n j ≡ so_far f n 0 (j + 1)
  unfolding so_far row
  so_far-row j =
      sym (row_more row 0 j j (omega arith))
      ∙ sym (append-nil (flat_map row (range_with_len 0 (j + 1))))

  pub so_far-all : so_far f n 0 n ≡ at_places n f
  unfolding so_far row
  so_far-all = append-nil (flat_map row (range_with_len 0 n))

pub ruleset so_far_steps = (so_far-none, so_far-more, so_far-row, so_far-all)
