-- Lists of numbers below 2^32 as one number, so that they are compared at once.
use Rattle.std.specs.Prelude.{◌≡◌, ℕ, ◌+◌, ◌*◌, ◌^◌, ◌<◌, List, [], ◌∷◌, length, All}

-- the number with these digits, the first of them the highest
abbrev pub packed : List ℕ → ℕ
packed [] = 0
packed (x ∷ xs) = x * 2 ^ (32 * length xs) + packed xs

-- a number with so many digits
pub record IsPacked (many : ℕ) (digits : List ℕ) (number : ℕ) : Type 0 where
  pub many_are : length digits ≡ many
  pub fit : All (λ k. k < 2 ^ 32) digits
  pub number_is : number ≡ packed digits
