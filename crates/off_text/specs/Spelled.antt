-- Numbers that are read up to a largest one.
use Rattle.std.specs.Prelude.{◌≡◌, ℕ, ◌*◌, ◌^◌, true, min, List}
use Rattle.off_text.specs.Numbers.{is_number, decimal}

-- the word is a number, and n is that, or the largest that is read
pub record Spells (word : List ℕ) (n : ℕ) : Type 0 where
  pub digits : is_number word ≡ true
  pub value : n ≡ min (decimal word) (2 * 10 ^ 9)
