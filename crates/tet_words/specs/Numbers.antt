-- Numbers among the words.
use Rattle.std.specs.Prelude.{ℕ, ◌+◌, ◌-◌, ◌*◌, Bool, ◌&&◌, ◌==◌, nat_le, if◌then◌else◌, List, [], ◌∷◌, length, Option, Some, None, Result, Ok, Err}
use Rattle.std.specs.List.{list_any}
use Rattle.tet_words.specs.declared.fault.WordFault.{WordFault}
use Rattle.tet_words.specs.declared.fault.WordFault.TheVariants as faults
use Rattle.tet_words.specs.Steps.{◌>>=◌}

abbrev pub is_digit : ℕ → Bool
is_digit c = nat_le 48 c && nat_le c 57

-- the number whose first digits have the value n and whose further digits follow, if these are digits
abbrev pub number_from : ℕ → List ℕ → Option ℕ
number_from n [] = Some n
number_from n (c ∷ cs) = if is_digit c then number_from (10 * n + (c - 48)) cs else None

-- a number of one to ten digits, leading zeros allowed
abbrev pub number_of : List ℕ → Option ℕ
number_of word = if nat_le 1 (length word) && nat_le (length word) 10 then number_from 0 word else None

abbrev pub between : (low high : ℕ) → WordFault → Option ℕ → Result ℕ WordFault
between low high fault (Some n) = if nat_le low n && nat_le n high then Ok n else Err fault
between low high fault None = Err fault

-- a number from low to high
abbrev pub number_in : (low high : ℕ) → WordFault → List ℕ → Result ℕ WordFault
number_in low high fault word = between low high fault (number_of word)

-- the same of the value of an option, or the default where it is not given
abbrev pub given_number : (default low high : ℕ) → WordFault → Option (List ℕ) → Result ℕ WordFault
given_number default low high fault (Some word) = number_in low high fault word
given_number default low high fault None = Ok default

-- one of the six numbers of cells
abbrev pub is_cells : ℕ → Bool
is_cells n = list_any (λ m. n == m) (1 ∷ 2 ∷ 4 ∷ 8 ∷ 16 ∷ 32 ∷ [])

abbrev pub given_cells : Option (List ℕ) → Result ℕ WordFault
given_cells (Some word) = number_in 1 32 faults.Cells word >>= λ n. if is_cells n then Ok n else Err faults.Cells
given_cells None = Ok 4

abbrev pub given_digits : Option (List ℕ) → Result (Option ℕ) WordFault
given_digits (Some word) = number_in 0 5 faults.Digits word >>= λ n. Ok (Some n)
given_digits None = Ok None
