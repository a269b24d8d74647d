-- The numbers of an OFF text.
use Rattle.std.specs.Prelude.{ℕ, ◌+◌, ◌-◌, ◌*◌, ◌^◌, ◌==◌, ◌&&◌, ◌||◌, Bool, true, false, not, nat_lt, List, [], ◌∷◌, drop, fold, if◌then◌else◌, Result, Ok, Err, ℤ, pos, neg_ℤ}
use Rattle.std.specs.Char.{is_ascii_digit}
use Rattle.std.specs.List.{list_all, take_while, prefix_len}
use Rattle.off_text.specs.declared.issue.OffKind.{OffKind}
use Rattle.off_text.specs.declared.issue.OffKind.TheVariants.{BadNumber, NotWhole, TooLarge}

-- no bytes
abbrev pub is_empty : List ℕ → Bool
is_empty [] = true
is_empty (b ∷ bs) = false

-- one or more digits
abbrev pub is_number : List ℕ → Bool
is_number word = not (is_empty word) && list_all is_ascii_digit word

-- the number that n and the digits behind it spell
abbrev pub decimal_from : ℕ → List ℕ → ℕ
decimal_from n digits = fold (λ n d. 10 * n + (d - 48)) n digits

-- the number that digits spell
unfoldable pub decimal : List ℕ → ℕ
decimal digits = decimal_from 0 digits

-- the digits at the front
abbrev pub digits_of : List ℕ → List ℕ
digits_of bytes = take_while is_ascii_digit bytes

-- what follows them
abbrev pub after_digits : List ℕ → List ℕ
after_digits bytes = drop (prefix_len is_ascii_digit bytes) bytes

-- a word without its sign + or -
abbrev pub without_sign : List ℕ → List ℕ
without_sign [] = []
without_sign (b ∷ bs) = if b == 43 || b == 45 then bs else b ∷ bs

-- a word with the sign -
abbrev pub is_negative : List ℕ → Bool
is_negative [] = false
is_negative (b ∷ bs) = b == 45

-- the parts of a coordinate behind its sign: digits, then perhaps a point and digits, then the rest
pub record Parts : Type 0 where
  pub whole : List ℕ
  pub fraction : List ℕ
  pub rest : List ℕ

-- the parts by the digits at the front and what follows them
abbrev pub with_fraction : List ℕ → List ℕ → Parts
with_fraction whole [] = record { whole = whole; fraction = []; rest = [] }
with_fraction whole (b ∷ bs) =
    if b == 46
    then record { whole = whole; fraction = digits_of bs; rest = after_digits bs }
    else record { whole = whole; fraction = []; rest = b ∷ bs }

-- the parts of a coordinate without its sign
abbrev pub parts_of : List ℕ → Parts
parts_of bytes = with_fraction (digits_of bytes) (after_digits bytes)

-- e or E, an optional sign and one or more digits
abbrev pub is_exponent : List ℕ → Bool
is_exponent [] = false
is_exponent (b ∷ bs) = (b == 101 || b == 69) && is_number (without_sign bs)

-- an exponent or nothing
abbrev pub is_tail : List ℕ → Bool
is_tail bytes = is_empty bytes || is_exponent bytes

-- digits before or behind the point, and an exponent or nothing after them
abbrev pub is_well_formed : Parts → Bool
is_well_formed p = not (is_empty p.whole && is_empty p.fraction) && is_tail p.rest

-- no exponent, and only zeros behind the point
abbrev pub is_whole : Parts → Bool
is_whole p = is_empty p.rest && list_all (λ b. b == 48) p.fraction

-- a number with its sign
abbrev pub with_sign : Bool → ℕ → ℤ
with_sign negative n = if negative then neg_ℤ (pos n) else pos n

-- the value of a coordinate by its sign and parts, or why it has none
abbrev pub value_of : (negative : Bool) → Parts → Result ℤ OffKind
value_of negative p =
    if not (is_well_formed p) then Err BadNumber
    else if not (is_whole p) then Err NotWhole
    else if nat_lt (10 ^ 9) (decimal p.whole) then Err TooLarge
    else Ok (with_sign negative (decimal p.whole))

-- the whole number that a word spells, or why it spells none
unfoldable pub whole_coordinate : List ℕ → Result ℤ OffKind
whole_coordinate word = value_of (is_negative word) (parts_of (without_sign word))
