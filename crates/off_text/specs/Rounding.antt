-- Coordinates in units of 10 ^ -d, to which they are rounded, and coordinates of either kind.
use Rattle.std.specs.Prelude.{ℕ, suc, ◌*◌, ◌^◌, ◌||◌, Bool, not, nat_lt, Option, None, Some, List, [], ◌∷◌, ◌++◌, length, if◌then◌else◌, Result, Ok, Err, ℤ, pos, negsuc, ◌+ℤ◌, ◌-ℤ◌, ◌*ℤ◌, unsigned_abs}
use Rattle.std.specs.Int.{int_div_euclid}
use Rattle.off_text.specs.declared.issue.OffKind.{OffKind}
use Rattle.off_text.specs.declared.issue.OffKind.TheVariants.{BadNumber, TooLarge}
use Rattle.off_text.specs.Numbers.{decimal, with_sign, is_negative, without_sign, Parts, parts_of, is_well_formed, whole_coordinate}

-- m * 10 ^ n
abbrev pub times_power : ℤ → ℕ → ℤ
times_power m n = m *ℤ pos (10 ^ n)

-- m / 10 ^ n rounded to the nearest whole number, a half going up: (2 m + 10 ^ n) / (2 * 10 ^ n), floored
abbrev pub over_power : ℤ → ℕ → ℤ
over_power m n = int_div_euclid (pos 2 *ℤ m +ℤ pos (10 ^ n)) (pos (2 * 10 ^ n))

-- m * 10 ^ x, rounded where x is negative
abbrev pub scale : (m x : ℤ) → ℤ
scale m (pos n) = times_power m n
scale m (negsuc n) = over_power m (suc n)

-- the exponent by what stands behind the digits: e or E and a number with its sign, or nothing
abbrev pub exponent_of : List ℕ → ℤ
exponent_of [] = pos 0
exponent_of (b ∷ bs) = with_sign (is_negative bs) (decimal (without_sign bs))

-- a coordinate of at most 10 ^ 9 in absolute value
abbrev pub within_most : ℤ → Result ℤ OffKind
within_most z = if nat_lt (10 ^ 9) (unsigned_abs z) then Err TooLarge else Ok z

-- the units of 10 ^ -d of a coordinate by its sign and parts: all its digits as one number, with the point and the exponent as a power of ten
abbrev pub units_of : (d : ℕ) → (negative : Bool) → Parts → ℤ
units_of d negative p = scale (with_sign negative (decimal (p.whole ++ p.fraction))) ((exponent_of p.rest -ℤ pos (length p.fraction)) +ℤ pos d)

-- the coordinate that a word spells in units of 10 ^ -d, or why it spells none
abbrev pub rounded_coordinate : (d : ℕ) → List ℕ → Result ℤ OffKind
rounded_coordinate d word =
    if nat_lt 32 (length word) || not (is_well_formed (parts_of (without_sign word))) then Err BadNumber
    else within_most (units_of d (is_negative word) (parts_of (without_sign word)))

-- the same, a whole number where no digits are given
unfoldable pub coordinate_of : (digits : Option ℕ) → List ℕ → Result ℤ OffKind
coordinate_of None word = whole_coordinate word
coordinate_of (Some d) word = rounded_coordinate d word
