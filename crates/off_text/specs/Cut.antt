-- What the code knows of the parts of a coordinate, and how it cuts a large exponent.
use Rattle.std.specs.Prelude.{◌≡◌, suc, ◌+◌, ◌*◌, ◌^◌, ◌≤◌, min, true, length, ℤ, pos, negsuc, neg_ℤ}
use Rattle.std.specs.List.{list_all}
use Rattle.std.specs.Char.{is_ascii_digit}
use Rattle.off_text.specs.Numbers.{Parts}

-- at most 32 digits before and behind the point, and nothing else
pub record IsShort (p : Parts) : Type 0 where
  pub whole_digits : list_all is_ascii_digit p.whole ≡ true
  pub fraction_digits : list_all is_ascii_digit p.fraction ≡ true
  pub few : length p.whole + length p.fraction ≤ 32

-- the nearest number of at most 2 * 10 ^ 9 in absolute value
abbrev pub cut : ℤ → ℤ
cut (pos n) = pos (min n (2 * 10 ^ 9))
cut (negsuc n) = neg_ℤ (pos (min (suc n) (2 * 10 ^ 9)))
