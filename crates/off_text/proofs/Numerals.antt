-- Digits as numerals: how large their numbers are, and the digits that a number is written by.
use Rattle.std.proofs.Common.{◌≡◌, ℕ, ◌+◌, ◌-◌, ◌*◌, ◌^◌, ◌<◌, ◌≤◌, ◌&&◌, true, List, [], ◌∷◌, ◌++◌, length, drop, slice_index, refl, sym, ap, ◌∙◌, arith}
use Rattle.std.specs.Prelude.{decimal as written}
use Rattle.std.specs.List.{list_all}
use Rattle.std.specs.Char.{is_ascii_digit}
use Rattle.std.specs.Str.{all_ascii_digits}
use Rattle.std.proofs.lemmas.Str.Parse.{IsNumeralModel, numerals_by_fold, tells_all_ascii_digits, digits_value_short}
use Rattle.std.proofs.lemmas.Fmt.{digits_decimal, digits_value-decimal, decimal_nonempty}
use Rattle.std.proofs.lemmas.List.Sums.{fold-append}
use Rattle.off_text.specs.Numbers.{decimal_from, decimal}
use Rattle.off_text.proofs.Steps.{cut}

all_are : (ds : List ℕ) → list_all is_ascii_digit ds ≡ all_ascii_digits ds
all_are [] = refl
all_are (d ∷ ds) = ap (λ t. is_ascii_digit d && t) (all_are ds)

model : IsNumeralModel (λ ds. all_ascii_digits ds ≡ true) (decimal_from 0)
model = numerals_by_fold _ tells_all_ascii_digits decimal_from (record {
  empty = λ n. refl;
  more = λ n c cs k. let same : 10 * n + (c - 48) ≡ n * 10 + (c - 48) = omega arith in ap (λ (m : ℕ). decimal_from m cs) same;
})

-- k digits spell a number below 10 ^ k
pub digits_below : (ds : List ℕ) (k : ℕ) → list_all is_ascii_digit ds ≡ true → length ds ≤ k → decimal ds < 10 ^ k
unfolding decimal
digits_below ds k digits few = digits_value_short model ds k (sym (all_are ds) ∙ digits) few

pub digits_behind : (front back : List ℕ) → decimal (front ++ back) ≡ decimal_from (decimal front) back
unfolding decimal
digits_behind front back = fold-append (λ n d. 10 * n + (d - 48)) 0 front back

-- further digits make a number no smaller
pub decimal_from_grows : (n : ℕ) (ds : List ℕ) → n ≤ decimal_from n ds
decimal_from_grows n [] = omega arith
decimal_from_grows n (d ∷ ds) = omega (arith, decimal_from_grows (10 * n + (d - 48)) ds)

pub decimal_from_step : (n i total : ℕ) (ds : List ℕ) → i < length ds → decimal_from n (drop i ds) ≡ total → decimal_from (10 * n + (slice_index ds i - 48)) (drop (i + 1) ds) ≡ total
decimal_from_step n i total ds lt h = sym (ap (decimal_from n) (cut ds i lt)) ∙ h

pub decimal_from_bound : (n i total : ℕ) (ds : List ℕ) → i < length ds → decimal_from n (drop i ds) ≡ total → 10 * n + (slice_index ds i - 48) ≤ total
decimal_from_bound n i total ds lt h = omega (arith, decimal_from_step n i total ds lt h, decimal_from_grows (10 * n + (slice_index ds i - 48)) (drop (i + 1) ds))

-- ---- written numbers
pub written_digits : (n : ℕ) → n < 2 ^ 64 → list_all is_ascii_digit (written n) ≡ true
written_digits n fits = all_are (written n) ∙ digits_decimal model n fits

pub written_value : (n : ℕ) → n < 2 ^ 64 → decimal (written n) ≡ n
unfolding decimal
written_value n fits = digits_value-decimal model n fits

pub written_some : (n : ℕ) → n < 2 ^ 64 → 0 < length (written n)
written_some n fits = decimal_nonempty n fits
