-- Coordinates in units of a power of ten: their parts, exponents that are cut, and powers that are far from zero.
use Rattle.std.proofs.Common.{◌≡◌, ℕ, zero, suc, ◌+◌, ◌-◌, ◌*◌, ◌^◌, ◌<◌, ◌≤◌, ◌||◌, ◌&&◌, not, cond, min, eqb, Bool, true, false, List, [], ◌∷◌, ◌++◌, length, Ok, Err, refl, sym, ap, ◌∙◌, subst, arith, length-append, ℤ, pos, negsuc, neg_ℤ, ◌+ℤ◌, ◌-ℤ◌, ◌*ℤ◌, ◌≤ℤ◌, ◌<ℤ◌, T, ◌⊎◌, inl, inr, unsigned_abs}
use Rattle.std.proofs.lemmas.Int.{ints, unsigned_abs-mul, by_lt_z}
use Rattle.std.proofs.lemmas.Bool.{lt-ltb, le-ltb, cases_lt, true≢false}
use Rattle.std.proofs.lemmas.List.{length-drop}
use Rattle.std.proofs.lemmas.List.Folds.{length-prefix_len, list_all-append}
use Rattle.std.proofs.Math.Nat.{div-eq_of_lt, pow-le-pow_right}
use native.Mathlib.Nat.{mul-le-mul}
use Rattle.std.specs.Int.{int_div_euclid}
use Rattle.std.specs.Int.Signed.{le_z, lt_z, le_z_yes, lt_z_yes}
use Rattle.std.specs.List.{list_all, prefix_len}
use Rattle.std.specs.Char.{is_ascii_digit}
use Rattle.int_algebra.specs.Within.{IsWithin}
use Rattle.int_algebra.proofs.Bounds.{within_interval}
use Rattle.off_text.specs.declared.issue.OffKind.TheVariants.{BadNumber, TooLarge}
use Rattle.off_text.specs.Numbers.{Parts, decimal, with_sign, is_negative, without_sign, parts_of, with_fraction, digits_of, after_digits, is_well_formed}
use Rattle.off_text.specs.Rounding.{times_power, over_power, scale, exponent_of, within_most, units_of, rounded_coordinate}
use Rattle.off_text.specs.Cut.{IsShort, cut}
use Rattle.off_text.proofs.Tokens.{by_test}
use Rattle.off_text.proofs.Steps.{few_pass}
use Rattle.off_text.proofs.Decimals.{front_passes}
use Rattle.off_text.proofs.Numerals.{digits_below}

-- ---- powers of ten
pub ten_power : (i j : ℕ) → i ≤ j → 10 ^ i ≤ 10 ^ j
ten_power i j le = pow-le-pow_right (omega arith) le

pub ten_least : (i : ℕ) → 1 ≤ 10 ^ i
ten_least i = omega (arith, ten_power 0 i (omega arith))

-- ---- numbers that are too large, or are zero
pub too_large : (z : ℤ) → 10 ^ 9 < unsigned_abs z → within_most z ≡ Err TooLarge
too_large z many = ap (λ t. cond t (Err TooLarge) (Ok z)) (lt-ltb (10 ^ 9) (unsigned_abs z) many)

times_power_size : (m : ℤ) (n least : ℕ) → least ≤ 10 ^ n → unsigned_abs m * least ≤ unsigned_abs (times_power m n)
times_power_size m n least le =
    let product : unsigned_abs (times_power m n) ≡ unsigned_abs m * 10 ^ n = unsigned_abs-mul m (pos (10 ^ n)) in
    omega (arith, product, mul-le-mul (le_self (unsigned_abs m)) le)
  where
    le_self : (k : ℕ) → k ≤ k
    le_self k = omega arith

-- a size that is too large already
pub times_power_too_large : (m : ℤ) (n : ℕ) → 10 ^ 9 < unsigned_abs m → within_most (times_power m n) ≡ Err TooLarge
times_power_too_large m n many = too_large (times_power m n) (omega (arith, times_power_size m n 1 (ten_least n)))

quotient_zero : (z : ℤ) (k d : ℕ) → z ≡ pos k → k < d → int_div_euclid z (pos d) ≡ pos 0
quotient_zero z k d is lt = ap (λ (y : ℤ). int_div_euclid y (pos d)) is ∙ ap (λ (q : ℕ). pos q) (div-eq_of_lt lt)

-- less than a half
over_power_zero : (m : ℤ) (u : ℕ) → 2 * unsigned_abs m < u → int_div_euclid (pos 2 *ℤ m +ℤ pos u) (pos (2 * u)) ≡ pos 0
over_power_zero (pos n) u few =
    let is : pos 2 *ℤ pos n +ℤ pos u ≡ pos (2 * n + u) = omega (arith, ints) in
    quotient_zero (pos 2 *ℤ pos n +ℤ pos u) (2 * n + u) (2 * u) is (omega (arith, few))
over_power_zero (negsuc n) u few =
    let is : pos 2 *ℤ negsuc n +ℤ pos u ≡ pos (u - 2 * suc n) = omega (arith, ints, few) in
    quotient_zero (pos 2 *ℤ negsuc n +ℤ pos u) (u - 2 * suc n) (2 * u) is (omega (arith, few))

pub zero_scale : (x : ℤ) → scale (pos 0) x ≡ pos 0
zero_scale (pos n) = ap (λ (k : ℕ). pos k) (omega arith)
zero_scale (negsuc n) = over_power_zero (pos 0) (10 ^ suc n) (omega (arith, ten_least (suc n)))

pub far_down : (m x : ℤ) → IsWithin (10 ^ 32 - 1) m → x ≤ℤ negsuc 32 → scale m x ≡ pos 0
far_down m (pos n) few low = absurd (omega (arith, ints, low))
far_down m (negsuc n) few low =
    let power : 33 ≤ suc n = omega (arith, ints, low) in
    over_power_zero m (10 ^ suc n) (omega (arith, few.within, ten_power 33 (suc n) power))

pub far_up : (m x : ℤ) → (m ≡ pos 0 → ⊥) → pos 10 ≤ℤ x → within_most (scale m x) ≡ Err TooLarge
far_up m (pos n) some high =
    let power : 10 ≤ n = omega (arith, ints, high) in
    too_large (times_power m n) (omega (arith, times_power_size m n (10 ^ 10) (ten_power 10 n power), not_zero m some))
  where
    not_zero : (z : ℤ) → (z ≡ pos 0 → ⊥) → 1 ≤ unsigned_abs z
    not_zero (pos zero) h = absurd (h refl)
    not_zero (pos (suc k)) h = omega arith
    not_zero (negsuc k) h = omega arith
far_up m (negsuc n) some high = absurd (omega (arith, ints, high))

-- ---- tests of a power
pub is_low : (x : ℤ) → le_z x (negsuc 32) ≡ true → x ≤ℤ negsuc 32
is_low x e = le_z_yes (subst T (sym e) tt)

pub is_high : (x : ℤ) → lt_z (pos 9) x ≡ true → pos 10 ≤ℤ x
is_high x e = let h : pos 9 <ℤ x = lt_z_yes (subst T (sym e) tt) in omega (arith, ints, h)

-- a power that is below zero and is not so low, as its test and its negative say
pub below_zero : (x : ℤ) → le_z x (negsuc 32) ≡ false → lt_z x (pos 0) ≡ true → IsWithin 32 x
below_zero x e f =
    let above : negsuc 32 <ℤ x = by_lt_z (negsuc 32) x (λ h. h) (λ h. absurd (subst T e h.le)) in
    let below : x <ℤ pos 0 = lt_z_yes (subst T (sym f) tt) in
    within_interval 32 x (omega (arith, ints, above)) (omega (arith, ints, below))

pub scale_down : (m x y : ℤ) → lt_z x (pos 0) ≡ true → y ≡ pos 0 -ℤ x → over_power m (unsigned_abs y) ≡ scale m x
scale_down m (pos n) y test is = let below : pos n <ℤ pos 0 = lt_z_yes (subst T (sym test) tt) in absurd (omega (arith, ints, below))
scale_down m (negsuc n) y test is = let size : unsigned_abs y ≡ suc n = omega (arith, ints, is) in ap (over_power m) size

pub scale_up : (m x : ℤ) → lt_z x (pos 0) ≡ false → times_power m (unsigned_abs x) ≡ scale m x
scale_up m (pos n) test = refl
scale_up m (negsuc n) test = absurd (true≢false test)

-- ---- exponents that are cut
-- equal, or both so large, or both so small
abbrev pub AreAlike : ℤ → ℤ → Type 0
AreAlike x y = (x ≡ y) ⊎ (((pos 10 ≤ℤ x) × (pos 10 ≤ℤ y)) ⊎ ((x ≤ℤ negsuc 32) × (y ≤ℤ negsuc 32)))

is_zero : (m : ℤ) → (m ≡ pos 0) ⊎ (m ≡ pos 0 → ⊥)
is_zero (pos zero) = inl refl
is_zero (pos (suc n)) = inr (λ e. omega (arith, ints, e))
is_zero (negsuc n) = inr (λ e. omega (arith, ints, e))

pub alike_scale : (m x y : ℤ) → IsWithin (10 ^ 32 - 1) m → AreAlike x y → within_most (scale m x) ≡ within_most (scale m y)
alike_scale m x y few (inl same) = ap (λ (z : ℤ). within_most (scale m z)) same
alike_scale m x y few (inr (inl up)) = elim (is_zero m) [
  | inl none ↦ ap within_most (ap (λ (k : ℤ). scale k x) none ∙ zero_scale x ∙ sym (ap (λ (k : ℤ). scale k y) none ∙ zero_scale y))
  | inr some ↦ far_up m x some up.0 ∙ sym (far_up m y some up.1)
]
alike_scale m x y few (inr (inr down)) = ap within_most (far_down m x few down.0 ∙ sym (far_down m y few down.1))

pub alike : (g : ℤ) (f d : ℕ) → f ≤ 32 → d ≤ 5 → AreAlike ((cut g -ℤ pos f) +ℤ pos d) ((g -ℤ pos f) +ℤ pos d)
alike (pos n) f d few small = elim (cases_lt (2 * 10 ^ 9) n) [
  | inl lt ↦ let is : min n (2 * 10 ^ 9) ≡ 2 * 10 ^ 9 = omega (arith, lt) in inr (inl (omega (arith, ints, is, few), omega (arith, ints, lt, few)))
  | inr le ↦ let is : min n (2 * 10 ^ 9) ≡ n = omega (arith, le) in inl (ap (λ (k : ℕ). (pos k -ℤ pos f) +ℤ pos d) is)
]
alike (negsuc n) f d few small = elim (cases_lt (2 * 10 ^ 9) (suc n)) [
  | inl lt ↦ let is : min (suc n) (2 * 10 ^ 9) ≡ 2 * 10 ^ 9 = omega (arith, lt) in
      inr (inr (subst (λ (k : ℕ). ((neg_ℤ (pos k) -ℤ pos f) +ℤ pos d) ≤ℤ negsuc 32) (sym is) (omega (arith, ints, small)), omega (arith, ints, lt, small)))
  | inr le ↦ let is : min (suc n) (2 * 10 ^ 9) ≡ suc n = omega (arith, le) in inl (ap (λ (k : ℕ). (neg_ℤ (pos k) -ℤ pos f) +ℤ pos d) is)
]

pub cut_within : (g : ℤ) → IsWithin (2 * 10 ^ 9) (cut g)
cut_within (pos n) = record { within = omega arith }
cut_within (negsuc n) = minus_within (min (suc n) (2 * 10 ^ 9)) (omega arith)
  where
    minus_within : (k : ℕ) → k ≤ 2 * 10 ^ 9 → IsWithin (2 * 10 ^ 9) (neg_ℤ (pos k))
    minus_within zero few = record { within = omega arith }
    minus_within (suc k) few = record { within = omega (arith, few) }

pub with_sign_within : (negative : Bool) (n : ℕ) → n < 10 ^ 32 → IsWithin (10 ^ 32 - 1) (with_sign negative n)
with_sign_within true zero few = record { within = omega arith }
with_sign_within true (suc n) few = record { within = omega (arith, few) }
with_sign_within false n few = record { within = omega (arith, few) }

-- ---- the parts of a word
record HasParts (bytes : List ℕ) (p : Parts) : Type 0 where
  whole_digits : list_all is_ascii_digit p.whole ≡ true
  fraction_digits : list_all is_ascii_digit p.fraction ≡ true
  few : length p.whole + length p.fraction ≤ length bytes

front_few : (bytes : List ℕ) → length (digits_of bytes) + length (after_digits bytes) ≤ length bytes
front_few bytes = omega (arith, length-prefix_len is_ascii_digit bytes, length-drop (prefix_len is_ascii_digit bytes) bytes, few_pass is_ascii_digit bytes)

parts_have : (bytes after : List ℕ) → length (digits_of bytes) + length after ≤ length bytes → HasParts bytes (with_fraction (digits_of bytes) after)
parts_have bytes [] few = record { whole_digits = front_passes is_ascii_digit bytes; fraction_digits = refl; few = omega (arith, few) }
parts_have bytes (b ∷ bs) few = by_test (eqb b 46)
    (λ dot. subst (HasParts bytes) (sym (ap (λ t. cond t (record { whole = digits_of bytes; fraction = digits_of bs; rest = after_digits bs }) (record { whole = digits_of bytes; fraction = []; rest = b ∷ bs })) dot))
    (record { whole_digits = front_passes is_ascii_digit bytes; fraction_digits = front_passes is_ascii_digit bs; few = omega (arith, few, front_few bs) }))
    (λ other. subst (HasParts bytes) (sym (ap (λ t. cond t (record { whole = digits_of bytes; fraction = digits_of bs; rest = after_digits bs }) (record { whole = digits_of bytes; fraction = []; rest = b ∷ bs })) other))
    (record { whole_digits = front_passes is_ascii_digit bytes; fraction_digits = refl; few = omega (arith, few) }))

shorter : (word : List ℕ) → length (without_sign word) ≤ length word
shorter [] = omega arith
shorter (b ∷ bs) = by_test (eqb b 43 || eqb b 45)
    (λ is. subst (λ (ds : List ℕ). length ds ≤ length (b ∷ bs)) (sym (ap (λ t. cond t bs (b ∷ bs)) is)) (omega arith))
    (λ is. subst (λ (ds : List ℕ). length ds ≤ length (b ∷ bs)) (sym (ap (λ t. cond t bs (b ∷ bs)) is)) (omega arith))

pub short_parts : (word : List ℕ) (p : Parts) → p ≡ parts_of (without_sign word) → length word ≤ 32 → IsShort p
short_parts word p is few =
    let bytes = without_sign word in
    let h = parts_have bytes (after_digits bytes) (front_few bytes) in
    subst IsShort (sym is) (record { whole_digits = h.whole_digits; fraction_digits = h.fraction_digits; few = omega (arith, h.few, shorter word, few) })

-- the digits of a short word spell a number below 10 ^ 32
pub short_whole : (p : Parts) → IsShort p → decimal p.whole < 10 ^ 32
short_whole p h = digits_below p.whole 32 h.whole_digits (omega (arith, h.few))

pub short_number : (p : Parts) → IsShort p → decimal (p.whole ++ p.fraction) < 10 ^ 32
short_number p h =
    digits_below (p.whole ++ p.fraction) 32
    (list_all-append is_ascii_digit p.whole p.fraction ∙ ap (λ t. t && list_all is_ascii_digit p.fraction) h.whole_digits ∙ h.fraction_digits)
    (omega (arith, length-append p.whole p.fraction, h.few))

-- ---- the tests in turn
pub units_are : (d : ℕ) (word : List ℕ) (p : Parts) → p ≡ parts_of (without_sign word) → length word ≤ 32 → is_well_formed p ≡ true → rounded_coordinate d word ≡ within_most (units_of d (is_negative word) p)
units_are d word p is few formed =
    ap (λ t. cond (t || not (is_well_formed (parts_of (without_sign word)))) (Err BadNumber) (within_most (units_of d (is_negative word) (parts_of (without_sign word))))) (le-ltb 32 (length word) few)
    ∙ ap (λ t. cond (not t) (Err BadNumber) (within_most (units_of d (is_negative word) (parts_of (without_sign word))))) (sym (ap is_well_formed is) ∙ formed)
    ∙ sym (ap (λ (q : Parts). within_most (units_of d (is_negative word) q)) is)

-- a coordinate by its number and its power of ten, with the exponent cut
pub rounded_is : (d : ℕ) (word : List ℕ) (p : Parts) (m x : ℤ) → p ≡ parts_of (without_sign word) → length word ≤ 32 → is_well_formed p ≡ true → d ≤ 5
    → m ≡ with_sign (is_negative word) (decimal (p.whole ++ p.fraction)) → x ≡ (cut (exponent_of p.rest) -ℤ pos (length p.fraction)) +ℤ pos d → within_most (scale m x) ≡ rounded_coordinate d word
rounded_is d word p m x is few formed small m_is x_is =
    let short = short_parts word p is few in
    let exact : ℤ = (exponent_of p.rest -ℤ pos (length p.fraction)) +ℤ pos d in
    let size : IsWithin (10 ^ 32 - 1) m = subst (IsWithin (10 ^ 32 - 1)) (sym m_is) (with_sign_within (is_negative word) (decimal (p.whole ++ p.fraction)) (short_number p short)) in
    ap (λ (y : ℤ). within_most (scale m y)) x_is
    ∙ alike_scale m _ exact size (alike (exponent_of p.rest) (length p.fraction) d (omega (arith, short.few)) small)
    ∙ ap (λ (k : ℤ). within_most (scale k exact)) m_is
    ∙ sym (units_are d word p is few formed)
