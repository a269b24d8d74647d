-- The value of a coordinate, test by test.
use Rattle.std.proofs.Common.{◌≡◌, ℕ, ◌*◌, ◌^◌, ◌<◌, ◌≤◌, min, not, nat_lt, cond, Bool, true, false, List, [], ◌∷◌, eqb, subst, sym, ap, ◌∙◌, arith, ℤ, Result, Ok, Err}
use Rattle.std.proofs.lemmas.Bool.{lt-ltb, le-ltb}
use Rattle.off_text.specs.declared.issue.OffKind.{OffKind}
use Rattle.off_text.specs.declared.issue.OffKind.TheVariants.{BadNumber, NotWhole, TooLarge}
use Rattle.off_text.specs.Numbers.{Parts, decimal, is_well_formed, is_whole, with_sign, value_of, whole_coordinate, is_negative, parts_of, without_sign, with_fraction, digits_of, after_digits}
use Rattle.off_text.proofs.Tokens.{by_test}
use Rattle.off_text.proofs.Decimals.{front_passes}
use Rattle.std.specs.List.{list_all}
use Rattle.std.specs.Char.{is_ascii_digit}

pub coordinate_by : (word : List ℕ) (p : Parts) (answer : Result ℤ OffKind) → p ≡ parts_of (without_sign word) → value_of (is_negative word) p ≡ answer → whole_coordinate word ≡ answer
unfolding whole_coordinate
coordinate_by word p answer is h = sym (ap (value_of (is_negative word)) is) ∙ h

-- ---- the tests in turn
pub bad_number : (negative : Bool) (p : Parts) → is_well_formed p ≡ false → value_of negative p ≡ Err BadNumber
bad_number negative p formed = ap (λ t. cond (not t) (Err BadNumber) (cond (not (is_whole p)) (Err NotWhole) (cond (nat_lt (10 ^ 9) (decimal p.whole)) (Err TooLarge) (Ok (with_sign negative (decimal p.whole)))))) formed

pub well_formed : (negative : Bool) (p : Parts) → is_well_formed p ≡ true → value_of negative p ≡ cond (not (is_whole p)) (Err NotWhole) (cond (nat_lt (10 ^ 9) (decimal p.whole)) (Err TooLarge) (Ok (with_sign negative (decimal p.whole))))
well_formed negative p formed = ap (λ t. cond (not t) (Err BadNumber) (cond (not (is_whole p)) (Err NotWhole) (cond (nat_lt (10 ^ 9) (decimal p.whole)) (Err TooLarge) (Ok (with_sign negative (decimal p.whole)))))) formed

pub not_whole : (negative : Bool) (p : Parts) → is_well_formed p ≡ true → is_whole p ≡ false → value_of negative p ≡ Err NotWhole
not_whole negative p formed whole = well_formed negative p formed ∙ ap (λ t. cond (not t) (Err NotWhole) (cond (nat_lt (10 ^ 9) (decimal p.whole)) (Err TooLarge) (Ok (with_sign negative (decimal p.whole))))) whole

whole_is : (negative : Bool) (p : Parts) → is_well_formed p ≡ true → is_whole p ≡ true → value_of negative p ≡ cond (nat_lt (10 ^ 9) (decimal p.whole)) (Err TooLarge) (Ok (with_sign negative (decimal p.whole)))
whole_is negative p formed whole = well_formed negative p formed ∙ ap (λ t. cond (not t) (Err NotWhole) (cond (nat_lt (10 ^ 9) (decimal p.whole)) (Err TooLarge) (Ok (with_sign negative (decimal p.whole))))) whole

pub too_large : (negative : Bool) (p : Parts) (n : ℕ) → is_well_formed p ≡ true → is_whole p ≡ true → n ≡ min (decimal p.whole) (2 * 10 ^ 9) → 10 ^ 9 < n → value_of negative p ≡ Err TooLarge
too_large negative p n formed whole is many = whole_is negative p formed whole ∙ ap (λ t. cond t (Err TooLarge) (Ok (with_sign negative (decimal p.whole)))) (lt-ltb (10 ^ 9) (decimal p.whole) (omega arith))

pub value_is : (negative : Bool) (p : Parts) (n : ℕ) → is_well_formed p ≡ true → is_whole p ≡ true → n ≡ min (decimal p.whole) (2 * 10 ^ 9) → n ≤ 10 ^ 9 → value_of negative p ≡ Ok (with_sign negative n)
value_is negative p n formed whole is few =
    let same : decimal p.whole ≡ n = omega arith in
    whole_is negative p formed whole ∙ ap (λ t. cond t (Err TooLarge) (Ok (with_sign negative (decimal p.whole)))) (le-ltb (10 ^ 9) (decimal p.whole) (omega arith)) ∙ ap (λ m. Ok (with_sign negative m)) same

-- the digits before the point are digits
pub whole_digits : (p : Parts) (bytes : List ℕ) → p ≡ parts_of bytes → list_all is_ascii_digit p.whole ≡ true
whole_digits p bytes is = subst (λ (q : Parts). list_all is_ascii_digit q.whole ≡ true) (sym is) (of_parts (after_digits bytes))
  where
    of_parts : (after : List ℕ) → list_all is_ascii_digit (with_fraction (digits_of bytes) after).whole ≡ true
    of_parts [] = front_passes is_ascii_digit bytes
    of_parts (b ∷ bs) = by_test (eqb b 46)
        (λ dot. subst (λ (q : Parts). list_all is_ascii_digit q.whole ≡ true) (sym (ap (λ t. cond t (record { whole = digits_of bytes; fraction = digits_of bs; rest = after_digits bs }) (record { whole = digits_of bytes; fraction = []; rest = b ∷ bs })) dot)) (front_passes is_ascii_digit bytes))
        (λ other. subst (λ (q : Parts). list_all is_ascii_digit q.whole ≡ true) (sym (ap (λ t. cond t (record { whole = digits_of bytes; fraction = digits_of bs; rest = after_digits bs }) (record { whole = digits_of bytes; fraction = []; rest = b ∷ bs })) other)) (front_passes is_ascii_digit bytes))
