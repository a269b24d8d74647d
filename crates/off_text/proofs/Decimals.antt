-- Numbers by their digits, with a largest one, and tests of each byte.
use Rattle.std.proofs.Common.{◌≡◌, ℕ, suc, ◌+◌, ◌-◌, ◌*◌, ◌<◌, ◌≤◌, ◌&&◌, min, not, eqb, Bool, true, false, List, [], ◌∷◌, length, drop, take, slice_index, refl, sym, ap, ◌∙◌, arith}
use Rattle.std.proofs.lemmas.Bool.{true≢false, eqb-true, and_parts}
use Rattle.std.specs.List.{list_all, prefix_len, take_while}
use Rattle.std.specs.Char.{is_ascii_digit}
use mathlib.Core.Bool.{and-false}
use Rattle.off_text.specs.Numbers.{decimal, decimal_from, is_number, is_empty}
use Rattle.off_text.proofs.Tokens.{by_test}
use Rattle.off_text.proofs.Steps.{cut, passes, fails}

-- ---- digits one after the other
pub decimal_starts : (digits : List ℕ) → decimal_from 0 digits ≡ decimal digits
unfolding decimal
decimal_starts digits = refl

-- a number above the largest stays above it
saturates : (most m n : ℕ) (digits : List ℕ) → min m most ≡ min n most → min (decimal_from m digits) most ≡ min (decimal_from n digits) most
saturates most m n [] h = h
saturates most m n (d ∷ ds) h = let next : min (10 * m + (d - 48)) most ≡ min (10 * n + (d - 48)) most = omega arith in saturates most (10 * m + (d - 48)) (10 * n + (d - 48)) ds next

pub decimal_goes_on : (most n next i total : ℕ) (digits : List ℕ) → i < length digits → next ≡ min (10 * n + (slice_index digits i - 48)) most → min (decimal_from n (drop i digits)) most ≡ total → min (decimal_from next (drop (i + 1) digits)) most ≡ total
decimal_goes_on most n next i total digits lt is h =
    let same : min next most ≡ min (10 * n + (slice_index digits i - 48)) most = omega arith in
    saturates most next (10 * n + (slice_index digits i - 48)) (drop (i + 1) digits) same
    ∙ sym (ap (λ ds. min (decimal_from n ds) most) (cut digits i lt)) ∙ h

pub all_go_on : (test : ℕ → Bool) (i : ℕ) (bs : List ℕ) → i < length bs → list_all test (drop i bs) ≡ true → list_all test (drop (i + 1) bs) ≡ true
all_go_on test i bs lt h = (and_parts (test (slice_index bs i)) _ (sym (ap (list_all test) (cut bs i lt)) ∙ h)).1

-- ---- all bytes pass a test
pub all_pass : (test : ℕ → Bool) (bs : List ℕ) → length bs ≤ prefix_len test bs → list_all test bs ≡ true
all_pass test [] h = refl
all_pass test (b ∷ bs) h = by_test (test b)
    (λ is. let one : prefix_len test (b ∷ bs) ≡ 1 + prefix_len test bs = passes test b bs is in ap (λ t. t && list_all test bs) is ∙ all_pass test bs (omega arith))
    (λ is. let none : prefix_len test (b ∷ bs) ≡ 0 = fails test b bs is in absurd (omega arith))

pub not_all_pass : (test : ℕ → Bool) (bs : List ℕ) → prefix_len test bs < length bs → list_all test bs ≡ false
not_all_pass test [] h = absurd (omega arith)
not_all_pass test (b ∷ bs) h = by_test (test b)
    (λ is. let one : prefix_len test (b ∷ bs) ≡ 1 + prefix_len test bs = passes test b bs is in ap (λ t. t && list_all test bs) is ∙ not_all_pass test bs (omega arith))
    (λ is. ap (λ t. t && list_all test bs) is)

pub front_passes : (test : ℕ → Bool) (bs : List ℕ) → list_all test (take_while test bs) ≡ true
front_passes test [] = refl
front_passes test (b ∷ bs) = by_test (test b)
    (λ is. let one : prefix_len test (b ∷ bs) ≡ 1 + prefix_len test bs = passes test b bs is in
    let more : 1 + prefix_len test bs ≡ suc (prefix_len test bs) = omega arith in
    ap (λ n. list_all test (take n (b ∷ bs))) (one ∙ more) ∙ ap (λ t. t && list_all test (take_while test bs)) is ∙ front_passes test bs)
    (λ is. ap (λ n. list_all test (take n (b ∷ bs))) (fails test b bs is))

-- ---- numbers
pub not_number_empty : (word : List ℕ) → eqb (length word) 0 ≡ true → is_number word ≡ false
not_number_empty [] h = refl
not_number_empty (b ∷ bs) h = let none : length (b ∷ bs) ≡ 0 = eqb-true (length (b ∷ bs)) 0 h in absurd (omega arith)

pub not_number : (word : List ℕ) → prefix_len is_ascii_digit word < length word → is_number word ≡ false
not_number word h = ap (λ t. not (is_empty word) && t) (not_all_pass is_ascii_digit word h) ∙ and-false (not (is_empty word))

pub number_is : (word : List ℕ) → eqb (length word) 0 ≡ false → length word ≤ prefix_len is_ascii_digit word → is_number word ≡ true
number_is [] h few = absurd (true≢false h)
number_is (b ∷ bs) h few = all_pass is_ascii_digit (b ∷ bs) few
