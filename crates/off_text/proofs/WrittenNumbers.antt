-- What the words that are written say.
use Rattle.std.proofs.Common.{◌≡◌, ℕ, suc, ◌+◌, ◌-◌, ◌^◌, ◌<◌, ◌≤◌, ◌&&◌, ◌||◌, not, cond, nat_lt, Bool, true, false, List, [], ◌∷◌, length, drop, take, Ok, None, refl, sym, ap, ap₂, ◌∙◌, arith, ℤ, pos, negsuc}
use Rattle.std.proofs.lemmas.Bool.{lt-ltb, le-ltb, and_parts}
use Rattle.std.proofs.Math.Seq.{take-length}
use Rattle.std.specs.Prelude.{decimal as written, codes}
use Rattle.std.specs.Fmt.{signed_decimal}
use Rattle.std.specs.List.{list_all, prefix_len}
use Rattle.std.specs.Char.{is_ascii_digit}
use Rattle.std.specs.Str.{bytes_eq}
use Rattle.grid.specs.Limits.{most_input}
use Rattle.int_algebra.specs.Within.{IsWithin}
use Rattle.off_text.specs.declared.issue.OffKind.TheVariants.{OtherKeyword, BadCount, TooMany, BadNumber, BadIndex, ShortFace}
use Rattle.off_text.specs.Words.{Word}
use Rattle.off_text.specs.Numbers.{Parts, is_number, is_empty, decimal, without_sign, is_negative, parts_of, with_fraction, value_of, with_sign, whole_coordinate}
use Rattle.off_text.specs.Rounding.{coordinate_of}
use Rattle.off_text.specs.Grammar.{refused, count, first_count, edge_count, corner_count, index, at_place, coordinate}
use Rattle.off_text.proofs.Coordinates.{coordinate_by, value_is}
use Rattle.off_text.proofs.Numerals.{written_digits, written_value, written_some}
use Rattle.off_text.proofs.Steps.{passes, none_left}
use Rattle.off_text.proofs.WrittenWords.{IsToken, digits_inner, digit_not, digit_not_above, first_digit}

-- ---- tokens
pub number_token : (n : ℕ) → n < 2 ^ 64 → IsToken (written n)
number_token n fits = record { some = written_some n fits; inner = digits_inner (written n) (written_digits n fits) }

pub with_sign_token : (z : ℤ) → IsWithin (10 ^ 9) z → IsToken (signed_decimal z)
with_sign_token (pos n) few = number_token n (omega (arith, few.within))
with_sign_token (negsuc n) few = record { some = omega arith; inner = digits_inner (written (suc n)) (written_digits (suc n) (omega (arith, few.within))) }

-- ---- counts and indexes
not_empty : (ds : List ℕ) → 0 < length ds → is_empty ds ≡ false
not_empty [] h = absurd (omega (arith, h))
not_empty (d ∷ ds) h = refl

pub is_number_written : (n : ℕ) → n < 2 ^ 64 → is_number (written n) ≡ true
is_number_written n fits = ap (λ t. not t && list_all is_ascii_digit (written n)) (not_empty (written n) (written_some n fits)) ∙ written_digits n fits

pub count_said : (w : Word) (n : ℕ) → w.bytes ≡ written n → n ≤ most_input → count w ≡ Ok n
count_said w n is few =
    ap (λ t. cond (not t) (refused BadCount w.place) (cond (nat_lt most_input (decimal w.bytes)) (refused TooMany w.place) (Ok (decimal w.bytes)))) (ap is_number is ∙ is_number_written n (omega (arith, few)))
    ∙ ap (λ (m : ℕ). cond (nat_lt most_input m) (refused TooMany w.place) (Ok m)) (ap decimal is ∙ written_value n (omega (arith, few)))
    ∙ ap (λ t. cond t (refused TooMany w.place) (Ok n)) (le-ltb most_input n few)

not_binary : (ds : List ℕ) → list_all is_ascii_digit ds ≡ true → bytes_eq ds (codes "BINARY") ≡ false
not_binary [] h = refl
not_binary (d ∷ ds) h = ap (λ t. t && bytes_eq ds (codes "INARY")) (digit_not_above d 66 (first_digit d ds h) (omega arith))

pub first_count_said : (w : Word) (n : ℕ) → w.bytes ≡ written n → n ≤ most_input → first_count w ≡ Ok n
first_count_said w n is few =
    ap (λ t. cond t (refused OtherKeyword w.place) (count w)) (ap (λ bs. bytes_eq bs (codes "BINARY")) is ∙ not_binary (written n) (written_digits n (omega (arith, few))))
    ∙ count_said w n is few

pub no_edges_said : (w : Word) → w.bytes ≡ codes "0" → edge_count w ≡ Ok tt
no_edges_said w is = ap (λ bs. cond (not (is_number bs)) (refused BadCount w.place) (Ok tt)) is

pub three_said : (made : ℕ) (w : Word) → w.bytes ≡ codes "3" → made + 1 ≤ most_input → corner_count made w ≡ Ok 3
unfolding decimal
three_said made w is few =
    ap (λ bs. cond (not (is_number bs)) (refused BadCount w.place) (cond (nat_lt (decimal bs) 3) (refused ShortFace w.place) (cond (nat_lt most_input (made + (decimal bs - 2))) (refused TooMany w.place) (Ok (decimal bs))))) is
    ∙ ap (λ t. cond t (refused TooMany w.place) (Ok 3)) (le-ltb most_input (made + 1) few)

pub index_said : (n : ℕ) (w : Word) (c : ℕ) → w.bytes ≡ written c → c < n → n ≤ most_input → index n w ≡ Ok c
index_said n w c is below few =
    ap (λ t. cond (not t) (refused BadNumber w.place) (cond (nat_lt (decimal w.bytes) n) (Ok (decimal w.bytes)) (refused BadIndex w.place))) (ap is_number is ∙ is_number_written c (omega (arith, below, few)))
    ∙ ap (λ (m : ℕ). cond (nat_lt m n) (Ok m) (refused BadIndex w.place)) (ap decimal is ∙ written_value c (omega (arith, below, few)))
    ∙ ap (λ t. cond t (Ok c) (refused BadIndex w.place)) (lt-ltb c n below)

-- ---- coordinates
all_front : (ds : List ℕ) → list_all is_ascii_digit ds ≡ true → prefix_len is_ascii_digit ds ≡ length ds
all_front [] h = refl
all_front (d ∷ ds) h =
    let here : prefix_len is_ascii_digit (d ∷ ds) ≡ 1 + prefix_len is_ascii_digit ds = passes is_ascii_digit d ds (first_digit d ds h) in
    omega (arith, here, all_front ds (and_parts (is_ascii_digit d) (list_all is_ascii_digit ds) h).1)

digits_alone : List ℕ → Parts
digits_alone ds = record { whole = ds; fraction = []; rest = [] }

parts_alone : (ds : List ℕ) → list_all is_ascii_digit ds ≡ true → digits_alone ds ≡ parts_of ds
unfolding digits_alone
parts_alone ds h =
    sym (ap (λ (n : ℕ). with_fraction (take n ds) (drop n ds)) (all_front ds h)
    ∙ ap₂ with_fraction (take-length ds) (none_left ds))

alone_said : (negative : Bool) (n : ℕ) → n ≤ 10 ^ 9 → value_of negative (digits_alone (written n)) ≡ Ok (with_sign negative n)
unfolding digits_alone
alone_said negative n few =
    let value = written_value n (omega (arith, few)) in
    let formed = ap (λ t. not (t && true) && true) (not_empty (written n) (written_some n (omega (arith, few)))) in
    value_is negative (record { whole = written n; fraction = []; rest = [] }) n formed refl (omega (arith, value, few)) few

unsigned : (ds : List ℕ) → list_all is_ascii_digit ds ≡ true → (without_sign ds ≡ ds) × (is_negative ds ≡ false)
unsigned [] h = (refl, refl)
unsigned (d ∷ ds) h =
    let digit = first_digit d ds h in
    (ap₂ (λ t u. cond (t || u) ds (d ∷ ds)) (digit_not d 43 digit (omega arith)) (digit_not d 45 digit (omega arith)), digit_not d 45 digit (omega arith))

pub whole_said : (z : ℤ) → IsWithin (10 ^ 9) z → whole_coordinate (signed_decimal z) ≡ Ok z
whole_said (pos n) few =
    let digits = written_digits n (omega (arith, few.within)) in
    let u = unsigned (written n) digits in
    coordinate_by (written n) (digits_alone (written n)) _ (parts_alone (written n) digits ∙ ap parts_of (sym u.0))
    (ap (λ (b : Bool). value_of b (digits_alone (written n))) u.1 ∙ alone_said false n few.within)
whole_said (negsuc n) few =
    let digits = written_digits (suc n) (omega (arith, few.within)) in
    coordinate_by (45 ∷ written (suc n)) (digits_alone (written (suc n))) _ (parts_alone (written (suc n)) digits) (alone_said true (suc n) few.within)

pub coordinate_said : (w : Word) (z : ℤ) → w.bytes ≡ signed_decimal z → IsWithin (10 ^ 9) z → coordinate None w ≡ Ok z
unfolding coordinate_of
coordinate_said w z is few = ap (at_place w.place) (ap whole_coordinate is ∙ whole_said z few)
