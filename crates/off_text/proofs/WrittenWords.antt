-- A text whose words are each followed by one blank, word after word.
use Rattle.std.proofs.Common.{◌≡◌, ℕ, ◌+◌, ◌<◌, ◌&&◌, ◌||◌, not, eqb, Bool, true, false, List, [], ◌∷◌, ◌++◌, length, drop, take, Result, Ok, refl, ap, ap₂, ◌∙◌, arith}
use Rattle.std.proofs.lemmas.Bool.{ne_eqb, and_parts}
use Rattle.std.proofs.lemmas.Str.Parse.{tells_all_ascii_digits}
use Rattle.std.proofs.Math.Seq.{take-append_seam, drop-append_seam}
use Rattle.std.specs.Int.{IsInRange}
use Rattle.std.specs.List.{list_all}
use Rattle.std.specs.Char.{is_ascii_digit}
use mathlib.Core.Bool.{and-false}
use Rattle.off_text.specs.Words.{is_blank, Word, words_from, to_line_feed}
use Rattle.off_text.specs.Scans.{is_inner}
use Rattle.off_text.specs.Grammar.{Refusal, ◌>>=◌, next, beyond_line}
use Rattle.off_text.proofs.Tokens.{run, word_first, blank_step, run_feed, feed_here, words-AreFrom, all_later}
use Rattle.off_text.proofs.Steps.{passes, fails}

-- one byte or more, each of which can stand in a word
pub record IsToken (t : List ℕ) : Type 0 where
  pub some : 0 < length t
  pub inner : list_all is_inner t ≡ true

-- a byte that parts words
pub record IsBreak (b : ℕ) : Type 0 where
  pub hash : eqb b 35 ≡ false
  pub blank : is_blank b ≡ true

pub space : IsBreak 32
space = record { hash = refl; blank = refl }

pub feed : IsBreak 10
feed = record { hash = refl; blank = refl }

outer : (b : ℕ) → IsBreak b → is_inner b ≡ false
outer b h = ap (λ t. not (eqb b 35) && not t) h.blank ∙ and-false (not (eqb b 35))

run_is : (t : List ℕ) (b : ℕ) (rest : List ℕ) → list_all is_inner t ≡ true → IsBreak b → run (t ++ b ∷ rest) ≡ length t
run_is [] b rest inner h = fails is_inner b rest (outer b h)
run_is (c ∷ t) b rest inner h =
    let later = run_is t b rest (and_parts (is_inner c) (list_all is_inner t) inner).1 h in
    let here : run (c ∷ (t ++ b ∷ rest)) ≡ 1 + run (t ++ b ∷ rest) = passes is_inner c (t ++ b ∷ rest) (and_parts (is_inner c) (list_all is_inner t) inner).0 in
    omega (arith, here, later)

-- the first word, and the words behind its blank
pub token_step : (p b : ℕ) (t rest : List ℕ) → IsToken t → IsBreak b
    → words_from false p (t ++ b ∷ rest) ≡ record { bytes = t; place = p; line_end = p + to_line_feed (t ++ b ∷ rest) } ∷ words_from false (p + length t + 1) rest
token_step p b [] rest h k = absurd (omega (arith, h.some))
token_step p b (c ∷ t) rest h k =
    let size = run_is t b rest (and_parts (is_inner c) (list_all is_inner t) h.inner).1 k in
    word_first p c (t ++ b ∷ rest) (and_parts (is_inner c) (list_all is_inner t) h.inner).0
    ∙ ap (λ (n : ℕ). record { bytes = c ∷ take n (t ++ b ∷ rest); place = p; line_end = p + to_line_feed (c ∷ (t ++ b ∷ rest)) } ∷ words_from false (p + 1 + n) (drop n (t ++ b ∷ rest))) size
    ∙ ap₂ (λ (bs cs : List ℕ). record { bytes = c ∷ bs; place = p; line_end = p + to_line_feed (c ∷ (t ++ b ∷ rest)) } ∷ words_from false (p + 1 + length t) cs) (take-append_seam t (b ∷ rest)) (drop-append_seam t (b ∷ rest))
    ∙ ap (λ ws. record { bytes = c ∷ t; place = p; line_end = p + to_line_feed (c ∷ (t ++ b ∷ rest)) } ∷ ws)
    (blank_step (p + 1 + length t) b rest k.hash k.blank ∙ ap (λ (q : ℕ). words_from false q rest) (omega arith))

-- a next word that is accepted whatever its place
pub read_next : {X : Type 0} (said : Word → Result X Refusal) (end p b : ℕ) (t rest : List ℕ) (x : X) → IsToken t → IsBreak b → ((w : Word) → w.bytes ≡ t → said w ≡ Ok x)
    → next said end (words_from false p (t ++ b ∷ rest)) ≡ Ok (x, words_from false (p + length t + 1) rest)
read_next said end p b t rest x h k says =
    let ws = words_from false (p + length t + 1) rest in
    ap (next said end) (token_step p b t rest h k)
    ∙ ap (λ r. r >>= λ y. Ok (y, ws)) (says (record { bytes = t; place = p; line_end = p + to_line_feed (t ++ b ∷ rest) }) refl)

-- the words beyond the line of a last word are all that follow
pub beyond_last : (p : ℕ) (t rest : List ℕ) → IsToken t → beyond_line (words_from false p (t ++ 10 ∷ rest)) ≡ words_from false (p + length t + 1) rest
beyond_last p t rest h =
    let size = run_is t 10 rest h.inner feed in
    let end : to_line_feed (t ++ 10 ∷ rest) ≡ length t =
    run_feed (t ++ 10 ∷ rest) ∙ ap₂ (λ (n : ℕ) (bs : List ℕ). n + to_line_feed bs) size (ap (λ (n : ℕ). drop n (t ++ 10 ∷ rest)) size ∙ drop-append_seam t (10 ∷ rest)) ∙ ap (λ (n : ℕ). length t + n) (feed_here 10 rest refl) ∙ (omega arith) in
    ap beyond_line (token_step p 10 t rest h feed)
    ∙ all_later (p + to_line_feed (t ++ 10 ∷ rest)) (p + length t + 1) (words_from false (p + length t + 1) rest) (omega (arith, end)) (words-AreFrom false (p + length t + 1) rest)

-- ---- digits in words
in_range : (c : ℕ) → is_ascii_digit c ≡ true → IsInRange 48 57 c
in_range c is = (tells_all_ascii_digits.parts c [] (ap (λ t. t && true) is)).0

pub digit_inner : (c : ℕ) → is_ascii_digit c ≡ true → is_inner c ≡ true
digit_inner c is =
    let r = in_range c is in
    by (eqb c 35) (eqb c 32) (eqb c 9) (eqb c 13) (eqb c 10)
    (ne_eqb c 35 (λ e. omega (arith, r.0, e))) (ne_eqb c 32 (λ e. omega (arith, r.0, e))) (ne_eqb c 9 (λ e. omega (arith, r.0, e))) (ne_eqb c 13 (λ e. omega (arith, r.0, e))) (ne_eqb c 10 (λ e. omega (arith, r.0, e)))
  where
    by : (q s t u v : Bool) → q ≡ false → s ≡ false → t ≡ false → u ≡ false → v ≡ false → not q && not (s || t || u || v) ≡ true
    by q s t u v hq hs ht hu hv = rw (hq, hs, ht, hu, hv) refl

pub digit_not : (c n : ℕ) → is_ascii_digit c ≡ true → (n < 48) → eqb c n ≡ false
digit_not c n is low = ne_eqb c n (λ e. omega (arith, (in_range c is).0, e, low))

pub digit_not_above : (c n : ℕ) → is_ascii_digit c ≡ true → (57 < n) → eqb c n ≡ false
digit_not_above c n is high = ne_eqb c n (λ e. omega (arith, (in_range c is).1, e, high))

pub digits_inner : (ds : List ℕ) → list_all is_ascii_digit ds ≡ true → list_all is_inner ds ≡ true
digits_inner [] h = refl
digits_inner (d ∷ ds) h =
    ap (λ t. t && list_all is_inner ds) (digit_inner d (and_parts (is_ascii_digit d) (list_all is_ascii_digit ds) h).0)
    ∙ digits_inner ds (and_parts (is_ascii_digit d) (list_all is_ascii_digit ds) h).1

pub first_digit : (d : ℕ) (ds : List ℕ) → list_all is_ascii_digit (d ∷ ds) ≡ true → is_ascii_digit d ≡ true
first_digit d ds h = (and_parts (is_ascii_digit d) (list_all is_ascii_digit ds) h).0
