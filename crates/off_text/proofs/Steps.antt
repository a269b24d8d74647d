-- What is left at one place after the other.
use Rattle.std.proofs.Common.{◌≡◌, ℕ, ◌+◌, ◌-◌, ◌<◌, ◌≤◌, suc, Bool, true, false, not, cond, eqb, List, [], ◌∷◌, length, drop, take, slice_index, refl, sym, ap, ◌∙◌, subst, add-one, arith}
use Rattle.std.proofs.Math.Seq.{drop-cons}
use Rattle.std.proofs.Math.ListN.{drop_of_length-le}
use Rattle.std.proofs.lemmas.List.{drop-drop, length-drop}
use Rattle.std.proofs.lemmas.Bool.{ne_eqb}
use Rattle.std.specs.List.{prefix_len}
use Rattle.off_text.specs.Words.{is_blank, Word, words_from, to_line_feed}
use Rattle.off_text.specs.declared.scan.Span.{Span}
use Rattle.off_text.specs.Scans.{is_inner, first_failing, line_end_at, rest_at, word_at, beyond_at, IsNext}
use Rattle.off_text.proofs.Tokens.{by_test, feed_later, blank_step, hash_ends, hash-not_feed, no_words, drop_more, run, word_first, run_feed, words_later}

-- ---- the first byte that fails a test
-- the bytes from a place on
pub cut : (bytes : List ℕ) (i : ℕ) → i < length bytes → drop i bytes ≡ slice_index bytes i ∷ drop (i + 1) bytes
cut bytes i lt = drop-cons bytes i 0 lt ∙ ap (λ j. slice_index bytes i ∷ drop j bytes) (sym (add-one i))

pub none_left : (bytes : List ℕ) → drop (length bytes) bytes ≡ []
none_left [] = refl
none_left (b ∷ bs) = none_left bs

pub passes : (test : ℕ → Bool) (b : ℕ) (bs : List ℕ) → test b ≡ true → prefix_len test (b ∷ bs) ≡ 1 + prefix_len test bs
passes test b bs is = ap (λ t. cond t (1 + prefix_len test bs) 0) is

pub fails : (test : ℕ → Bool) (b : ℕ) (bs : List ℕ) → test b ≡ false → prefix_len test (b ∷ bs) ≡ 0
fails test b bs is = ap (λ t. cond t (1 + prefix_len test bs) 0) is

pub failing_passes : (test : ℕ → Bool) (bytes : List ℕ) (i : ℕ) → i < length bytes → test (slice_index bytes i) ≡ true → first_failing test bytes (i + 1) ≡ first_failing test bytes i
unfolding first_failing
failing_passes test bytes i lt is =
    let here : prefix_len test (drop i bytes) ≡ 1 + prefix_len test (drop (i + 1) bytes) = ap (prefix_len test) (cut bytes i lt) ∙ passes test _ _ is in
    omega (arith, here)

pub failing_here : (test : ℕ → Bool) (bytes : List ℕ) (i : ℕ) → i < length bytes → test (slice_index bytes i) ≡ false → first_failing test bytes i ≡ i
unfolding first_failing
failing_here test bytes i lt is =
    let here : prefix_len test (drop i bytes) ≡ 0 = ap (prefix_len test) (cut bytes i lt) ∙ fails test _ _ is in
    omega (arith, here)

pub failing_end : (test : ℕ → Bool) (bytes : List ℕ) → first_failing test bytes (length bytes) ≡ length bytes
unfolding first_failing
failing_end test bytes = ap (λ bs. length bytes + prefix_len test bs) (none_left bytes) ∙ omega arith

-- ---- the end of a line
line_end_is : (bytes : List ℕ) (i : ℕ) → line_end_at bytes i ≡ first_failing (λ b. not (eqb b 10)) bytes i
unfolding line_end_at first_failing to_line_feed
line_end_is bytes i = refl

pub feed_at : (bytes : List ℕ) (i : ℕ) → i < length bytes → slice_index bytes i ≡ 10 → line_end_at bytes i ≡ i
feed_at bytes i lt is = line_end_is bytes i ∙ failing_here (λ b. not (eqb b 10)) bytes i lt (ap (λ b. not (eqb b 10)) is)

pub no_feed_at : (bytes : List ℕ) (i : ℕ) → i < length bytes → (slice_index bytes i ≡ 10 → ⊥) → line_end_at bytes (i + 1) ≡ line_end_at bytes i
no_feed_at bytes i lt other =
    let other_test : eqb (slice_index bytes i) 10 ≡ false = ne_eqb (slice_index bytes i) 10 other in
    line_end_is bytes (i + 1) ∙ failing_passes (λ b. not (eqb b 10)) bytes i lt (ap not other_test) ∙ sym (line_end_is bytes i)

pub line_end_last : (bytes : List ℕ) → line_end_at bytes (length bytes) ≡ length bytes
line_end_last bytes = line_end_is bytes (length bytes) ∙ failing_end (λ b. not (eqb b 10)) bytes

-- ---- the words that are left
pub rest_ends : (bytes : List ℕ) (i : ℕ) → length bytes ≤ i → rest_at bytes i ≡ []
unfolding rest_at
rest_ends bytes i le = ap (words_from false i) (drop_of_length-le bytes le) ∙ no_words false i

pub rest_blank : (bytes : List ℕ) (i : ℕ) → i < length bytes → eqb (slice_index bytes i) 35 ≡ false → is_blank (slice_index bytes i) ≡ true → rest_at bytes (i + 1) ≡ rest_at bytes i
unfolding rest_at
rest_blank bytes i lt other is = sym (ap (words_from false i) (cut bytes i lt) ∙ blank_step i (slice_index bytes i) (drop (i + 1) bytes) other is)

pub rest_hash : (bytes : List ℕ) (i : ℕ) → i < length bytes → eqb (slice_index bytes i) 35 ≡ true → rest_at bytes (line_end_at bytes i) ≡ rest_at bytes i
unfolding rest_at line_end_at
rest_hash bytes i lt is =
    let n = to_line_feed (drop i bytes) in
    sym (ap (words_from false i) (cut bytes i lt) ∙ hash_ends i (slice_index bytes i) (drop (i + 1) bytes) is
    ∙ ap (λ bs. words_from false (i + to_line_feed bs) (drop (to_line_feed bs) bs)) (sym (cut bytes i lt))
    ∙ ap (words_from false (i + n)) (drop-drop n i bytes))

pub line_end_later : (bytes : List ℕ) (i : ℕ) → i < length bytes → eqb (slice_index bytes i) 35 ≡ true → i < line_end_at bytes i
unfolding line_end_at
line_end_later bytes i lt is = omega (arith, ap to_line_feed (cut bytes i lt) ∙ feed_later (slice_index bytes i) (drop (i + 1) bytes) (hash-not_feed (slice_index bytes i) is))

-- the words beyond the line
pub beyond_is : (bytes : List ℕ) (i : ℕ) → rest_at bytes (line_end_at bytes i + 1) ≡ beyond_at bytes i
unfolding rest_at line_end_at
beyond_is bytes i =
    let n = to_line_feed (drop i bytes) in
    sym (words_later false i (drop i bytes) ∙ ap (words_from false (i + n + 1)) (drop-drop (n + 1) i bytes) ∙ ap (λ m. words_from false (i + n + 1) (drop m bytes)) (omega arith))

-- ---- the next word
pub few_pass : (test : ℕ → Bool) (bs : List ℕ) → prefix_len test bs ≤ length bs
few_pass test [] = omega arith
few_pass test (b ∷ bs) = by_test (test b)
    (λ is. let h : prefix_len test (b ∷ bs) ≡ 1 + prefix_len test bs = passes test b bs is in omega (arith, few_pass test bs))
    (λ is. let h : prefix_len test (b ∷ bs) ≡ 0 = fails test b bs is in omega arith)

same_word : (bs cs : List ℕ) (p l m : ℕ) (ws vs : List Word) → bs ≡ cs → l ≡ m → ws ≡ vs → record { bytes = bs; place = p; line_end = l } ∷ ws ≡ record { bytes = cs; place = p; line_end = m } ∷ vs
same_word bs cs p l m ws vs e f g = λ i. record { bytes = e i; place = p; line_end = f i } ∷ g i

first_word : (bytes : List ℕ) (s : ℕ) → s < length bytes → is_inner (slice_index bytes s) ≡ true → rest_at bytes s ≡ word_at bytes (record { start = s; end = s + 1 + run (drop (s + 1) bytes) }) ∷ rest_at bytes (s + 1 + run (drop (s + 1) bytes))
unfolding rest_at line_end_at
first_word bytes s lt inner =
    let b = slice_index bytes s in
    let bs = drop (s + 1) bytes in
    let n = run bs in
    let longer : run (b ∷ bs) ≡ 1 + n = passes is_inner b bs inner in
    let size : s + 1 + n - s ≡ suc n = omega arith in
    let after : drop n bs ≡ drop (s + 1 + n) bytes = drop-drop n (s + 1) bytes in
    let feed : to_line_feed (b ∷ bs) ≡ 1 + n + to_line_feed (drop (s + 1 + n) bytes) =
    run_feed (b ∷ bs) ∙ ap (λ m. m + to_line_feed (drop m (b ∷ bs))) longer ∙ ap (λ cs. 1 + n + to_line_feed cs) (drop_more n b bs ∙ after) in
    ap (words_from false s) (cut bytes s lt) ∙ word_first s b bs inner
    ∙ same_word _ _ s _ _ _ _ (sym (ap (take (s + 1 + n - s)) (cut bytes s lt) ∙ ap (λ m. take m (b ∷ bs)) size)) (omega (arith, feed)) (ap (words_from false (s + 1 + n)) after)

pub word_is : (bytes : List ℕ) (s e : ℕ) → s < length bytes → is_inner (slice_index bytes s) ≡ true → e ≡ first_failing is_inner bytes s → IsNext bytes s (record { start = s; end = e })
unfolding first_failing
word_is bytes s e lt inner is =
    let longer : prefix_len is_inner (drop s bytes) ≡ 1 + run (drop (s + 1) bytes) = ap (prefix_len is_inner) (cut bytes s lt) ∙ passes is_inner (slice_index bytes s) (drop (s + 1) bytes) inner in
    let ends : s + 1 + run (drop (s + 1) bytes) ≡ e = omega (arith, is, longer) in
    subst (λ (n : ℕ). IsNext bytes s (record { start = s; end = n })) ends (record {
      begins = omega arith;
      ends = omega (arith, few_pass is_inner (drop (s + 1) bytes), length-drop (s + 1) bytes);
      words_are = first_word bytes s lt inner;
    })

-- the same from a place before the word
pub next_is : (bytes : List ℕ) (from : ℕ) (w : Span) → rest_at bytes w.start ≡ rest_at bytes from → IsNext bytes w.start w → IsNext bytes from w
next_is bytes from w same h = record { begins = h.begins; ends = h.ends; words_are = sym same ∙ h.words_are }
