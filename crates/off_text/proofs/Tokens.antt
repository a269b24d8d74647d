-- The words of a text, one byte after the other.
use Rattle.std.proofs.Common.{◌≡◌, ℕ, ◌+◌, ◌<◌, ◌≤◌, ◌&&◌, suc, Bool, true, false, not, cond, eqb, nat_lt, List, [], ◌∷◌, drop, take, refl, sym, ap, ◌∙◌, subst, arith}
use Rattle.std.proofs.Math.Seq.{drop-nil}
use Rattle.std.proofs.lemmas.Bool.{eqb-true, le-ltb, lt-ltb, eq-eqb, true≢false}
use Rattle.std.specs.List.{prefix_len, filter, AllByRecursion}
use mathlib.Core.Bool.{and-false}
use Rattle.off_text.specs.Words.{is_blank, Word, joined, words_from, to_line_feed}
use Rattle.off_text.specs.Scans.{is_inner}

-- by cases on a test
pub by_test : {P : Type 0} → (b : Bool) → (b ≡ true → P) → (b ≡ false → P) → P
by_test true h k = h refl
by_test false h k = k refl

pub drop_more : (n : ℕ) (b : ℕ) (bs : List ℕ) → drop (1 + n) (b ∷ bs) ≡ drop n bs
drop_more n b bs = let one : 1 + n ≡ suc n = omega arith in ap (λ m. drop m (b ∷ bs)) one

-- ---- line feeds
pub feed_here : (b : ℕ) (bs : List ℕ) → eqb b 10 ≡ true → to_line_feed (b ∷ bs) ≡ 0
unfolding to_line_feed
feed_here b bs is = ap (λ t. cond (not t) (1 + prefix_len (λ c. not (eqb c 10)) bs) 0) is

pub feed_later : (b : ℕ) (bs : List ℕ) → eqb b 10 ≡ false → to_line_feed (b ∷ bs) ≡ 1 + to_line_feed bs
unfolding to_line_feed
feed_later b bs is = ap (λ t. cond (not t) (1 + prefix_len (λ c. not (eqb c 10)) bs) 0) is

-- ---- one byte
hash_step : (p b : ℕ) (bs : List ℕ) → eqb b 35 ≡ true → words_from false p (b ∷ bs) ≡ words_from true (p + 1) bs
unfolding words_from
hash_step p b bs is = ap (λ t. cond t (words_from true (p + 1) bs) (cond (is_blank b) (words_from false (p + 1) bs) (joined b p (p + to_line_feed (b ∷ bs)) (words_from false (p + 1) bs)))) is

pub blank_step : (p b : ℕ) (bs : List ℕ) → eqb b 35 ≡ false → is_blank b ≡ true → words_from false p (b ∷ bs) ≡ words_from false (p + 1) bs
unfolding words_from
blank_step p b bs other is =
    ap (λ t. cond t (words_from true (p + 1) bs) (cond (is_blank b) (words_from false (p + 1) bs) (joined b p (p + to_line_feed (b ∷ bs)) (words_from false (p + 1) bs)))) other
    ∙ ap (λ t. cond t (words_from false (p + 1) bs) (joined b p (p + to_line_feed (b ∷ bs)) (words_from false (p + 1) bs))) is

inner_step : (p b : ℕ) (bs : List ℕ) → eqb b 35 ≡ false → is_blank b ≡ false → words_from false p (b ∷ bs) ≡ joined b p (p + to_line_feed (b ∷ bs)) (words_from false (p + 1) bs)
unfolding words_from
inner_step p b bs other is =
    ap (λ t. cond t (words_from true (p + 1) bs) (cond (is_blank b) (words_from false (p + 1) bs) (joined b p (p + to_line_feed (b ∷ bs)) (words_from false (p + 1) bs)))) other
    ∙ ap (λ t. cond t (words_from false (p + 1) bs) (joined b p (p + to_line_feed (b ∷ bs)) (words_from false (p + 1) bs))) is

comment_step : (p b : ℕ) (bs : List ℕ) → words_from true p (b ∷ bs) ≡ words_from (not (eqb b 10)) (p + 1) bs
unfolding words_from
comment_step p b bs = refl

pub no_words : (c : Bool) (p : ℕ) → words_from c p [] ≡ []
unfolding words_from
no_words true p = refl
no_words false p = refl

-- a line feed is a blank and no #
feed-not_hash : (b : ℕ) → eqb b 10 ≡ true → eqb b 35 ≡ false
feed-not_hash b is = ap (λ n. eqb n 35) (eqb-true b 10 is)

feed-is_blank : (b : ℕ) → eqb b 10 ≡ true → is_blank b ≡ true
feed-is_blank b is = ap is_blank (eqb-true b 10 is)

pub hash-not_feed : (b : ℕ) → eqb b 35 ≡ true → eqb b 10 ≡ false
hash-not_feed b is = ap (λ n. eqb n 10) (eqb-true b 35 is)

-- after a line feed, whether in a comment or not
feed_step : (c : Bool) (p b : ℕ) (bs : List ℕ) → eqb b 10 ≡ true → words_from c p (b ∷ bs) ≡ words_from false (p + 1) bs
feed_step true p b bs is = comment_step p b bs ∙ ap (λ t. words_from (not t) (p + 1) bs) is
feed_step false p b bs is = blank_step p b bs (feed-not_hash b is) (feed-is_blank b is)

-- ---- comments
-- a comment is passed over up to the line feed
pub comment_ends : (p : ℕ) (bs : List ℕ) → words_from true p bs ≡ words_from false (p + to_line_feed bs) (drop (to_line_feed bs) bs)
comment_ends p [] = no_words true p ∙ sym (ap (words_from false (p + to_line_feed [])) (drop-nil (to_line_feed [])) ∙ no_words false _)
comment_ends p (b ∷ bs) = by_test (eqb b 10)
    (λ is. feed_step true p b bs is ∙ sym (ap (λ n. words_from false (p + n) (drop n (b ∷ bs))) (feed_here b bs is) ∙ ap (λ n. words_from false n (b ∷ bs)) (omega arith) ∙ feed_step false p b bs is))
    (λ is. comment_step p b bs ∙ ap (λ t. words_from (not t) (p + 1) bs) is ∙ comment_ends (p + 1) bs
    ∙ sym (ap (λ n. words_from false (p + n) (drop n (b ∷ bs))) (feed_later b bs is) ∙ ap (words_from false (p + (1 + to_line_feed bs))) (drop_more (to_line_feed bs) b bs) ∙ ap (λ n. words_from false n (drop (to_line_feed bs) bs)) (omega arith)))

pub hash_ends : (p b : ℕ) (bs : List ℕ) → eqb b 35 ≡ true → words_from false p (b ∷ bs) ≡ words_from false (p + to_line_feed (b ∷ bs)) (drop (to_line_feed (b ∷ bs)) (b ∷ bs))
hash_ends p b bs is =
    hash_step p b bs is ∙ comment_ends (p + 1) bs
    ∙ sym (ap (λ n. words_from false (p + n) (drop n (b ∷ bs))) (feed_later b bs (hash-not_feed b is)) ∙ ap (words_from false (p + (1 + to_line_feed bs))) (drop_more (to_line_feed bs) b bs) ∙ ap (λ n. words_from false n (drop (to_line_feed bs) bs)) (omega arith))

-- ---- places rise
-- each word's place is at least p
abbrev pub AreFrom : ℕ → List Word → Type 0
AreFrom p ws = AllByRecursion (λ w. p ≤ w.place) ws

sooner : (p q : ℕ) (ws : List Word) → p ≤ q → AreFrom q ws → AreFrom p ws
sooner p q [] le h = tt
sooner p q (w ∷ ws) le h = (omega (arith, h.0), sooner p q ws le h.1)

joined-AreFrom : (b p l : ℕ) (ws : List Word) → AreFrom (p + 1) ws → AreFrom p (joined b p l ws)
joined-AreFrom b p l [] h = (omega arith, tt)
joined-AreFrom b p l (w ∷ ws) h = by_test (eqb w.place (p + 1))
    (λ is. subst (AreFrom p) (sym (ap (λ t. cond t (record { bytes = b ∷ w.bytes; place = p; line_end = l } ∷ ws) (record { bytes = b ∷ []; place = p; line_end = l } ∷ w ∷ ws)) is)) (omega arith, sooner p (p + 1) ws (omega arith) h.1))
    (λ is. subst (AreFrom p) (sym (ap (λ t. cond t (record { bytes = b ∷ w.bytes; place = p; line_end = l } ∷ ws) (record { bytes = b ∷ []; place = p; line_end = l } ∷ w ∷ ws)) is)) (omega arith, sooner p (p + 1) (w ∷ ws) (omega arith) h))

pub words-AreFrom : (c : Bool) (p : ℕ) (bs : List ℕ) → AreFrom p (words_from c p bs)
words-AreFrom c p [] = subst (AreFrom p) (sym (no_words c p)) tt
words-AreFrom true p (b ∷ bs) = subst (AreFrom p) (sym (comment_step p b bs)) (sooner p (p + 1) _ (omega arith) (words-AreFrom (not (eqb b 10)) (p + 1) bs))
words-AreFrom false p (b ∷ bs) = by_test (eqb b 35)
    (λ is. subst (AreFrom p) (sym (hash_step p b bs is)) (sooner p (p + 1) _ (omega arith) (words-AreFrom true (p + 1) bs)))
    (λ other. by_test (is_blank b)
    (λ is. subst (AreFrom p) (sym (blank_step p b bs other is)) (sooner p (p + 1) _ (omega arith) (words-AreFrom false (p + 1) bs)))
    (λ is. subst (AreFrom p) (sym (inner_step p b bs other is)) (joined-AreFrom b p _ _ (words-AreFrom false (p + 1) bs))))

inner_both : (b : ℕ) → eqb b 35 ≡ false → is_blank b ≡ false → is_inner b ≡ true
inner_both b other is = ap (λ t. not t && not (is_blank b)) other ∙ ap not is

-- behind a byte of no word
outer-AreFrom : (p b : ℕ) (bs : List ℕ) → is_inner b ≡ false → AreFrom (p + 1) (words_from false p (b ∷ bs))
outer-AreFrom p b bs outer = by_test (eqb b 35)
    (λ is. subst (AreFrom (p + 1)) (sym (hash_step p b bs is)) (words-AreFrom true (p + 1) bs))
    (λ other. by_test (is_blank b)
    (λ is. subst (AreFrom (p + 1)) (sym (blank_step p b bs other is)) (words-AreFrom false (p + 1) bs))
    (λ is. absurd (true≢false (sym (inner_both b other is) ∙ outer))))

-- ---- words
alone : (b p l : ℕ) (ws : List Word) → AreFrom (p + 2) ws → joined b p l ws ≡ record { bytes = b ∷ []; place = p; line_end = l } ∷ ws
alone b p l [] h = refl
alone b p l (w ∷ ws) h = by_test (eqb w.place (p + 1))
    (λ is. absurd (omega (arith, h.0, eqb-true w.place (p + 1) is)))
    (λ is. ap (λ t. cond t (record { bytes = b ∷ w.bytes; place = p; line_end = l } ∷ ws) (record { bytes = b ∷ []; place = p; line_end = l } ∷ w ∷ ws)) is)

inner-not_hash : (b : ℕ) → is_inner b ≡ true → eqb b 35 ≡ false
inner-not_hash b inner = by_test (eqb b 35) (λ is. absurd (true≢false (sym inner ∙ ap (λ t. not t && not (is_blank b)) is))) (λ is. is)

inner-not_blank : (b : ℕ) → is_inner b ≡ true → is_blank b ≡ false
inner-not_blank b inner = by_test (is_blank b) (λ is. absurd (true≢false (sym inner ∙ ap (λ t. not (eqb b 35) && not t) is ∙ and-false (not (eqb b 35))))) (λ is. is)

together : (b p l : ℕ) (w : Word) (ws : List Word) → w.place ≡ p + 1 → joined b p l (w ∷ ws) ≡ record { bytes = b ∷ w.bytes; place = p; line_end = l } ∷ ws
together b p l w ws is = ap (λ t. cond t (record { bytes = b ∷ w.bytes; place = p; line_end = l } ∷ ws) (record { bytes = b ∷ []; place = p; line_end = l } ∷ w ∷ ws)) (eq-eqb w.place (p + 1) is)

-- the word whose first byte is b, and the words behind it
abbrev pub run : List ℕ → ℕ
run bs = prefix_len is_inner bs

pub word_first : (p b : ℕ) (bs : List ℕ) → is_inner b ≡ true → words_from false p (b ∷ bs) ≡ record { bytes = b ∷ take (run bs) bs; place = p; line_end = p + to_line_feed (b ∷ bs) } ∷ words_from false (p + 1 + run bs) (drop (run bs) bs)
word_first p b [] inner =
    inner_step p b [] (inner-not_hash b inner) (inner-not_blank b inner) ∙ ap (joined b p (p + to_line_feed (b ∷ []))) (no_words false (p + 1))
    ∙ ap (λ ws. record { bytes = b ∷ []; place = p; line_end = p + to_line_feed (b ∷ []) } ∷ ws) (sym (no_words false (p + 1 + 0)))
word_first p b (c ∷ bs) inner = by_test (is_inner c)
    (λ is.
    let longer : run (c ∷ bs) ≡ suc (run bs) = ap (λ t. cond t (1 + run bs) 0) is ∙ omega arith in
    inner_step p b (c ∷ bs) (inner-not_hash b inner) (inner-not_blank b inner)
    ∙ ap (joined b p (p + to_line_feed (b ∷ c ∷ bs))) (word_first (p + 1) c bs is)
    ∙ together b p _ _ _ refl
    ∙ ap (λ q. record { bytes = b ∷ c ∷ take (run bs) bs; place = p; line_end = p + to_line_feed (b ∷ c ∷ bs) } ∷ words_from false q (drop (run bs) bs)) (omega arith)
    ∙ sym (ap (λ n. record { bytes = b ∷ take n (c ∷ bs); place = p; line_end = p + to_line_feed (b ∷ c ∷ bs) } ∷ words_from false (p + 1 + n) (drop n (c ∷ bs))) longer))
    (λ is.
    let none : run (c ∷ bs) ≡ 0 = ap (λ t. cond t (1 + run bs) 0) is in
    inner_step p b (c ∷ bs) (inner-not_hash b inner) (inner-not_blank b inner)
    ∙ alone b p _ _ (subst (λ q. AreFrom q (words_from false (p + 1) (c ∷ bs))) (omega arith) (outer-AreFrom (p + 1) c bs is))
    ∙ ap (λ q. record { bytes = b ∷ []; place = p; line_end = p + to_line_feed (b ∷ c ∷ bs) } ∷ words_from false q (c ∷ bs)) (omega arith)
    ∙ sym (ap (λ n. record { bytes = b ∷ take n (c ∷ bs); place = p; line_end = p + to_line_feed (b ∷ c ∷ bs) } ∷ words_from false (p + 1 + n) (drop n (c ∷ bs))) none))

-- a word has no line feed
pub run_feed : (bs : List ℕ) → to_line_feed bs ≡ run bs + to_line_feed (drop (run bs) bs)
run_feed [] = omega arith
run_feed (b ∷ bs) = by_test (is_inner b)
    (λ is.
    let longer : run (b ∷ bs) ≡ 1 + run bs = ap (λ t. cond t (1 + run bs) 0) is in
    let no_feed : eqb b 10 ≡ false = by_test (eqb b 10) (λ feed. absurd (true≢false (sym (feed-is_blank b feed) ∙ inner-not_blank b is))) (λ other. other) in
    let later : drop (run (b ∷ bs)) (b ∷ bs) ≡ drop (run bs) bs = ap (λ n. drop n (b ∷ bs)) longer ∙ drop_more (run bs) b bs in
    feed_later b bs no_feed ∙ omega (arith, run_feed bs, longer, ap to_line_feed later))
    (λ is.
    let none : run (b ∷ bs) ≡ 0 = ap (λ t. cond t (1 + run bs) 0) is in
    sym (ap (λ n. n + to_line_feed (drop n (b ∷ bs))) none ∙ omega arith))

-- ---- the words beyond a line
abbrev later : ℕ → List Word → List Word
later l ws = filter (λ v. nat_lt l v.place) ws

pub all_later : (l q : ℕ) (ws : List Word) → l < q → AreFrom q ws → later l ws ≡ ws
all_later l q [] lt h = refl
all_later l q (w ∷ ws) lt h = ap (λ t. cond t (w ∷ later l ws) (later l ws)) (lt-ltb l w.place (omega (arith, h.0))) ∙ ap (λ vs. w ∷ vs) (all_later l q ws lt h.1)

not_later : (l : ℕ) (w : Word) (ws : List Word) → w.place ≤ l → later l (w ∷ ws) ≡ later l ws
not_later l w ws le = ap (λ t. cond t (w ∷ later l ws) (later l ws)) (le-ltb l w.place le)

joined_later : (b p e l : ℕ) (ws : List Word) → p + 1 ≤ l → later l (joined b p e ws) ≡ later l ws
joined_later b p e l [] le = not_later l _ [] (omega arith)
joined_later b p e l (w ∷ ws) le = by_test (eqb w.place (p + 1))
    (λ is. ap (later l) (together b p e w ws (eqb-true w.place (p + 1) is)) ∙ not_later l _ ws (omega arith) ∙ sym (not_later l w ws (omega (arith, eqb-true w.place (p + 1) is))))
    (λ is. ap (λ t. later l (cond t (record { bytes = b ∷ w.bytes; place = p; line_end = e } ∷ ws) (record { bytes = b ∷ []; place = p; line_end = e } ∷ w ∷ ws))) is ∙ not_later l _ (w ∷ ws) (omega arith))

-- one byte that is no line feed does not matter
step_later : (c : Bool) (p b l : ℕ) (bs : List ℕ) → eqb b 10 ≡ false → p + 1 ≤ l → ((d : Bool) → later l (words_from d (p + 1) bs) ≡ later l (words_from false (p + 1 + to_line_feed bs + 1) (drop (to_line_feed bs + 1) bs)))
    → later l (words_from c p (b ∷ bs)) ≡ later l (words_from false (p + 1 + to_line_feed bs + 1) (drop (to_line_feed bs + 1) bs))
step_later true p b l bs later_feed le h = ap (later l) (comment_step p b bs) ∙ h (not (eqb b 10))
step_later false p b l bs later_feed le h = by_test (eqb b 35)
    (λ is. ap (later l) (hash_step p b bs is) ∙ h true)
    (λ other. by_test (is_blank b)
    (λ is. ap (later l) (blank_step p b bs other is) ∙ h false)
    (λ is. ap (later l) (inner_step p b bs other is) ∙ joined_later b p _ l _ le ∙ h false))

same_later : (c : Bool) (p l : ℕ) (bs : List ℕ) → p + to_line_feed bs ≤ l → later l (words_from c p bs) ≡ later l (words_from false (p + to_line_feed bs + 1) (drop (to_line_feed bs + 1) bs))
same_later c p l [] le = ap (later l) (no_words c p ∙ sym (ap (words_from false (p + to_line_feed [] + 1)) (drop-nil (to_line_feed [] + 1)) ∙ no_words false _))
same_later c p l (b ∷ bs) le = by_test (eqb b 10)
    (λ is. ap (later l) (feed_step c p b bs is ∙ sym (ap (λ n. words_from false (p + n + 1) (drop (n + 1) (b ∷ bs))) (feed_here b bs is) ∙ ap (λ n. words_from false n bs) (omega arith))))
    (λ is.
    let more = feed_later b bs is in
    step_later c p b l bs is (omega (arith, more)) (λ d. same_later d (p + 1) l bs (omega (arith, more)))
    ∙ ap (later l) (sym (ap (λ n. words_from false (p + n + 1) (drop (n + 1) (b ∷ bs))) more ∙ ap (λ n. words_from false (p + (1 + to_line_feed bs) + 1) (drop n (b ∷ bs))) (omega arith) ∙ ap (words_from false (p + (1 + to_line_feed bs) + 1)) (drop_more (to_line_feed bs + 1) b bs) ∙ ap (λ n. words_from false n (drop (to_line_feed bs + 1) bs)) (omega arith))))

-- the words that begin after the line feed
pub words_later : (c : Bool) (p : ℕ) (bs : List ℕ) → filter (λ v. nat_lt (p + to_line_feed bs) v.place) (words_from c p bs) ≡ words_from false (p + to_line_feed bs + 1) (drop (to_line_feed bs + 1) bs)
words_later c p bs = same_later c p (p + to_line_feed bs) bs (omega arith) ∙ all_later _ (p + to_line_feed bs + 1) _ (omega arith) (words-AreFrom false (p + to_line_feed bs + 1) (drop (to_line_feed bs + 1) bs))
