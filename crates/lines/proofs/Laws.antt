-- What holds of every form.
use Rattle.std.proofs.Common.{◌≡◌, ℕ, suc, ◌+◌, ◌-◌, ◌<◌, ◌≤◌, List, [], length, ◌++◌, refl, sym, ap, ◌∙◌, subst, inl, inr, arith, drop, get_or, ◌∷◌, true, false, eqb}
use Rattle.std.proofs.lemmas.Bool.{true≢false, eqb-true}
use Rattle.std.proofs.lemmas.List.{length-append}
use Rattle.std.proofs.Math.Seq.{drop-cons}
use Rattle.std.proofs.Math.ListN.{drop_of_length-le}
use Rattle.std.proofs.Math.Numerals.{add-one}
use Rattle.lines.specs.Forms.{Form, done, field, ◌>>=◌, IsBad, Reads, Breaks, HasOneReading, IsClear, repeat}
use Rattle.lines.specs.Fields.{fixed, fixed_lines}
use Rattle.lines.specs.declared.stop.Stop.{Stop}
use Rattle.lines.specs.declared.stop.Stop.TheVariants as stops
use Rattle.lines.specs.Gives.{Fails}
use Rattle.lines.specs.Whole.{IsText, line_at, LeavesAt, IsBadLine}

-- ---- one field
pub field_breaks : {X : Type 0} (spelled : X → List ℕ) (Allowed : X → Type 0) (bytes : List ℕ) → IsBad spelled Allowed bytes → Breaks (field spelled Allowed) bytes (length bytes)
unfolding Breaks
field_breaks spelled Allowed bytes bad = (bad, refl)

pub field_reads : {X : Type 0} (spelled : X → List ℕ) (Allowed : X → Type 0) (bytes : List ℕ) (x : X) (rest : List ℕ) → Allowed x → bytes ≡ spelled x ++ rest → Reads (field spelled Allowed) bytes x rest
unfolding Reads
field_reads spelled Allowed bytes x rest allowed spells = record { allowed = allowed; spells = spells }

-- ---- the same field with fewer things allowed
module _ {X : Type 0} (spelled : X → List ℕ) (Wide Narrow : X → Type 0) (bytes : List ℕ) where
  pub narrow_reads : (x : X) (rest : List ℕ) → Reads (field spelled Wide) bytes x rest → Narrow x → Reads (field spelled Narrow) bytes x rest
  unfolding Reads
  narrow_reads x rest h allowed = record { allowed = allowed; spells = h.spells }

  pub narrow_breaks : (x : X) (rest : List ℕ) → HasOneReading spelled Wide → ((y : X) → Narrow y → Wide y) → Reads (field spelled Wide) bytes x rest → (Narrow x → ⊥) → Breaks (field spelled Narrow) bytes (length bytes)
  unfolding Reads Breaks
  narrow_breaks x rest one wider h other = (λ y more says. other (subst Narrow (one.same y x more rest (wider y says.allowed) h.allowed (sym says.spells ∙ h.spells)).0 says.allowed), refl)

  pub narrow_fails : (e : Stop) → ((y : X) → Narrow y → Wide y) → Fails (field spelled Wide) bytes e → Fails (field spelled Narrow) bytes e
  unfolding Breaks
  narrow_fails (stops.At left) wider h = (λ y more says. h.0 y more (record { allowed = wider y says.allowed; spells = says.spells }), h.1)
  narrow_fails stops.Memory wider h = tt

-- ---- what is left of a form
-- what later says of the rest, form says of the bytes
pub record Continues {X : Type 0} (form : Form X) (bytes : List ℕ) (later : Form X) (rest : List ℕ) : Type 0 where
  pub reads : (x : X) (more : List ℕ) → Reads later rest x more → Reads form bytes x more
  pub breaks : (left : ℕ) → Breaks later rest left → Breaks form bytes left

pub starts : {X : Type 0} (form : Form X) (bytes : List ℕ) → Continues form bytes form bytes
starts form bytes = record { reads = λ x more h. h; breaks = λ left h. h }

pub goes_on : {X Y : Type 0} {form : Form Y} {bytes : List ℕ} {first : Form X} {next : X → Form Y} {rest after : List ℕ} {x : X} → Continues form bytes (first >>= next) rest → Reads first rest x after → Continues form bytes (next x) after
unfolding Reads Breaks
goes_on {after = after} {x = x} so_far h = record {
  reads = λ y more k. so_far.reads y more (x, after, h, k);
  breaks = λ left k. so_far.breaks left (inr (x, after, h, k));
}

pub ends : {X : Type 0} {form : Form X} {bytes : List ℕ} {x : X} {rest : List ℕ} → Continues form bytes (done x) rest → Reads form bytes x rest
unfolding Reads
ends {x = x} {rest = rest} so_far = so_far.reads x rest (refl, refl)

pub ends_with : {X : Type 0} {form later : Form X} {bytes rest : List ℕ} (x : X) (more : List ℕ) → Continues form bytes later rest → Reads later rest x more → Reads form bytes x more
ends_with x more so_far h = so_far.reads x more h

pub fails_first : {X Y : Type 0} {form : Form Y} {bytes : List ℕ} {first : Form X} {next : X → Form Y} {rest : List ℕ} (left : ℕ) → Continues form bytes (first >>= next) rest → Breaks first rest left → Breaks form bytes left
unfolding Breaks
fails_first left so_far h = so_far.breaks left (inl h)

-- the same of an error, which may be want of memory
pub fails : {X Y : Type 0} {form : Form Y} {bytes : List ℕ} {first : Form X} {next : X → Form Y} {rest : List ℕ} (e : Stop) → Continues form bytes (first >>= next) rest → Fails first rest e → Fails form bytes e
fails (stops.At left) so_far h = fails_first left so_far h
fails stops.Memory so_far h = tt

-- ---- repetitions
module _ {X : Type 0} (form : Form X) (bytes : List ℕ) (step : X → Form X) (n i : ℕ) (x : X) (rest : List ℕ) where
  -- one more
  pub repeats : (y : X) (after : List ℕ) → i < n → Continues form bytes (repeat step (n - i) x) rest → Reads (step x) rest y after → Continues form bytes (repeat step (n - (i + 1)) y) after
  unfolding repeat
  repeats y after lt so_far h =
      let left : n - i ≡ suc (n - (i + 1)) = omega arith in
      goes_on (subst (λ m. Continues form bytes (repeat step m x) rest) left so_far) h

  -- the next one fails
  pub repeat_fails : (left : ℕ) → i < n → Continues form bytes (repeat step (n - i) x) rest → Breaks (step x) rest left → Breaks form bytes left
  unfolding repeat
  repeat_fails left lt so_far h =
      let more : n - i ≡ suc (n - (i + 1)) = omega arith in
      fails_first left (subst (λ m. Continues form bytes (repeat step m x) rest) more so_far) h

  pub repeat_stops : (e : Stop) → i < n → Continues form bytes (repeat step (n - i) x) rest → Fails (step x) rest e → Fails form bytes e
  repeat_stops (stops.At left) lt so_far h = repeat_fails left lt so_far h
  repeat_stops stops.Memory lt so_far h = tt

  -- no more
  pub repeats_all : n ≤ i → Continues form bytes (repeat step (n - i) x) rest → Reads form bytes x rest
  unfolding repeat
  repeats_all le so_far =
      let none : n - i ≡ 0 = omega arith in
      ends (subst (λ m. Continues form bytes (repeat step m x) rest) none so_far)

-- ---- one reading
pub reads_once : {X : Type 0} (form : Form X) (bytes : List ℕ) (x y : X) (rest more : List ℕ) → IsClear form → Reads form bytes x rest → Reads form bytes y more → (x ≡ y) × (rest ≡ more)
unfolding Reads IsClear
reads_once (done z) bytes x y rest more clear h k = (sym h.0 ∙ k.0, sym h.1 ∙ k.1)
reads_once (field spelled Allowed) bytes x y rest more clear h k = clear.same x y rest more h.allowed k.allowed (sym h.spells ∙ k.spells)
reads_once (first >>= next) bytes x y rest more clear h k =
    let same = reads_once first bytes h.0 k.0 h.1 k.1 clear.0 h.2 k.2 in
    reads_once (next h.0) h.1 x y rest more (clear.1 h.0 bytes h.1 h.2) h.3
    (subst (λ bs. Reads (next h.0) bs y more) (sym same.1) (subst (λ w. Reads (next w) k.1 y more) (sym same.0) k.3))

pub reads_or_breaks : {X : Type 0} (form : Form X) (bytes : List ℕ) (x : X) (rest : List ℕ) (left : ℕ) → IsClear form → Reads form bytes x rest → Breaks form bytes left → ⊥
unfolding Reads Breaks IsClear
reads_or_breaks (done z) bytes x rest left clear h k = k
reads_or_breaks (field spelled Allowed) bytes x rest left clear h k = k.0 x rest h
reads_or_breaks (first >>= next) bytes x rest left clear h (inl k) = reads_or_breaks first bytes h.0 h.1 left clear.0 h.2 k
reads_or_breaks (first >>= next) bytes x rest left clear h (inr k) =
    let same = reads_once first bytes h.0 k.0 h.1 k.1 clear.0 h.2 k.2 in
    reads_or_breaks (next h.0) h.1 x rest left (clear.1 h.0 bytes h.1 h.2) h.3
    (subst (λ bs. Breaks (next h.0) bs left) (sym same.1) (subst (λ w. Breaks (next w) k.1 left) (sym same.0) k.3))

pub breaks_once : {X : Type 0} (form : Form X) (bytes : List ℕ) (left right : ℕ) → IsClear form → Breaks form bytes left → Breaks form bytes right → left ≡ right
unfolding Breaks IsClear
breaks_once (done z) bytes left right clear h k = absurd h
breaks_once (field spelled Allowed) bytes left right clear h k = h.1 ∙ sym k.1
breaks_once (first >>= next) bytes left right clear (inl h) (inl k) = breaks_once first bytes left right clear.0 h k
breaks_once (first >>= next) bytes left right clear (inl h) (inr k) = absurd (reads_or_breaks first bytes k.0 k.1 left clear.0 k.2 h)
breaks_once (first >>= next) bytes left right clear (inr h) (inl k) = absurd (reads_or_breaks first bytes h.0 h.1 right clear.0 h.2 k)
breaks_once (first >>= next) bytes left right clear (inr h) (inr k) =
    let same = reads_once first bytes h.0 k.0 h.1 k.1 clear.0 h.2 k.2 in
    breaks_once (next h.0) h.1 left right (clear.1 h.0 bytes h.1 h.2) h.3
    (subst (λ bs. Breaks (next h.0) bs right) (sym same.1) (subst (λ w. Breaks (next w) k.1 right) (sym same.0) k.3))

-- ---- whole texts
pub nothing_left : (rest : List ℕ) → eqb (length rest) 0 ≡ true → rest ≡ []
nothing_left [] is = refl
nothing_left (b ∷ bs) is = absurd (omega (arith, eqb-true (length (b ∷ bs)) 0 is))

pub some_left : (rest : List ℕ) → eqb (length rest) 0 ≡ false → 0 < length rest
some_left [] other = absurd (true≢false other)
some_left (b ∷ bs) other = omega arith

pub rest_short : {X : Type 0} (form : Form X) (bytes : List ℕ) (x : X) (rest : List ℕ) → Reads form bytes x rest → length rest ≤ length bytes
unfolding Reads
rest_short (done z) bytes x rest h = omega (arith, ap length h.1)
rest_short (field spelled Allowed) bytes x rest h = omega (arith, ap length h.spells, length-append (spelled x) rest)
rest_short (first >>= next) bytes x rest h = omega (arith, rest_short first bytes h.0 h.1 h.2, rest_short (next h.0) h.1 x rest h.3)

pub left_high : {X : Type 0} (form : Form X) (bytes : List ℕ) (left : ℕ) → Breaks form bytes left → left ≤ length bytes
unfolding Breaks
left_high (done z) bytes left h = absurd h
left_high (field spelled Allowed) bytes left h = omega (arith, h.1)
left_high (first >>= next) bytes left (inl h) = left_high first bytes left h
left_high (first >>= next) bytes left (inr h) = omega (arith, rest_short first bytes h.0 h.1 h.2, left_high (next h.0) h.1 left h.3)

pub text_once : {X : Type 0} (form : Form X) (bytes : List ℕ) (x y : X) → IsClear form → IsText form bytes x → IsText form bytes y → x ≡ y
text_once form bytes x y clear h k = (reads_once form bytes x y [] [] clear h k).0

leaves_once : {X : Type 0} (form : Form X) (bytes : List ℕ) (left right : ℕ) → IsClear form → LeavesAt form bytes left → LeavesAt form bytes right → left ≡ right
leaves_once form bytes left right clear (inl h) (inl k) = breaks_once form bytes left right clear h k
leaves_once form bytes left right clear (inl h) (inr k) = absurd (reads_or_breaks form bytes k.0 k.1 left clear k.2 h)
leaves_once form bytes left right clear (inr h) (inl k) = absurd (reads_or_breaks form bytes h.0 h.1 right clear h.2 k)
leaves_once form bytes left right clear (inr h) (inr k) = h.4 ∙ ap length (reads_once form bytes h.0 k.0 h.1 k.1 clear h.2 k.2).1 ∙ sym k.4

pub bad_line_once : {X : Type 0} (form : Form X) (bytes : List ℕ) (m n : ℕ) → IsClear form → IsBadLine form bytes m → IsBadLine form bytes n → m ≡ n
bad_line_once form bytes m n clear h k = h.line ∙ ap (line_at bytes) (leaves_once form bytes h.left k.left clear h.leaves k.leaves) ∙ sym k.line

pub text_or_bad : {X : Type 0} (form : Form X) (bytes : List ℕ) (x : X) (n : ℕ) → IsClear form → IsText form bytes x → IsBadLine form bytes n → ⊥
text_or_bad form bytes x n clear h bad = cases bad.leaves
  where
    cases : LeavesAt form bytes bad.left → ⊥
    cases (inl k) = reads_or_breaks form bytes x [] bad.left clear h k
    cases (inr k) = omega (arith, k.3, ap length (reads_once form bytes x k.0 [] k.1 clear h k.2).1)

-- ---- fixed lines
next_line : (texts : List (List ℕ)) (i : ℕ) → i < length texts → drop i texts ≡ get_or texts i [] ∷ drop (i + 1) texts
next_line texts i lt = rw (add-one, drop-cons texts i [])

pub lines_go_on : (bytes : List ℕ) (lines texts : List (List ℕ)) (text : List ℕ) (i : ℕ) (rest after : List ℕ) → i < length texts → text ≡ get_or texts i [] → Continues (fixed_lines lines) bytes (fixed_lines (drop i texts)) rest → Reads (fixed text) rest tt after → Continues (fixed_lines lines) bytes (fixed_lines (drop (i + 1) texts)) after
unfolding fixed_lines
lines_go_on bytes lines texts text i rest after lt is so_far h =
    goes_on (subst (λ ts. Continues (fixed_lines lines) bytes (fixed_lines ts) rest) (next_line texts i lt) so_far) (subst (λ t. Reads (fixed t) rest tt after) is h)

pub lines_fail : (e : Stop) (bytes : List ℕ) (lines texts : List (List ℕ)) (text : List ℕ) (i : ℕ) (rest : List ℕ) → i < length texts → text ≡ get_or texts i [] → Continues (fixed_lines lines) bytes (fixed_lines (drop i texts)) rest → Fails (fixed text) rest e → Fails (fixed_lines lines) bytes e
unfolding fixed_lines
lines_fail e bytes lines texts text i rest lt is so_far h =
    fails e (subst (λ ts. Continues (fixed_lines lines) bytes (fixed_lines ts) rest) (next_line texts i lt) so_far) (subst (λ t. Fails (fixed t) rest e) is h)

pub lines_end : (bytes : List ℕ) (lines texts : List (List ℕ)) (i : ℕ) (rest : List ℕ) → length texts ≤ i → Continues (fixed_lines lines) bytes (fixed_lines (drop i texts)) rest → Reads (fixed_lines lines) bytes tt rest
unfolding fixed_lines
lines_end bytes lines texts i rest le so_far = ends (subst (λ ts. Continues (fixed_lines lines) bytes (fixed_lines ts) rest) (drop_of_length-le texts le) so_far)
