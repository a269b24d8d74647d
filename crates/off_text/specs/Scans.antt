-- What a reader that goes over the bytes has left, by its place.
use Rattle.std.specs.Prelude.{◌≡◌, ℕ, ◌+◌, ◌≤◌, ◌<◌, ◌==◌, ◌&&◌, Bool, false, not, nat_lt, List, ◌∷◌, length, drop, slice_range}
use Rattle.std.specs.List.{prefix_len, filter}
use Rattle.off_text.specs.declared.scan.Span.{Span}
use Rattle.off_text.specs.Words.{is_blank, Word, words_from, to_line_feed}

-- a byte of a word
abbrev pub is_inner : ℕ → Bool
is_inner b = not (b == 35) && not (is_blank b)

-- the place of the first byte from a place on that fails the test, or of the end
unfoldable pub first_failing : (ℕ → Bool) → List ℕ → ℕ → ℕ
first_failing test bytes from = from + prefix_len test (drop from bytes)

-- the place of the first line feed from a place on, or of the end
unfoldable pub line_end_at : List ℕ → ℕ → ℕ
line_end_at bytes from = from + to_line_feed (drop from bytes)

-- the words from a place on
unfoldable pub rest_at : List ℕ → ℕ → List Word
rest_at bytes from = words_from false from (drop from bytes)

-- the word between two places
abbrev pub word_at : List ℕ → Span → Word
word_at bytes w = record { bytes = slice_range bytes w.start w.end; place = w.start; line_end = line_end_at bytes w.end }

-- the span is that of the next word
pub record IsNext (bytes : List ℕ) (from : ℕ) (w : Span) : Type 0 where
  pub begins : w.start < w.end
  pub ends : w.end ≤ length bytes
  pub words_are : rest_at bytes from ≡ word_at bytes w ∷ rest_at bytes w.end

-- the words that begin after the line end that comes next
abbrev pub beyond_at : List ℕ → ℕ → List Word
beyond_at bytes from = filter (λ v. nat_lt (line_end_at bytes from) v.place) (rest_at bytes from)
