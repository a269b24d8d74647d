-- The words of an OFF text, with their places.
use Rattle.std.specs.Prelude.{ℕ, ◌+◌, ◌==◌, ◌||◌, Bool, true, false, not, List, [], ◌∷◌, if◌then◌else◌}
use Rattle.std.specs.List.{position_or_len}

-- a space, a tab, a carriage return or a line feed
abbrev pub is_blank : ℕ → Bool
is_blank b = b == 32 || b == 9 || b == 13 || b == 10

-- how many bytes stand before the first line feed, or before the end where there is none
unfoldable pub to_line_feed : List ℕ → ℕ
to_line_feed bytes = position_or_len (λ b. b == 10) bytes

-- a word: its bytes, its place (the number of bytes before it), and the place of the line feed or of the end where its line ends
pub record Word : Type 0 where
  pub bytes : List ℕ
  pub place : ℕ
  pub line_end : ℕ

-- a byte of a word goes before the words behind it: it begins the word that stands right behind it, or is a word of its own
abbrev pub joined : (byte place line_end : ℕ) → List Word → List Word
joined byte place line_end [] = record { bytes = byte ∷ []; place = place; line_end = line_end } ∷ []
joined byte place line_end (w ∷ ws) =
    if w.place == place + 1
    then record { bytes = byte ∷ w.bytes; place = place; line_end = line_end } ∷ ws
    else record { bytes = byte ∷ []; place = place; line_end = line_end } ∷ w ∷ ws

-- the words of the bytes from a place on: the longest runs of bytes that are neither blanks nor #, outside comments. A comment goes from a # to the next line feed or the end
unfoldable pub words_from : (in_comment : Bool) → (place : ℕ) → List ℕ → List Word
words_from in_comment place [] = []
words_from true place (b ∷ bs) = words_from (not (b == 10)) (place + 1) bs
words_from false place (b ∷ bs) =
    if b == 35 then words_from true (place + 1) bs
    else if is_blank b then words_from false (place + 1) bs
    else joined b place (place + to_line_feed (b ∷ bs)) (words_from false (place + 1) bs)

-- the words of a text
abbrev pub words : List ℕ → List Word
words bytes = words_from false 0 bytes
