-- What an OFF text says: the soup, or the first refusal with its place.
use Rattle.std.specs.Prelude.{ℕ, zero, suc, ◌+◌, ◌-◌, not, nat_lt, nat_eq, List, [], ◌∷◌, ◌++◌, length, drop, codes, Option, if◌then◌else◌, Result, Ok, Err, ℤ}
use Rattle.std.specs.List.{filter, ends_with}
use Rattle.std.specs.Str.{bytes_eq}
use Rattle.grid.specs.Limits.{most_input}
use Rattle.soup.specs.declared.raw.Raw.{Raw}
use Rattle.off_text.specs.declared.issue.OffKind.{OffKind}
use Rattle.off_text.specs.declared.issue.OffKind.TheVariants.{NoKeyword, OtherKeyword, BadCount, Ended, BadNumber, BadIndex, ShortFace, TooMany}
use Rattle.off_text.specs.Words.{Word, words}
use Rattle.off_text.specs.Numbers.{is_number, decimal}
use Rattle.off_text.specs.Rounding.{coordinate_of}

-- what is wrong, and the place of the word that is, or of the end
pub record Refusal : Type 0 where
  pub kind : OffKind
  pub place : ℕ

-- a value and the words after it, or the first refusal
abbrev pub Reading : Type 0 → Type 0
Reading X = Result (X × List Word) Refusal

-- what follows, unless there was a refusal
infixl 10 ◌>>=◌
abbrev pub ◌>>=◌ : {A B : Type 0} → Result A Refusal → (A → Result B Refusal) → Result B Refusal
(Ok x) >>= f = f x
(Err e) >>= f = Err e

-- a refusal of the word or the end at a place
abbrev pub refused : {X : Type 0} → OffKind → ℕ → Result X Refusal
refused kind place = Err (record { kind = kind; place = place })

-- the next word, by what it says
abbrev pub next : {X : Type 0} → (Word → Result X Refusal) → (end : ℕ) → List Word → Reading X
next said end [] = refused Ended end
next said end (w ∷ ws) = said w >>= λ x. Ok (x, ws)

-- ---- the keyword and the counts
-- the word OFF, and not another one that ends so
abbrev pub keyword : (end : ℕ) → List Word → Result (List Word) Refusal
keyword end [] = refused NoKeyword end
keyword end (w ∷ ws) =
    if bytes_eq w.bytes (codes "OFF") then Ok ws
    else if ends_with nat_eq w.bytes (codes "OFF") then refused OtherKeyword w.place
    else refused NoKeyword w.place

-- a number of vertices or of faces
abbrev pub count : Word → Result ℕ Refusal
count w =
    if not (is_number w.bytes) then refused BadCount w.place
    else if nat_lt most_input (decimal w.bytes) then refused TooMany w.place
    else Ok (decimal w.bytes)

-- the number of vertices, where BINARY would name another variant
abbrev pub first_count : Word → Result ℕ Refusal
first_count w = if bytes_eq w.bytes (codes "BINARY") then refused OtherKeyword w.place else count w

-- the number of edges, which may have any size and is not used
abbrev pub edge_count : Word → Result (Unit {0}) Refusal
edge_count w = if not (is_number w.bytes) then refused BadCount w.place else Ok tt

-- ---- the vertices
-- a refusal of the word at a place, where it is refused
abbrev pub at_place : {X : Type 0} → ℕ → Result X OffKind → Result X Refusal
at_place place (Ok x) = Ok x
at_place place (Err kind) = refused kind place

-- a coordinate: a whole number, or where digits are given, in units of 10 ^ -digits
abbrev pub coordinate : (digits : Option ℕ) → Word → Result ℤ Refusal
coordinate digits w = at_place w.place (coordinate_of digits w.bytes)

-- three coordinates
abbrev pub vertex : (digits : Option ℕ) → (end : ℕ) → List Word → Reading (List ℤ)
vertex digits end ws = do
  x ← next (coordinate digits) end ws
  y ← next (coordinate digits) end x.1
  z ← next (coordinate digits) end y.1
  Ok (x.0 ∷ y.0 ∷ z.0 ∷ [], z.1)

-- n vertices
unfoldable pub vertices : (digits : Option ℕ) → (end n : ℕ) → List Word → Reading (List (List ℤ))
vertices digits end zero ws = Ok ([], ws)
vertices digits end (suc n) ws = do
  first ← vertex digits end ws
  others ← vertices digits end n first.1
  Ok (first.0 ∷ others.0, others.1)

-- ---- the faces
-- the number of corners of a face, where so many triangles were made before
abbrev pub corner_count : (made : ℕ) → Word → Result ℕ Refusal
corner_count made w =
    if not (is_number w.bytes) then refused BadCount w.place
    else if nat_lt (decimal w.bytes) 3 then refused ShortFace w.place
    else if nat_lt most_input (made + (decimal w.bytes - 2)) then refused TooMany w.place
    else Ok (decimal w.bytes)

-- the number of a vertex, of which there are n
abbrev pub index : (n : ℕ) → Word → Result ℕ Refusal
index n w =
    if not (is_number w.bytes) then refused BadNumber w.place
    else if nat_lt (decimal w.bytes) n then Ok (decimal w.bytes)
    else refused BadIndex w.place

-- the next n words, by what each says
unfoldable pub several : {X : Type 0} → (Word → Result X Refusal) → (end n : ℕ) → List Word → Result (List X) Refusal
several said end zero ws = Ok []
several said end (suc n) ws = do
  first ← next said end ws
  others ← several said end n first.1
  Ok (first.0 ∷ others)

-- the words that begin after the line of the first of these
abbrev pub beyond_line : List Word → List Word
beyond_line [] = []
beyond_line (w ∷ ws) = filter (λ v. nat_lt w.line_end v.place) ws

-- the triangles of a face with the corners a, b and those of a list: each from a to two that follow one another
unfoldable pub fan_on : (a b : ℕ) → List ℕ → List (List ℕ)
fan_on a b [] = []
fan_on a b (c ∷ cs) = (a ∷ b ∷ c ∷ []) ∷ fan_on a c cs

-- the triangles of a face by its corners
abbrev pub fan : List ℕ → List (List ℕ)
fan (a ∷ b ∷ cs) = fan_on a b cs
fan cs = []

-- the triangles of a face, of n vertices and behind so many triangles; what stands behind its last corner on that line is passed over
unfoldable pub face : (end n made : ℕ) → List Word → Reading (List (List ℕ))
face end n made ws = do
  number ← next (corner_count made) end ws
  corners ← several (index n) end number.0 number.1
  Ok (fan corners, beyond_line (drop (number.0 - 1) number.1))

-- the triangles of f faces
unfoldable pub faces : (end n f made : ℕ) → List Word → Result (List (List ℕ)) Refusal
faces end n zero made ws = Ok []
faces end n (suc f) made ws = do
  first ← face end n made ws
  others ← faces end n f (made + length first.0) first.1
  Ok (first.0 ++ others)

-- the soup that the bytes say, with coordinates in units of 10 ^ -digits where digits are given; or the first refusal
unfoldable pub reads : (digits : Option ℕ) → List ℕ → Result Raw Refusal
reads digits bytes = do
  rest ← keyword (length bytes) (words bytes)
  n ← next first_count (length bytes) rest
  f ← next count (length bytes) n.1
  edges ← next edge_count (length bytes) f.1
  points ← vertices digits (length bytes) n.0 edges.1
  triangles ← faces (length bytes) n.0 f.0 0 points.1
  Ok (record { vertices = points.0; faces = triangles })
