-- The text of a soup is read again as the same soup.
use Rattle.std.proofs.Common.{◌≡◌, ℕ, suc, ◌+◌, ◌-◌, ◌^◌, ◌<◌, ◌≤◌, List, [], ◌∷◌, ◌++◌, length, drop, Ok, None, refl, ap, ◌∙◌, append_assoc, arith, ℤ, false, slice_index}
use Rattle.std.proofs.lemmas.List.Elements.{recursion_from_All}
use Rattle.std.specs.Prelude.{decimal as written, codes}
use Rattle.std.specs.Fmt.{signed_decimal}
use Rattle.std.specs.List.{flat_map, AllByRecursion}
use Rattle.grid.specs.Limits.{most_input}
use Rattle.int_algebra.specs.Within.{IsWithin}
use Rattle.soup.specs.declared.raw.Raw.{Raw}
use Rattle.soup.specs.Limits.{IsVertex, IsFaceBelow, IsRaw}
use Rattle.soup.specs.Placement.{along}
use Rattle.off_text.specs.Words.{Word, words_from}
use Rattle.off_text.specs.Scans.{rest_at}
use Rattle.off_text.specs.Text.{count_line, vertex_line, face_line, off_text, IsOfTriples}
use Rattle.off_text.specs.Grammar.{◌>>=◌, next, keyword, first_count, count, edge_count, corner_count, index, coordinate, vertex, vertices, several, fan, fan_on, beyond_line, face, faces, reads}
use Rattle.off_text.proofs.Whole.{after_faces}
use Rattle.off_text.proofs.WrittenWords.{IsToken, IsBreak, space, feed, token_step, read_next, beyond_last}
use Rattle.off_text.proofs.WrittenNumbers.{number_token, with_sign_token, count_said, first_count_said, no_edges_said, three_said, index_said, coordinate_said}

-- ---- vertices
-- a line of three texts, and what follows it
three_texts : (a b c rest : List ℕ) → (a ++ codes " " ++ b ++ codes " " ++ c ++ codes "\n") ++ rest ≡ a ++ 32 ∷ (b ++ 32 ∷ (c ++ 10 ∷ rest))
three_texts a b c rest = simp append_assoc

-- the place behind a word and its blank
abbrev after : ℕ → List ℕ → ℕ
after p t = p + length t + 1

read_coordinate : (end p b : ℕ) (z : ℤ) (rest : List ℕ) → IsWithin (10 ^ 9) z → IsBreak b → next (coordinate None) end (words_from false p (signed_decimal z ++ b ∷ rest)) ≡ Ok (z, words_from false (after p (signed_decimal z)) rest)
read_coordinate end p b z rest few k = read_next (coordinate None) end p b (signed_decimal z) rest z (with_sign_token z few) k (λ w is. coordinate_said w z is few)

vertex_read : (end p : ℕ) (x y z : ℤ) (rest : List ℕ) → IsWithin (10 ^ 9) x → IsWithin (10 ^ 9) y → IsWithin (10 ^ 9) z
    → vertex None end (words_from false p (signed_decimal x ++ 32 ∷ (signed_decimal y ++ 32 ∷ (signed_decimal z ++ 10 ∷ rest)))) ≡ Ok (x ∷ y ∷ z ∷ [], words_from false (after (after (after p (signed_decimal x)) (signed_decimal y)) (signed_decimal z)) rest)
vertex_read end p x y z rest hx hy hz =
    let q = after p (signed_decimal x) in
    let r = after q (signed_decimal y) in
    ap (λ said. said >>= λ a. next (coordinate None) end a.1 >>= λ b. next (coordinate None) end b.1 >>= λ c. Ok (a.0 ∷ b.0 ∷ c.0 ∷ [], c.1)) (read_coordinate end p 32 x (signed_decimal y ++ 32 ∷ (signed_decimal z ++ 10 ∷ rest)) hx space)
    ∙ ap (λ said. said >>= λ b. next (coordinate None) end b.1 >>= λ c. Ok (x ∷ b.0 ∷ c.0 ∷ [], c.1)) (read_coordinate end q 32 y (signed_decimal z ++ 10 ∷ rest) hy space)
    ∙ ap (λ said. said >>= λ c. Ok (x ∷ y ∷ c.0 ∷ [], c.1)) (read_coordinate end r 10 z rest hz feed)

three_coordinates : (v : List ℤ) → length v ≡ 3 → along 0 v ∷ along 1 v ∷ along 2 v ∷ [] ≡ v
three_coordinates [] h = absurd (omega (arith, h))
three_coordinates (x ∷ []) h = absurd (omega (arith, h))
three_coordinates (x ∷ y ∷ []) h = absurd (omega (arith, h))
three_coordinates (x ∷ y ∷ z ∷ []) h = refl
three_coordinates (x ∷ y ∷ z ∷ w ∷ vs) h = absurd (omega (arith, h))

line_read : (end p : ℕ) (v : List ℤ) (rest : List ℕ) → IsVertex v → length v ≡ 3 → (q : ℕ) × (vertex None end (words_from false p (vertex_line v ++ rest)) ≡ Ok (v, words_from false q rest))
line_read end p v rest h three = (
  _,
  ap (λ bs. vertex None end (words_from false p bs)) (three_texts (signed_decimal (along 0 v)) (signed_decimal (along 1 v)) (signed_decimal (along 2 v)) rest)
      ∙ vertex_read end p (along 0 v) (along 1 v) (along 2 v) rest h.x_in h.y_in h.z_in
      ∙ ap (λ (u : List ℤ). Ok (u, words_from false (after (after (after p (signed_decimal (along 0 v))) (signed_decimal (along 1 v))) (signed_decimal (along 2 v))) rest)) (three_coordinates v three),
)

vertices_read : (end p : ℕ) (vs : List (List ℤ)) (rest : List ℕ) → AllByRecursion IsVertex vs → AllByRecursion (λ v. length v ≡ 3) vs
    → (q : ℕ) × (vertices None end (length vs) (words_from false p (flat_map vertex_line vs ++ rest)) ≡ Ok (vs, words_from false q rest))
unfolding vertices
vertices_read end p [] rest h k = (p, refl)
vertices_read end p (v ∷ vs) rest h k =
    let first = line_read end p v (flat_map vertex_line vs ++ rest) h.0 k.0 in
    let others = vertices_read end first.0 vs rest h.1 k.1 in (
      others.0,
      ap (λ bs. vertices None end (suc (length vs)) (words_from false p bs)) (append_assoc (vertex_line v) (flat_map vertex_line vs) rest)
          ∙ ap (λ said. said >>= λ x. vertices None end (length vs) x.1 >>= λ ys. Ok (x.0 ∷ ys.0, ys.1)) first.1
          ∙ ap (λ said. said >>= λ ys. Ok (v ∷ ys.0, ys.1)) others.1,
    )

-- ---- faces
read_index : (end p b n c : ℕ) (rest : List ℕ) → c < n → n ≤ most_input → IsBreak b → next (index n) end (words_from false p (written c ++ b ∷ rest)) ≡ Ok (c, words_from false (after p (written c)) rest)
read_index end p b n c rest below few k = read_next (index n) end p b (written c) rest c (number_token c (omega (arith, below, few))) k (λ w is. index_said n w c is below few)

three_token : IsToken (codes "3")
three_token = record { some = omega arith; inner = refl }

-- the words of the third corner and behind it
third : (end p n a b : ℕ) (rest : List ℕ) → a < n → b < n → n ≤ most_input → drop 2 (words_from false p (written a ++ 32 ∷ (written b ++ 32 ∷ rest))) ≡ words_from false (after (after p (written a)) (written b)) rest
third end p n a b rest ha hb few =
    ap (drop 2) (token_step p 32 (written a) (written b ++ 32 ∷ rest) (number_token a (omega (arith, ha, few))) space)
    ∙ ap (drop 1) (token_step (after p (written a)) 32 (written b) rest (number_token b (omega (arith, hb, few))) space)

corners_read : (end p n a b c : ℕ) (rest : List ℕ) → a < n → b < n → c < n → n ≤ most_input
    → several (index n) end 3 (words_from false p (written a ++ 32 ∷ (written b ++ 32 ∷ (written c ++ 10 ∷ rest)))) ≡ Ok (a ∷ b ∷ c ∷ [])
unfolding several
corners_read end p n a b c rest ha hb hc few =
    let q = after p (written a) in
    let r = after q (written b) in
    ap (λ said. said >>= λ x. several (index n) end 2 x.1 >>= λ xs. Ok (x.0 ∷ xs)) (read_index end p 32 n a (written b ++ 32 ∷ (written c ++ 10 ∷ rest)) ha few space)
    ∙ ap (λ said. (said >>= λ x. several (index n) end 1 x.1 >>= λ xs. Ok (x.0 ∷ xs)) >>= λ xs. Ok (a ∷ xs)) (read_index end q 32 n b (written c ++ 10 ∷ rest) hb few space)
    ∙ ap (λ said. ((said >>= λ x. several (index n) end 0 x.1 >>= λ xs. Ok (x.0 ∷ xs)) >>= λ xs. Ok (b ∷ xs)) >>= λ xs. Ok (a ∷ xs)) (read_index end r 10 n c rest hc few feed)

face_read : (end p n made a b c : ℕ) (rest : List ℕ) → a < n → b < n → c < n → n ≤ most_input → made + 1 ≤ most_input
    → (q : ℕ) × (face end n made (words_from false p (51 ∷ 32 ∷ (written a ++ 32 ∷ (written b ++ 32 ∷ (written c ++ 10 ∷ rest))))) ≡ Ok ((a ∷ b ∷ c ∷ []) ∷ [], words_from false q rest))
unfolding face fan_on
face_read end p n made a b c rest ha hb hc few room =
    let behind : List ℕ = written a ++ 32 ∷ (written b ++ 32 ∷ (written c ++ 10 ∷ rest)) in
    let q = p + 1 + 1 in
    let r = after (after q (written a)) (written b) in (
      after r (written c),
      ap (λ said. said >>= λ k. several (index n) end k.0 k.1 >>= λ cs. Ok (fan cs, beyond_line (drop (k.0 - 1) k.1))) (read_next (corner_count made) end p 32 (codes "3") behind 3 three_token space (λ w is. three_said made w is room))
          ∙ ap (λ said. said >>= λ cs. Ok (fan cs, beyond_line (drop 2 (words_from false q behind)))) (corners_read end q n a b c rest ha hb hc few)
          ∙ ap (λ (ws : List Word). Ok ((a ∷ b ∷ c ∷ []) ∷ [], beyond_line ws)) (third end q n a b (written c ++ 10 ∷ rest) ha hb few)
          ∙ ap (λ (ws : List Word). Ok ((a ∷ b ∷ c ∷ []) ∷ [], ws)) (beyond_last r (written c) rest (number_token c (omega (arith, hc, few)))),
    )

three_corners : (f : List ℕ) → length f ≡ 3 → slice_index f 0 ∷ slice_index f 1 ∷ slice_index f 2 ∷ [] ≡ f
three_corners [] h = absurd (omega (arith, h))
three_corners (a ∷ []) h = absurd (omega (arith, h))
three_corners (a ∷ b ∷ []) h = absurd (omega (arith, h))
three_corners (a ∷ b ∷ c ∷ []) h = refl
three_corners (a ∷ b ∷ c ∷ d ∷ fs) h = absurd (omega (arith, h))

face_line_read : (end p n made : ℕ) (f rest : List ℕ) → IsFaceBelow n f → length f ≡ 3 → n ≤ most_input → made + 1 ≤ most_input → (q : ℕ) × (face end n made (words_from false p (face_line f ++ rest)) ≡ Ok (f ∷ [], words_from false q rest))
face_line_read end p n made f rest h three few room =
    let read = face_read end p n made (slice_index f 0) (slice_index f 1) (slice_index f 2) rest h.a_in h.b_in h.c_in few room in (
      read.0,
      ap (λ bs. face end n made (words_from false p (51 ∷ 32 ∷ bs))) (three_texts (written (slice_index f 0)) (written (slice_index f 1)) (written (slice_index f 2)) rest)
          ∙ read.1
          ∙ ap (λ (g : List ℕ). Ok (g ∷ [], words_from false read.0 rest)) (three_corners f three),
    )

faces_read : (end p n made : ℕ) (fs : List (List ℕ)) → AllByRecursion (IsFaceBelow n) fs → AllByRecursion (λ f. length f ≡ 3) fs → n ≤ most_input → made + length fs ≤ most_input
    → faces end n (length fs) made (words_from false p (flat_map face_line fs)) ≡ Ok fs
unfolding faces
faces_read end p n made [] h k few room = refl
faces_read end p n made (f ∷ fs) h k few room =
    let first = face_line_read end p n made f (flat_map face_line fs) h.0 k.0 few (omega (arith, room)) in
    ap (λ said. said >>= λ x. faces end n (length fs) (made + length x.0) x.1 >>= λ ys. Ok (x.0 ++ ys)) first.1
    ∙ ap (λ said. said >>= λ ys. Ok (f ∷ ys)) (faces_read end first.0 n (made + 1) fs h.1 k.1 few (omega (arith, room)))

-- ---- the whole text
counts_line : (n f : ℕ) (rest : List ℕ) → count_line n f ++ rest ≡ written n ++ 32 ∷ (written f ++ 32 ∷ (48 ∷ 10 ∷ rest))
counts_line n f rest = simp append_assoc

zero_token : IsToken (codes "0")
zero_token = record { some = omega arith; inner = refl }

keyword_token : IsToken (codes "OFF")
keyword_token = record { some = omega arith; inner = refl }

pub read_back : (raw : Raw) → IsRaw raw → IsOfTriples raw → reads None (off_text raw) ≡ Ok raw
unfolding off_text rest_at
read_back raw h k =
    let bytes : List ℕ = off_text raw in
    let end : ℕ = length bytes in
    let n : ℕ = length raw.vertices in
    let f : ℕ = length raw.faces in
    let lines : List ℕ = flat_map vertex_line raw.vertices ++ flat_map face_line raw.faces in
    let p : ℕ = 0 + 3 + 1 in
    let q = after p (written n) in
    let r = after q (written f) in
    let s = r + 1 + 1 in
    let behind : List ℕ = written n ++ 32 ∷ (written f ++ 32 ∷ (48 ∷ 10 ∷ lines)) in
    let text : bytes ≡ codes "OFF" ++ 10 ∷ behind = ap (λ bs. codes "OFF" ++ 10 ∷ bs) (append_assoc (count_line n f) (flat_map vertex_line raw.vertices) (flat_map face_line raw.faces) ∙ counts_line n f lines) in
    let vs = vertices_read end s raw.vertices (flat_map face_line raw.faces) (recursion_from_All IsVertex raw.vertices h.coordinates) (recursion_from_All _ raw.vertices k.vertices) in
    after_faces None bytes (words_from false p behind) (words_from false q (written f ++ 32 ∷ (48 ∷ 10 ∷ lines))) (words_from false r (48 ∷ 10 ∷ lines)) (words_from false s lines) (words_from false vs.0 (flat_map face_line raw.faces)) n f raw.vertices raw.faces
    (record {
      keyword_is = ap (λ bs. keyword end (words_from false 0 bs)) text ∙ ap (keyword end) (token_step 0 10 (codes "OFF") behind keyword_token feed);
      vertices_are = read_next first_count end p 32 (written n) (written f ++ 32 ∷ (48 ∷ 10 ∷ lines)) n (number_token n (omega (arith, h.vertices_few))) space (λ w is. first_count_said w n is h.vertices_few);
      faces_are = read_next count end q 32 (written f) (48 ∷ 10 ∷ lines) f (number_token f (omega (arith, h.faces_few))) space (λ w is. count_said w f is h.faces_few);
    })
    (read_next edge_count end r 10 (codes "0") lines tt zero_token feed (λ w is. no_edges_said w is))
    vs.1
    (faces_read end vs.0 n 0 raw.faces (recursion_from_All (IsFaceBelow n) raw.faces h.corners) (recursion_from_All _ raw.faces k.faces) h.vertices_few (omega (arith, h.faces_few)))
