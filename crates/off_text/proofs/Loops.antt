-- Reading one thing after the other, as a loop does.
use Rattle.std.proofs.Common.{◌≡◌, ℕ, suc, ◌+◌, ◌-◌, ◌<◌, ◌≤◌, List, [], ◌∷◌, ◌++◌, length, drop, Option, Result, Ok, Err, refl, sym, ap, ◌∙◌, subst, append_assoc, arith, ℤ}
use Rattle.std.proofs.lemmas.List.{append-nil, length-append, drop-drop}
use Rattle.off_text.specs.declared.issue.OffIssue.{OffIssue}
use Rattle.off_text.specs.declared.issue.OffIssue.TheVariants as issues
use Rattle.off_text.specs.Words.{Word}
use Rattle.off_text.specs.Grammar.{Refusal, Reading, ◌>>=◌, next, vertex, vertices, several, fan_on, fan, face, faces, corner_count, index, beyond_line}
use Rattle.off_text.specs.Gives.{Fails, with_front, joined_to, with_fan}

-- ---- one step after another
-- a failure of the first step is one of both
pub fails_first : {A B : Type 0} (e : OffIssue) (said : Result A Refusal) (f : A → Result B Refusal) → Fails e said → Fails e (said >>= f)
fails_first (issues.At kind place) said f h = ap (λ r. r >>= f) h
fails_first issues.Memory said f h = tt

-- a failure of the second
pub fails_second : {A B : Type 0} (e : OffIssue) (said : Result A Refusal) (f : A → Result B Refusal) (x : A) → said ≡ Ok x → Fails e (f x) → Fails e (said >>= f)
fails_second e said f x is h = subst (λ r. Fails e (r >>= f)) (sym is) h

pub fails_same : {A : Type 0} (e : OffIssue) (said other : Result A Refusal) → said ≡ other → Fails e said → Fails e other
fails_same e said other is h = subst (Fails e) is h

-- what is done with the value afterwards cannot fail
pub fails_before : {A B : Type 0} (e : OffIssue) (said : Result A Refusal) (f : A → B) → Fails e (said >>= λ x. Ok (f x)) → Fails e said
fails_before (issues.At kind place) (Ok x) f h = absurd cc
fails_before (issues.At kind place) (Err r) f h = cc
fails_before issues.Memory said f h = tt

-- ---- vertices
vertices_then : (front : List (List ℤ)) (v : List ℤ) (said : Reading (List (List ℤ))) → with_front front (said >>= λ x. Ok (v ∷ x.0, x.1)) ≡ with_front (front ++ v ∷ []) said
vertices_then front v (Ok x) = ap (λ (vs : List (List ℤ)). Ok (vs, x.1)) (simp append_assoc)
vertices_then front v (Err r) = refl

pub vertices_go_on : (digits : Option ℕ) (front : List (List ℤ)) (end count i : ℕ) (ws : List Word) (v : List ℤ) (after : List Word) (total : Reading (List (List ℤ))) → i < count → vertex digits end ws ≡ Ok (v, after)
    → with_front front (vertices digits end (count - i) ws) ≡ total → with_front (front ++ v ∷ []) (vertices digits end (count - (i + 1)) after) ≡ total
unfolding vertices
vertices_go_on digits front end count i ws v after total lt is h =
    let left : count - i ≡ suc (count - (i + 1)) = omega arith in
    sym (ap (λ n. with_front front (vertices digits end n ws)) left ∙ ap (λ r. with_front front (r >>= λ x. vertices digits end (count - (i + 1)) x.1 >>= λ others. Ok (x.0 ∷ others.0, others.1))) is ∙ vertices_then front v (vertices digits end (count - (i + 1)) after)) ∙ h

pub vertices_fail : (digits : Option ℕ) (e : OffIssue) (front : List (List ℤ)) (end count i : ℕ) (ws : List Word) (total : Reading (List (List ℤ))) → i < count → Fails e (vertex digits end ws)
    → with_front front (vertices digits end (count - i) ws) ≡ total → Fails e total
unfolding vertices
vertices_fail digits e front end count i ws total lt fails h =
    let left : count - i ≡ suc (count - (i + 1)) = omega arith in
    fails_same e _ total (sym (ap (λ n. with_front front (vertices digits end n ws)) left) ∙ h)
    (fails_first e (vertices digits end (suc (count - (i + 1))) ws) (λ x. Ok (front ++ x.0, x.1)) (fails_first e (vertex digits end ws) (λ x. vertices digits end (count - (i + 1)) x.1 >>= λ others. Ok (x.0 ∷ others.0, others.1)) fails))

pub vertices_done : (digits : Option ℕ) (front : List (List ℤ)) (end count i : ℕ) (ws : List Word) (total : Reading (List (List ℤ))) → count ≤ i → with_front front (vertices digits end (count - i) ws) ≡ total → total ≡ Ok (front, ws)
unfolding vertices
vertices_done digits front end count i ws total le h =
    let left : count - i ≡ 0 = omega arith in
    sym h ∙ ap (λ n. with_front front (vertices digits end n ws)) left ∙ ap (λ (vs : List (List ℤ)). Ok (vs, ws)) (append-nil front)

-- ---- fans
fan_then : (front : List (List ℕ)) (a b c : ℕ) (said : Result (List ℕ) Refusal) → with_fan front a b (said >>= λ cs. Ok (c ∷ cs)) ≡ with_fan (front ++ (a ∷ b ∷ c ∷ []) ∷ []) a c said
unfolding fan_on
fan_then front a b c (Ok cs) = ap (λ (ts : List (List ℕ)). Ok ts) (simp append_assoc)
fan_then front a b c (Err r) = refl

pub fan_goes_on : (front : List (List ℕ)) (a b : ℕ) (said : Word → Result ℕ Refusal) (end more i : ℕ) (ws : List Word) (c : ℕ) (after : List Word) (total : Result (List (List ℕ)) Refusal) → i < more → next said end ws ≡ Ok (c, after)
    → with_fan front a b (several said end (more - i) ws) ≡ total → with_fan (front ++ (a ∷ b ∷ c ∷ []) ∷ []) a c (several said end (more - (i + 1)) after) ≡ total
unfolding several
fan_goes_on front a b said end more i ws c after total lt is h =
    let left : more - i ≡ suc (more - (i + 1)) = omega arith in
    sym (ap (λ n. with_fan front a b (several said end n ws)) left ∙ ap (λ r. with_fan front a b (r >>= λ x. several said end (more - (i + 1)) x.1 >>= λ others. Ok (x.0 ∷ others))) is ∙ fan_then front a b c (several said end (more - (i + 1)) after)) ∙ h

pub fan_fails : (e : OffIssue) (front old : List (List ℕ)) (a b b0 : ℕ) (said : Word → Result ℕ Refusal) (end more i : ℕ) (ws start : List Word) → i < more → Fails e (next said end ws)
    → with_fan front a b (several said end (more - i) ws) ≡ with_fan old a b0 (several said end more start) → Fails e (several said end more start)
unfolding several
fan_fails e front old a b b0 said end more i ws start lt fails h =
    let left : more - i ≡ suc (more - (i + 1)) = omega arith in
    fails_before e (several said end more start) (λ cs. old ++ fan_on a b0 cs)
    (fails_same e _ _ (sym (ap (λ n. with_fan front a b (several said end n ws)) left) ∙ h)
    (fails_first e (several said end (suc (more - (i + 1))) ws) (λ cs. Ok (front ++ fan_on a b cs)) (fails_first e (next said end ws) (λ x. several said end (more - (i + 1)) x.1 >>= λ others. Ok (x.0 ∷ others)) fails)))

pub fan_done : (front : List (List ℕ)) (a b : ℕ) (said : Word → Result ℕ Refusal) (end more i : ℕ) (ws : List Word) (total : Result (List (List ℕ)) Refusal) → more ≤ i → with_fan front a b (several said end (more - i) ws) ≡ total → total ≡ Ok front
unfolding several fan_on
fan_done front a b said end more i ws total le h =
    let left : more - i ≡ 0 = omega arith in
    sym h ∙ ap (λ n. with_fan front a b (several said end n ws)) left ∙ ap (λ (ts : List (List ℕ)). Ok ts) (append-nil front)

-- ---- faces
-- equal values
abbrev done : {A : Type 0} → A → Result A Refusal
done x = Ok x

ok_is : {A : Type 0} (x y : A) → done x ≡ done y → x ≡ y
ok_is x y e = cc

-- the next word is the first one
abbrev with_rest : List Word → Result ℕ Refusal → Reading ℕ
with_rest ws said = said >>= λ y. Ok (y, ws)

left_same : (said : Result ℕ Refusal) (ws after : List Word) (x : ℕ) → with_rest ws said ≡ Ok (x, after) → ws ≡ after
left_same (Ok y) ws after x h = ap (λ (p : ℕ × List Word). p.1) (ok_is (y, ws) (x, after) h)
left_same (Err f) ws after x h = absurd cc

next_left : (said : Word → Result ℕ Refusal) (end : ℕ) (ws : List Word) (x : ℕ) (after : List Word) → next said end ws ≡ Ok (x, after) → (w : Word) × (ws ≡ w ∷ after)
next_left said end [] x after is = absurd cc
next_left said end (w ∷ ws) x after is = (w, ap (λ vs. w ∷ vs) (left_same (said w) ws after x is))

-- two corners, and the others
several_two : (said : Word → Result ℕ Refusal) (end k a b : ℕ) (ws us vs : List Word) → 2 ≤ k → next said end ws ≡ Ok (a, us) → next said end us ≡ Ok (b, vs) → several said end k ws ≡ several said end (k - 2) vs >>= λ cs. Ok (a ∷ b ∷ cs)
unfolding several
several_two said end k a b ws us vs two first second =
    let all : k ≡ suc (suc (k - 2)) = omega arith in
    ap (λ n. several said end n ws) all ∙ ap (λ r. r >>= λ x. several said end (suc (k - 2)) x.1 >>= λ others. Ok (x.0 ∷ others)) first
    ∙ ap (λ r. (r >>= λ x. several said end (k - 2) x.1 >>= λ others. Ok (x.0 ∷ others)) >>= λ others. Ok (a ∷ others)) second
    ∙ regroup (several said end (k - 2) vs)
  where
    regroup : (r : Result (List ℕ) Refusal) → ((r >>= λ others. Ok (b ∷ others)) >>= λ others. Ok (a ∷ others)) ≡ r >>= λ cs. Ok (a ∷ b ∷ cs)
    regroup (Ok cs) = refl
    regroup (Err f) = refl

-- the words that are left of a face whose first two corners were read
pub corners_left : (said : Word → Result ℕ Refusal) (end k a b : ℕ) (ws us vs : List Word) → 3 ≤ k → next said end ws ≡ Ok (a, us) → next said end us ≡ Ok (b, vs) → drop (k - 1) ws ≡ drop (k - 2 - 1) vs
corners_left said end k a b ws us vs least first second =
    let u = next_left said end ws a us first in
    let v = next_left said end us b vs second in
    let all : k - 1 ≡ suc (suc (k - 2 - 1)) = omega arith in
    ap (λ n. drop n ws) all ∙ ap (drop (suc (suc (k - 2 - 1)))) u.1 ∙ ap (drop (suc (k - 2 - 1))) v.1

-- a face of at least three corners, of which two were read
pub record HasTwo (end n made : ℕ) (ws : List Word) (k a b : ℕ) (us vs after : List Word) : Type 0 where
  pub least : 3 ≤ k
  pub number : next (corner_count made) end ws ≡ Ok (k, us)
  pub first : next (index n) end us ≡ Ok (a, vs)
  pub second : next (index n) end vs ≡ Ok (b, after)

pub corner_count_fails : (e : OffIssue) (end n made : ℕ) (ws : List Word) → Fails e (next (corner_count made) end ws) → Fails e (face end n made ws)
unfolding face
corner_count_fails e end n made ws fails = fails_first e (next (corner_count made) end ws) _ fails

pub first_corner_fails : (e : OffIssue) (end n made k : ℕ) (ws us : List Word) → 3 ≤ k → next (corner_count made) end ws ≡ Ok (k, us) → Fails e (next (index n) end us) → Fails e (face end n made ws)
unfolding face several
first_corner_fails e end n made k ws us least number fails =
    let all : k ≡ suc (k - 1) = omega arith in
    fails_second e (next (corner_count made) end ws) (λ x. several (index n) end x.0 x.1 >>= λ cs. Ok (fan cs, beyond_line (drop (x.0 - 1) x.1))) (k, us) number
    (fails_first e (several (index n) end k us) (λ cs. Ok (fan cs, beyond_line (drop (k - 1) us)))
    (fails_same e (several (index n) end (suc (k - 1)) us) _ (ap (λ m. several (index n) end m us) (sym all))
    (fails_first e (next (index n) end us) (λ x. several (index n) end (k - 1) x.1 >>= λ others. Ok (x.0 ∷ others)) fails)))

pub second_corner_fails : (e : OffIssue) (end n made k a : ℕ) (ws us vs : List Word) → 3 ≤ k → next (corner_count made) end ws ≡ Ok (k, us) → next (index n) end us ≡ Ok (a, vs) → Fails e (next (index n) end vs) → Fails e (face end n made ws)
unfolding face several
second_corner_fails e end n made k a ws us vs least number first fails =
    let all : k ≡ suc (suc (k - 2)) = omega arith in
    fails_second e (next (corner_count made) end ws) (λ x. several (index n) end x.0 x.1 >>= λ cs. Ok (fan cs, beyond_line (drop (x.0 - 1) x.1))) (k, us) number
    (fails_first e (several (index n) end k us) (λ cs. Ok (fan cs, beyond_line (drop (k - 1) us)))
    (fails_same e (several (index n) end (suc (suc (k - 2))) us) _ (ap (λ m. several (index n) end m us) (sym all))
    (fails_second e (next (index n) end us) (λ x. several (index n) end (suc (k - 2)) x.1 >>= λ others. Ok (x.0 ∷ others)) (a, vs) first
    (fails_first e (several (index n) end (suc (k - 2)) vs) (λ others. Ok (a ∷ others))
    (fails_first e (next (index n) end vs) (λ x. several (index n) end (k - 2) x.1 >>= λ others. Ok (x.0 ∷ others)) fails)))))

-- the triangles of a face by its further corners
abbrev face_by : (a b : ℕ) → List Word → Result (List ℕ) Refusal → Reading (List (List ℕ))
face_by a b beyond said = said >>= λ cs. Ok (fan_on a b cs, beyond)

fan_of_two : (a b : ℕ) (beyond : List Word) (said : Result (List ℕ) Refusal) → ((said >>= λ cs. Ok (a ∷ b ∷ cs)) >>= λ cs. Ok (fan cs, beyond)) ≡ face_by a b beyond said
fan_of_two a b beyond (Ok cs) = refl
fan_of_two a b beyond (Err f) = refl

face_of_two : (end n made k a b : ℕ) (ws us vs after : List Word) → HasTwo end n made ws k a b us vs after
    → face end n made ws ≡ face_by a b (beyond_line (drop (k - 2 - 1) after)) (several (index n) end (k - 2) after)
unfolding face
face_of_two end n made k a b ws us vs after h =
    ap (λ r. r >>= λ x. several (index n) end x.0 x.1 >>= λ cs. Ok (fan cs, beyond_line (drop (x.0 - 1) x.1))) h.number
    ∙ ap (λ r. r >>= λ cs. Ok (fan cs, beyond_line (drop (k - 1) us))) (several_two (index n) end k a b us vs after (omega (arith, h.least)) h.first h.second)
    ∙ ap (λ words. (several (index n) end (k - 2) after >>= λ cs. Ok (a ∷ b ∷ cs)) >>= λ cs. Ok (fan cs, beyond_line words)) (corners_left (index n) end k a b us vs after h.least h.first h.second)
    ∙ fan_of_two a b (beyond_line (drop (k - 2 - 1) after)) (several (index n) end (k - 2) after)

pub other_corner_fails : (e : OffIssue) (end n made k a b : ℕ) (ws us vs after : List Word) → HasTwo end n made ws k a b us vs after → Fails e (several (index n) end (k - 2) after) → Fails e (face end n made ws)
other_corner_fails e end n made k a b ws us vs after h fails =
    fails_same e _ _ (sym (face_of_two end n made k a b ws us vs after h)) (fails_first e (several (index n) end (k - 2) after) (λ cs. Ok (fan_on a b cs, beyond_line (drop (k - 2 - 1) after))) fails)

front_by : (front total : List (List ℕ)) (a b : ℕ) (beyond : List Word) (said : Result (List ℕ) Refusal) → with_fan front a b said ≡ Ok total → with_front front (face_by a b beyond said) ≡ Ok (total, beyond)
front_by front total a b beyond (Ok cs) is = cc
front_by front total a b beyond (Err f) is = absurd cc

pub face_is : (end n made k a b : ℕ) (ws us vs after : List Word) (front total : List (List ℕ)) (beyond : List Word) → HasTwo end n made ws k a b us vs after
    → with_fan front a b (several (index n) end (k - 2) after) ≡ Ok total → beyond ≡ beyond_line (drop (k - 2 - 1) after) → with_front front (face end n made ws) ≡ Ok (total, beyond)
face_is end n made k a b ws us vs after front total beyond h is left =
    ap (with_front front) (face_of_two end n made k a b ws us vs after h ∙ ap (λ words. face_by a b words (several (index n) end (k - 2) after)) (sym left))
    ∙ front_by front total a b beyond (several (index n) end (k - 2) after) is

-- the triangles so far, and those of the next face
front_is : (front new : List (List ℕ)) (said : Reading (List (List ℕ))) (after : List Word) → with_front front said ≡ Ok (new, after) → (ts : List (List ℕ)) × (said ≡ Ok (ts, after)) × (new ≡ front ++ ts)
front_is front new (Ok x) after is =
    let same : (front ++ x.0, x.1) ≡ (new, after) = ok_is (front ++ x.0, x.1) (new, after) is in
    (x.0, ap (λ (ws : List Word). Ok (x.0, ws)) (ap (λ (p : List (List ℕ) × List Word). p.1) same), sym (ap (λ (p : List (List ℕ) × List Word). p.0) same))
front_is front new (Err r) after is = absurd cc

faces_then : (front ts : List (List ℕ)) (said : Result (List (List ℕ)) Refusal) → joined_to front (said >>= λ others. Ok (ts ++ others)) ≡ joined_to (front ++ ts) said
faces_then front ts (Ok others) = ap (λ (all : List (List ℕ)). Ok all) (simp append_assoc)
faces_then front ts (Err r) = refl

pub faces_go_on : (front new : List (List ℕ)) (end n count i : ℕ) (ws after : List Word) (total : Result (List (List ℕ)) Refusal) → i < count → with_front front (face end n (length front) ws) ≡ Ok (new, after)
    → joined_to front (faces end n (count - i) (length front) ws) ≡ total → joined_to new (faces end n (count - (i + 1)) (length new) after) ≡ total
unfolding faces
faces_go_on front new end n count i ws after total lt is h =
    let left : count - i ≡ suc (count - (i + 1)) = omega arith in
    let f = front_is front new (face end n (length front) ws) after is in
    sym (ap (λ m. joined_to front (faces end n m (length front) ws)) left
    ∙ ap (λ r. joined_to front (r >>= λ x. faces end n (count - (i + 1)) (length front + length x.0) x.1 >>= λ others. Ok (x.0 ++ others))) f.1
    ∙ faces_then front f.0 (faces end n (count - (i + 1)) (length front + length f.0) after)
    ∙ ap (λ m. joined_to (front ++ f.0) (faces end n (count - (i + 1)) m after)) (sym (length-append front f.0))
    ∙ ap (λ ts. joined_to ts (faces end n (count - (i + 1)) (length ts) after)) (sym f.2)) ∙ h

pub faces_fail : (e : OffIssue) (front : List (List ℕ)) (end n count i : ℕ) (ws : List Word) (total : Result (List (List ℕ)) Refusal) → i < count → Fails e (face end n (length front) ws)
    → joined_to front (faces end n (count - i) (length front) ws) ≡ total → Fails e total
unfolding faces
faces_fail e front end n count i ws total lt fails h =
    let left : count - i ≡ suc (count - (i + 1)) = omega arith in
    fails_same e _ total (sym (ap (λ m. joined_to front (faces end n m (length front) ws)) left) ∙ h)
    (fails_first e (faces end n (suc (count - (i + 1))) (length front) ws) (λ xs. Ok (front ++ xs)) (fails_first e (face end n (length front) ws) (λ x. faces end n (count - (i + 1)) (length front + length x.0) x.1 >>= λ others. Ok (x.0 ++ others)) fails))

pub faces_done : (front : List (List ℕ)) (end n count i : ℕ) (ws : List Word) (total : Result (List (List ℕ)) Refusal) → count ≤ i → joined_to front (faces end n (count - i) (length front) ws) ≡ total → total ≡ Ok front
unfolding faces
faces_done front end n count i ws total le h =
    let left : count - i ≡ 0 = omega arith in
    sym h ∙ ap (λ m. joined_to front (faces end n m (length front) ws)) left ∙ ap (λ (ts : List (List ℕ)). Ok ts) (append-nil front)

-- ---- the words that are left, one after the other
pub left_goes_on : (said : Word → Result ℕ Refusal) (end i c : ℕ) (start ws after : List Word) → ws ≡ drop i start → next said end ws ≡ Ok (c, after) → after ≡ drop (i + 1) start
left_goes_on said end i c start ws after is first =
    let w = next_left said end ws c after first in
    sym (ap (drop 1) (sym is ∙ w.1)) ∙ drop-drop 1 i start

-- the same number of triangles so far
pub counted : (made same end : ℕ) (ws : List Word) (k : ℕ) (us : List Word) → made ≡ same → next (corner_count made) end ws ≡ Ok (k, us) → next (corner_count same) end ws ≡ Ok (k, us)
counted made same end ws k us is h = sym (ap (λ m. next (corner_count m) end ws) is) ∙ h
