-- What is read keeps the limits of a soup.
use Rattle.std.proofs.Common.{◌≡◌, ℕ, zero, suc, ◌+◌, ◌-◌, ◌^◌, ◌<◌, ◌≤◌, not, nat_lt, cond, ◌||◌, unsigned_abs, Option, None, Some, Bool, true, false, List, [], ◌∷◌, ◌++◌, length, drop, Result, Ok, Err, refl, sym, ap, ◌∙◌, subst, arith, ℤ, All}
use Rattle.std.proofs.lemmas.Bool.{ltb-true, ltb-false}
use Rattle.std.proofs.lemmas.Int.{ints}
use Rattle.std.proofs.lemmas.List.{length-append}
use Rattle.std.proofs.lemmas.List.Elements.{All-from_recursion}
use Rattle.std.specs.List.{AllByRecursion}
use Rattle.std.specs.Str.{bytes_eq}
use Rattle.std.specs.Prelude.{codes}
use Rattle.int_algebra.specs.Within.{IsWithin}
use Rattle.soup.specs.declared.raw.Raw.{Raw}
use Rattle.soup.specs.Limits.{IsVertex, IsFaceBelow, IsRaw}
use Rattle.off_text.specs.declared.issue.OffKind.{OffKind}
use Rattle.off_text.specs.Words.{Word}
use Rattle.off_text.specs.Numbers.{is_number, decimal, whole_coordinate, value_of, is_well_formed, is_whole, with_sign, is_negative, parts_of, without_sign, Parts}
use Rattle.off_text.specs.Rounding.{coordinate_of, rounded_coordinate, units_of}
use Rattle.off_text.specs.Grammar.{Refusal, ◌>>=◌, next, keyword, first_count, count, edge_count, corner_count, index, at_place, coordinate, vertex, vertices, several, beyond_line, fan, fan_on, face, faces, reads}
use Rattle.off_text.specs.Scans.{rest_at}
use Rattle.off_text.specs.Gives.{Gives}
use Rattle.off_text.specs.declared.issue.OffIssue.{OffIssue}
use Rattle.std.specs.Prelude.{IfOk}
use Rattle.grid.specs.Limits.{most_input}
use Rattle.off_text.proofs.Whole.{reads_is, with_faces, with_points, with_edges, with_face_count, with_vertex_count}

-- ---- what comes before an Ok
bind_ok : {A B : Type 0} (r : Result A Refusal) (f : A → Result B Refusal) (y : B) → (r >>= f) ≡ Ok y → (x : A) × (r ≡ Ok x) × (f x ≡ Ok y)
bind_ok (Ok x) f y e = (x, refl, e)
bind_ok (Err d) f y e = absurd cc

guard_ok : {A E : Type 0} (b : Bool) (d : E) (x : Result A E) (y : A) → cond b (Err d) x ≡ Ok y → (b ≡ false) × (x ≡ Ok y)
guard_ok true d x y e = absurd cc
guard_ok false d x y e = (refl, e)

chosen_ok : {A E : Type 0} (b : Bool) (d : E) (x y : A) → cond b (Ok x) (Err d) ≡ Ok y → (b ≡ true) × (x ≡ y)
chosen_ok true d x y e = (refl, cc)
chosen_ok false d x y e = absurd cc

abbrev good : {A E : Type 0} → A → Result A E
good x = Ok x

ok_is : {A E : Type 0} (x y : A) → good {E = E} x ≡ good y → x ≡ y
ok_is x y e = cc

-- the word that was read
next_said : {X : Type 0} (said : Word → Result X Refusal) (end : ℕ) (ws : List Word) (x : X × List Word) → next said end ws ≡ Ok x → (w : Word) × (said w ≡ Ok x.0)
next_said said end [] x is = absurd cc
next_said said end (w ∷ ws) x is =
    let h = bind_ok (said w) (λ y. Ok (y, ws)) x is in
    (w, h.1 ∙ ap (λ y. Ok y.0) (ok_is {E = Refusal} (h.0, ws) x h.2))

-- ---- counts
count_few : (w : Word) (n : ℕ) → count w ≡ Ok n → n ≤ most_input
count_few w n is =
    let number = guard_ok (not (is_number w.bytes)) _ _ n is in
    let few = guard_ok (nat_lt most_input (decimal w.bytes)) _ _ n number.1 in
    let same : decimal w.bytes ≡ n = ok_is {E = Refusal} (decimal w.bytes) n few.1 in
    omega (arith, same, ltb-false most_input (decimal w.bytes) few.0)

first_count_few : (w : Word) (n : ℕ) → first_count w ≡ Ok n → n ≤ most_input
first_count_few w n is = count_few w n (guard_ok (bytes_eq w.bytes (codes "BINARY")) _ _ n is).1

-- ---- vertices
with_sign_within : (negative : Bool) (n : ℕ) → n ≤ 10 ^ 9 → IsWithin (10 ^ 9) (with_sign negative n)
with_sign_within true n few = record { within = omega (arith, ints) }
with_sign_within false n few = record { within = omega (arith, ints) }

value_within : (negative : Bool) (p : Parts) (z : ℤ) → value_of negative p ≡ Ok z → IsWithin (10 ^ 9) z
value_within negative p z is =
    let formed = guard_ok (not (is_well_formed p)) _ _ z is in
    let whole = guard_ok (not (is_whole p)) _ _ z formed.1 in
    let few = guard_ok (nat_lt (10 ^ 9) (decimal p.whole)) _ _ z whole.1 in
    subst (IsWithin (10 ^ 9)) (ok_is {E = OffKind} (with_sign negative (decimal p.whole)) z few.1) (with_sign_within negative (decimal p.whole) (omega (arith, ltb-false (10 ^ 9) (decimal p.whole) few.0)))

placed_ok : {X : Type 0} (place : ℕ) (r : Result X OffKind) (x : X) → at_place place r ≡ Ok x → r ≡ Ok x
placed_ok place (Ok y) x is = ap (λ z. Ok z) (ok_is {E = Refusal} y x is)
placed_ok place (Err kind) x is = absurd cc

rounded_within : (d : ℕ) (word : List ℕ) (z : ℤ) → rounded_coordinate d word ≡ Ok z → IsWithin (10 ^ 9) z
rounded_within d word z is =
    let p : Parts = parts_of (without_sign word) in
    let y : ℤ = units_of d (is_negative word) p in
    let formed = guard_ok (nat_lt 32 (length word) || not (is_well_formed p)) _ _ z is in
    let few = guard_ok (nat_lt (10 ^ 9) (unsigned_abs y)) _ _ z formed.1 in
    subst (IsWithin (10 ^ 9)) (ok_is {E = OffKind} y z few.1) (record { within = ltb-false (10 ^ 9) (unsigned_abs y) few.0 })

coordinate_within : (digits : Option ℕ) (w : Word) (z : ℤ) → coordinate digits w ≡ Ok z → IsWithin (10 ^ 9) z
unfolding coordinate_of whole_coordinate
coordinate_within None w z is = value_within (is_negative w.bytes) (parts_of (without_sign w.bytes)) z (placed_ok w.place (whole_coordinate w.bytes) z is)
coordinate_within (Some d) w z is = rounded_within d w.bytes z (placed_ok w.place (rounded_coordinate d w.bytes) z is)

next_within : (digits : Option ℕ) (end : ℕ) (ws : List Word) (x : ℤ × List Word) → next (coordinate digits) end ws ≡ Ok x → IsWithin (10 ^ 9) x.0
next_within digits end ws x is = let h = next_said (coordinate digits) end ws x is in coordinate_within digits h.0 x.0 h.1

vertex_within : (digits : Option ℕ) (end : ℕ) (ws : List Word) (v : List ℤ × List Word) → vertex digits end ws ≡ Ok v → IsVertex v.0
vertex_within digits end ws v is =
    let x = bind_ok (next (coordinate digits) end ws) (λ x. next (coordinate digits) end x.1 >>= λ y. next (coordinate digits) end y.1 >>= λ z. Ok (x.0 ∷ y.0 ∷ z.0 ∷ [], z.1)) v is in
    let y = bind_ok (next (coordinate digits) end x.0.1) (λ y. next (coordinate digits) end y.1 >>= λ z. Ok (x.0.0 ∷ y.0 ∷ z.0 ∷ [], z.1)) v x.2 in
    let z = bind_ok (next (coordinate digits) end y.0.1) (λ z. Ok (x.0.0 ∷ y.0.0 ∷ z.0 ∷ [], z.1)) v y.2 in
    let made : List ℤ × List Word = (x.0.0 ∷ y.0.0 ∷ z.0.0 ∷ [], z.0.1) in
    subst (λ (u : List ℤ × List Word). IsVertex u.0) (ok_is {E = Refusal} made v z.2) (record { x_in = next_within digits end ws x.0 x.1; y_in = next_within digits end x.0.1 y.0 y.1; z_in = next_within digits end y.0.1 z.0 z.1 })

pub vertices_within : (digits : Option ℕ) (end n : ℕ) (ws : List Word) (vs : List (List ℤ) × List Word) → vertices digits end n ws ≡ Ok vs → (length vs.0 ≡ n) × AllByRecursion IsVertex vs.0
unfolding vertices
vertices_within digits end zero ws vs is =
    subst (λ (u : List (List ℤ) × List Word). (length u.0 ≡ 0) × AllByRecursion IsVertex u.0) (ok_is {E = Refusal} ([], ws) vs is) (refl, tt)
vertices_within digits end (suc n) ws vs is =
    let first = bind_ok (vertex digits end ws) (λ first. vertices digits end n first.1 >>= λ others. Ok (first.0 ∷ others.0, others.1)) vs is in
    let others = bind_ok (vertices digits end n first.0.1) (λ others. Ok (first.0.0 ∷ others.0, others.1)) vs first.2 in
    let made : List (List ℤ) × List Word = (first.0.0 ∷ others.0.0, others.0.1) in
    let h = vertices_within digits end n first.0.1 others.0 others.1 in
    subst (λ (u : List (List ℤ) × List Word). (length u.0 ≡ suc n) × AllByRecursion IsVertex u.0) (ok_is {E = Refusal} made vs others.2) (ap suc h.0, (vertex_within digits end ws first.0 first.1, h.1))

-- ---- faces
index_below : (n : ℕ) (w : Word) (c : ℕ) → index n w ≡ Ok c → c < n
index_below n w c is =
    let number = guard_ok (not (is_number w.bytes)) _ _ c is in
    let below = chosen_ok (nat_lt (decimal w.bytes) n) _ (decimal w.bytes) c number.1 in
    omega (arith, below.1, ltb-true (decimal w.bytes) n below.0)

several_below : (n end k : ℕ) (ws : List Word) (cs : List ℕ) → several (index n) end k ws ≡ Ok cs → (length cs ≡ k) × AllByRecursion (λ c. c < n) cs
unfolding several
several_below n end zero ws cs is = subst (λ (u : List ℕ). (length u ≡ 0) × AllByRecursion (λ c. c < n) u) (ok_is {E = Refusal} [] cs is) (refl, tt)
several_below n end (suc k) ws cs is =
    let first = bind_ok (next (index n) end ws) (λ first. several (index n) end k first.1 >>= λ others. Ok (first.0 ∷ others)) cs is in
    let others = bind_ok (several (index n) end k first.0.1) (λ others. Ok (first.0.0 ∷ others)) cs first.2 in
    let h = several_below n end k first.0.1 others.0 others.1 in
    let w = next_said (index n) end ws first.0 first.1 in
    subst (λ (u : List ℕ). (length u ≡ suc k) × AllByRecursion (λ c. c < n) u) (ok_is {E = Refusal} (first.0.0 ∷ others.0) cs others.2) (ap suc h.0, (index_below n w.0 first.0.0 w.1, h.1))

fan_on_below : (n a b : ℕ) (cs : List ℕ) → a < n → b < n → AllByRecursion (λ c. c < n) cs → (length (fan_on a b cs) ≡ length cs) × AllByRecursion (IsFaceBelow n) (fan_on a b cs)
unfolding fan_on
fan_on_below n a b [] ha hb h = (refl, tt)
fan_on_below n a b (c ∷ cs) ha hb h =
    let others = fan_on_below n a c cs ha h.0 h.1 in
    (ap suc others.0, (record { a_in = ha; b_in = hb; c_in = h.0 }, others.1))

fan_below : (n k : ℕ) (cs : List ℕ) → 3 ≤ k → length cs ≡ k → AllByRecursion (λ c. c < n) cs → (length (fan cs) + 2 ≡ k) × AllByRecursion (IsFaceBelow n) (fan cs)
fan_below n k [] least is h = absurd (omega arith)
fan_below n k (a ∷ []) least is h = absurd (omega arith)
fan_below n k (a ∷ b ∷ cs) least is h =
    let others = fan_on_below n a b cs h.0 h.1.0 h.1.1 in
    (omega (arith, others.0, is), others.1)

record IsCorners (made k : ℕ) : Type 0 where
  least : 3 ≤ k
  few : made + (k - 2) ≤ most_input

corner_count_few : (made : ℕ) (w : Word) (k : ℕ) → corner_count made w ≡ Ok k → IsCorners made k
corner_count_few made w k is =
    let number = guard_ok (not (is_number w.bytes)) _ _ k is in
    let long = guard_ok (nat_lt (decimal w.bytes) 3) _ _ k number.1 in
    let few = guard_ok (nat_lt most_input (made + (decimal w.bytes - 2))) _ _ k long.1 in
    let same : decimal w.bytes ≡ k = ok_is {E = Refusal} (decimal w.bytes) k few.1 in
    subst (IsCorners made) same (record { least = ltb-false (decimal w.bytes) 3 long.0; few = ltb-false most_input (made + (decimal w.bytes - 2)) few.0 })

face_below : (end n made : ℕ) (ws : List Word) (ts : List (List ℕ) × List Word) → face end n made ws ≡ Ok ts → (made + length ts.0 ≤ most_input) × AllByRecursion (IsFaceBelow n) ts.0
unfolding face
face_below end n made ws ts is =
    let number = bind_ok (next (corner_count made) end ws) (λ number. several (index n) end number.0 number.1 >>= λ corners. Ok (fan corners, beyond_line (drop (number.0 - 1) number.1))) ts is in
    let corners = bind_ok (several (index n) end number.0.0 number.0.1) (λ corners. Ok (fan corners, beyond_line (drop (number.0.0 - 1) number.0.1))) ts number.2 in
    let w = next_said (corner_count made) end ws number.0 number.1 in
    let limits = corner_count_few made w.0 number.0.0 w.1 in
    let below = several_below n end number.0.0 number.0.1 corners.0 corners.1 in
    let f = fan_below n number.0.0 corners.0 limits.least below.0 below.1 in
    let out : List (List ℕ) × List Word = (fan corners.0, beyond_line (drop (number.0.0 - 1) number.0.1)) in
    subst (λ (u : List (List ℕ) × List Word). (made + length u.0 ≤ most_input) × AllByRecursion (IsFaceBelow n) u.0) (ok_is {E = Refusal} out ts corners.2) (omega (arith, limits.few, f.0), f.1)

all_joined : (n : ℕ) (xs ys : List (List ℕ)) → AllByRecursion (IsFaceBelow n) xs → AllByRecursion (IsFaceBelow n) ys → AllByRecursion (IsFaceBelow n) (xs ++ ys)
all_joined n [] ys h k = k
all_joined n (x ∷ xs) ys h k = (h.0, all_joined n xs ys h.1 k)

pub faces_below : (end n f made : ℕ) (ws : List Word) (ts : List (List ℕ)) → made ≤ most_input → faces end n f made ws ≡ Ok ts → (made + length ts ≤ most_input) × AllByRecursion (IsFaceBelow n) ts
unfolding faces
faces_below end n zero made ws ts few is = subst (λ (u : List (List ℕ)). (made + length u ≤ most_input) × AllByRecursion (IsFaceBelow n) u) (ok_is {E = Refusal} [] ts is) (omega arith, tt)
faces_below end n (suc f) made ws ts few is =
    let first = bind_ok (face end n made ws) (λ first. faces end n f (made + length first.0) first.1 >>= λ others. Ok (first.0 ++ others)) ts is in
    let others = bind_ok (faces end n f (made + length first.0.0) first.0.1) (λ others. Ok (first.0.0 ++ others)) ts first.2 in
    let h = face_below end n made ws first.0 first.1 in
    let k = faces_below end n f (made + length first.0.0) first.0.1 others.0 h.0 others.1 in
    subst (λ (u : List (List ℕ)). (made + length u ≤ most_input) × AllByRecursion (IsFaceBelow n) u) (ok_is {E = Refusal} (first.0.0 ++ others.0) ts others.2) (omega (arith, k.0, length-append first.0.0 others.0), all_joined n first.0.0 others.0 h.1 k.1)

-- ---- the soup
pub reads_within : (digits : Option ℕ) (bytes : List ℕ) (raw : Raw) → reads digits bytes ≡ Ok raw → IsRaw raw
reads_within digits bytes raw is =
    let end : ℕ = length bytes in
    let start = bind_ok (keyword end (rest_at bytes 0)) (λ rest. with_vertex_count digits end (next first_count end rest)) raw (sym (reads_is digits bytes) ∙ is) in
    let n = bind_ok (next first_count end start.0) (λ n. with_face_count digits end n.0 (next count end n.1)) raw start.2 in
    let f = bind_ok (next count end n.0.1) (λ f. with_edges digits end n.0.0 f.0 (next edge_count end f.1)) raw n.2 in
    let edges = bind_ok (next edge_count end f.0.1) (λ edges. with_points digits end n.0.0 f.0.0 (vertices digits end n.0.0 edges.1)) raw f.2 in
    let points = bind_ok (vertices digits end n.0.0 edges.0.1) (λ points. with_faces points.0 (faces end n.0.0 f.0.0 0 points.1)) raw edges.2 in
    let triangles = bind_ok (faces end n.0.0 f.0.0 0 points.0.1) (λ triangles. Ok (record { vertices = points.0.0; faces = triangles })) raw points.2 in
    let w = next_said first_count end start.0 n.0 n.1 in
    let few : n.0.0 ≤ most_input = first_count_few w.0 n.0.0 w.1 in
    let vs = vertices_within digits end n.0.0 edges.0.1 points.0 points.1 in
    let ts = faces_below end n.0.0 f.0.0 0 points.0.1 triangles.0 (omega arith) triangles.1 in
    let made : Raw = record { vertices = points.0.0; faces = triangles.0 } in
    subst IsRaw (ok_is {E = Refusal} made raw triangles.2) (record {
      vertices_few = omega (arith, vs.0, few);
      faces_few = omega (arith, ts.0);
      coordinates = All-from_recursion IsVertex points.0.0 vs.1;
      corners = subst (λ (m : ℕ). All (IsFaceBelow m) triangles.0) (sym vs.0) (All-from_recursion (IsFaceBelow n.0.0) triangles.0 ts.1);
    })

pub result_within : (digits : Option ℕ) (bytes : List ℕ) (r : Result Raw OffIssue) → Gives (λ raw. raw) r (reads digits bytes) → IfOk r IsRaw
result_within digits bytes (Ok raw) h = reads_within digits bytes raw h
result_within digits bytes (Err e) h = tt
