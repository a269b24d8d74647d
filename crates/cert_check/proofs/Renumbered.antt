-- Tetrahedra and faces whose numbers are all one more, as in a file.
use Rattle.std.proofs.Common.{◌≡◌, ℕ, zero, suc, ◌+◌, ◌-◌, ◌<◌, ◌≤◌, ◌&&◌, ◌||◌, Bool, true, false, List, [], ◌∷◌, ◌++◌, length, map, get_or, cond, refl, ap, sym, subst, ◌∙◌, inl, inr, arith, All, pos, ◌+ℤ◌, ◌<ℤ◌, ◌⊎◌, true≢false}
use Rattle.std.specs.Prelude.{nat_eq, nat_lt}
use Rattle.std.specs.List.{Contains}
use Rattle.std.proofs.lemmas.Bool.{cases_Bool, or_cases, or_left, or_right}
use Rattle.std.proofs.lemmas.Bool.Decides.{Decides-eqb, Decides-ltb}
use Rattle.std.proofs.lemmas.List.Sums.{sum_by-cons}
use Rattle.std.proofs.lemmas.List.{map-append, length-map, get_or_default}
use Rattle.std.proofs.Math.ListN.{get_or-map}
use Rattle.grid.specs.declared.shapes.Point.{Point}
use Rattle.grid.specs.Boxes.{IsOn, IsOnOneSide}
use Rattle.grid.specs.Determinants.{det, det_at, volume, point_at, IsPositive}
use Rattle.grid.specs.Regions.{IsOutside, IsOpenTo, HasLooseFace, starts, goes_on}
use Rattle.std.proofs.lemmas.List.Elements.{All-cons, All-map, All-nil}
use Rattle.grid.specs.Simplices.{all_faces, faces, has, equal3, is_rotation, count, reversed, rising, insert_number}
use Rattle.grid.specs.Meshes.{Mesh, Tiles}
use Rattle.face_table.specs.Occurrences.{occurrences}
use Rattle.face_table.proofs.RotationLemmas.{has-rotation, has3-first, has3-second, has3-third, occurrences-append}
use Rattle.grid.proofs.ForCallers.{same_bools}
use Rattle.mesh_types.proofs.ForCallers.{no-face}
use Rattle.msh_text.specs.FileMesh.{file_numbers, is_used}

-- lists of corners by the numbers of the file
abbrev pub more : List (List ℕ) → List (List ℕ)
more xs = map file_numbers xs

-- ---- faces
faces-more : (x : List ℕ) → faces (file_numbers x) ≡ more (faces x)
faces-more [] = refl
faces-more (a ∷ []) = refl
faces-more (a ∷ b ∷ []) = refl
faces-more (a ∷ b ∷ c ∷ []) = refl
faces-more (a ∷ b ∷ c ∷ d ∷ []) = refl
faces-more (a ∷ b ∷ c ∷ d ∷ e ∷ x) = refl

pub all_faces-more : (tets : List (List ℕ)) → all_faces (more tets) ≡ more (all_faces tets)
all_faces-more [] = refl
all_faces-more (x ∷ tets) =
    ap (λ fs. fs ++ all_faces (more tets)) (faces-more x) ∙ ap (λ fs. more (faces x) ++ fs) (all_faces-more tets) ∙ sym (map-append file_numbers (faces x) (all_faces tets))

-- ---- tests of numbers
same_number : (a b : ℕ) → nat_eq (a + 1) (b + 1) ≡ nat_eq a b
same_number a b =
    same_bools (nat_eq (a + 1) (b + 1)) (nat_eq a b) (λ e. (Decides-eqb a b).1 (omega (arith, (Decides-eqb (a + 1) (b + 1)).0 e))) (λ e. (Decides-eqb (a + 1) (b + 1)).1 (omega (arith, (Decides-eqb a b).0 e)))

below_number : (a b : ℕ) → nat_lt (a + 1) (b + 1) ≡ nat_lt a b
below_number a b =
    same_bools (nat_lt (a + 1) (b + 1)) (nat_lt a b) (λ e. (Decides-ltb a b).1 (omega (arith, (Decides-ltb (a + 1) (b + 1)).0 e))) (λ e. (Decides-ltb (a + 1) (b + 1)).1 (omega (arith, (Decides-ltb a b).0 e)))

not_zero : (a : ℕ) → nat_eq (a + 1) 0 ≡ false
not_zero a = elim (cases_Bool (nat_eq (a + 1) 0)) [
  | inl e ↦ absurd (omega (arith, (Decides-eqb (a + 1) 0).0 e))
  | inr e ↦ e
]

equal3-more : (a b c u v w : ℕ) → equal3 (a + 1) (b + 1) (c + 1) (u + 1) (v + 1) (w + 1) ≡ equal3 a b c u v w
equal3-more a b c u v w =
    ap (λ t. t && nat_eq (b + 1) (v + 1) && nat_eq (c + 1) (w + 1)) (same_number a u) ∙ ap (λ t. nat_eq a u && t && nat_eq (c + 1) (w + 1)) (same_number b v)
    ∙ ap (λ t. nat_eq a u && nat_eq b v && t) (same_number c w)

is_rotation-more : (f g : List ℕ) → is_rotation (file_numbers f) (file_numbers g) ≡ is_rotation f g
is_rotation-more (a ∷ b ∷ c ∷ []) (u ∷ v ∷ w ∷ []) =
    ap (λ t. t || equal3 (a + 1) (b + 1) (c + 1) (v + 1) (w + 1) (u + 1) || equal3 (a + 1) (b + 1) (c + 1) (w + 1) (u + 1) (v + 1)) (equal3-more a b c u v w)
    ∙ ap (λ t. equal3 a b c u v w || t || equal3 (a + 1) (b + 1) (c + 1) (w + 1) (u + 1) (v + 1)) (equal3-more a b c v w u)
    ∙ ap (λ t. equal3 a b c u v w || equal3 a b c v w u || t) (equal3-more a b c w u v)
is_rotation-more f g = refl

-- how often a face occurs in a longer list
one_more : (f g : List ℕ) (fs : List (List ℕ)) → occurrences f (g ∷ fs) ≡ cond (is_rotation f g) 1 0 + occurrences f fs
one_more f g fs = sum_by-cons (λ y. cond (is_rotation f y) 1 0) g fs

occurrences-more : (f : List ℕ) (fs : List (List ℕ)) → occurrences (file_numbers f) (more fs) ≡ occurrences f fs
occurrences-more f [] = refl
occurrences-more f (g ∷ fs) =
    one_more (file_numbers f) (file_numbers g) (more fs) ∙ ap (λ b. cond {A = ℕ} b 1 0 + occurrences (file_numbers f) (more fs)) (is_rotation-more f g) ∙ ap (λ n. cond {A = ℕ} (is_rotation f g) 1 0 + n) (occurrences-more f fs)
    ∙ sym (one_more f g fs)

no_zero : (g : List ℕ) → has (file_numbers g) 0 ≡ false
no_zero [] = refl
no_zero (a ∷ g) = ap (λ b. b || has (file_numbers g) 0) (not_zero a) ∙ no_zero g

-- a face with the number 0 does not occur
none_zero : (f : List ℕ) (fs : List (List ℕ)) → has f 0 ≡ true → occurrences f (more fs) ≡ 0
none_zero f [] h = refl
none_zero f (g ∷ fs) h =
    let no : is_rotation f (file_numbers g) ≡ false = elim (cases_Bool (is_rotation f (file_numbers g))) [
      | inl t ↦ absurd (true≢false (sym (has-rotation f (file_numbers g) 0 t h) ∙ no_zero g))
      | inr n ↦ n
    ] in
    let first : cond {A = ℕ} (is_rotation f (file_numbers g)) 1 0 ≡ 0 = ap (λ b. cond {A = ℕ} b 1 0) no in
    omega (arith, one_more f (file_numbers g) (more fs), first, none_zero f fs h)

-- what holds of all triples of point numbers holds of all triples that may occur
pub triples-more : (fs : List (List ℕ)) (P : List ℕ → Type 0) → ((a b c : ℕ) → P (file_numbers (a ∷ b ∷ c ∷ []))) → ((f : List ℕ) → occurrences f (more fs) ≡ 0 → P f) → (a b c : ℕ) → P (a ∷ b ∷ c ∷ [])
triples-more fs P h none zero b c = none (0 ∷ b ∷ c ∷ []) (none_zero (0 ∷ b ∷ c ∷ []) fs (has3-first 0 b c))
triples-more fs P h none (suc a) zero c = none (suc a ∷ 0 ∷ c ∷ []) (none_zero (suc a ∷ 0 ∷ c ∷ []) fs (has3-second (suc a) 0 c))
triples-more fs P h none (suc a) (suc b) zero = none (suc a ∷ suc b ∷ 0 ∷ []) (none_zero (suc a ∷ suc b ∷ 0 ∷ []) fs (has3-third (suc a) (suc b) 0))
triples-more fs P h none (suc a) (suc b) (suc c) = subst P (three (a + 1) (suc a) (b + 1) (suc b) (c + 1) (suc c) (omega arith) (omega arith) (omega arith)) (h a b c)
  where
    three : (a x b y c z : ℕ) → a ≡ x → b ≡ y → c ≡ z → a ∷ b ∷ c ∷ [] ≡ x ∷ y ∷ z ∷ []
    three a x b y c z e f g = cc

-- where a goes before b, and where it does not
inserted : (t : Bool) (a b : ℕ) (x y z : List ℕ) → y ≡ file_numbers z → cond t ((b + 1) ∷ y) ((a + 1) ∷ (b + 1) ∷ file_numbers x) ≡ file_numbers (cond t (b ∷ z) (a ∷ b ∷ x))
inserted true a b x y z e = ap (λ l. (b + 1) ∷ l) e
inserted false a b x y z e = refl

insert-more : (a : ℕ) (x : List ℕ) → insert_number (a + 1) (file_numbers x) ≡ file_numbers (insert_number a x)
insert-more a [] = refl
insert-more a (b ∷ x) =
    ap (λ t. cond t ((b + 1) ∷ insert_number (a + 1) (file_numbers x)) ((a + 1) ∷ (b + 1) ∷ file_numbers x)) (below_number b a) ∙ inserted (nat_lt b a) a b x (insert_number (a + 1) (file_numbers x)) (insert_number a x) (insert-more a x)

pub rising-more : (x : List ℕ) → rising (file_numbers x) ≡ file_numbers (rising x)
rising-more [] = refl
rising-more (a ∷ x) = ap (insert_number (a + 1)) (rising-more x) ∙ insert-more a (rising x)

-- ---- points
-- the points of the file are those of the mesh, where some tetrahedron has them
abbrev pub HaveSamePoints : List (List ℕ) → (given points : List Point) → Type 0
HaveSamePoints tets given points = (u : ℕ) → is_used tets u ≡ true → point_at given (u + 1) ≡ point_at points u

-- the same of one tetrahedron
abbrev Agree : List ℕ → (given points : List Point) → Type 0
Agree x given points = (u : ℕ) → has x u ≡ true → point_at given (u + 1) ≡ point_at points u

first_agrees : (x : List ℕ) (tets : List (List ℕ)) (given points : List Point) → HaveSamePoints (x ∷ tets) given points → Agree x given points
first_agrees x tets given points h u e = h u (or_left (has x u) (is_used tets u) e)

later_agree : (x : List ℕ) (tets : List (List ℕ)) (given points : List Point) → HaveSamePoints (x ∷ tets) given points → HaveSamePoints tets given points
later_agree x tets given points h u e = h u (or_right (has x u) (is_used tets u) e)

det-more : (x : List ℕ) (given points : List Point) → Agree x given points → det_at given (file_numbers x) ≡ det_at points x
det-more [] given points h = refl
det-more (a ∷ []) given points h = refl
det-more (a ∷ b ∷ []) given points h = refl
det-more (a ∷ b ∷ c ∷ []) given points h = refl
det-more (a ∷ b ∷ c ∷ d ∷ []) given points h =
    let x = a ∷ b ∷ c ∷ d ∷ [] in
    let at_a = h a (has4 a b c d a (inl refl)) in
    let at_b = h b (has4 a b c d b (inr (inl refl))) in
    let at_c = h c (has4 a b c d c (inr (inr (inl refl)))) in
    let at_d = h d (has4 a b c d d (inr (inr (inr refl)))) in
    ap (λ p. det p (point_at given (b + 1)) (point_at given (c + 1)) (point_at given (d + 1))) at_a ∙ ap (λ p. det (point_at points a) p (point_at given (c + 1)) (point_at given (d + 1))) at_b
    ∙ ap (λ p. det (point_at points a) (point_at points b) p (point_at given (d + 1))) at_c ∙ ap (λ p. det (point_at points a) (point_at points b) (point_at points c) p) at_d
  where
    has4 : (a b c d u : ℕ) → (a ≡ u) ⊎ ((b ≡ u) ⊎ ((c ≡ u) ⊎ (d ≡ u))) → has (a ∷ b ∷ c ∷ d ∷ []) u ≡ true
    has4 a b c d u (inl e) = or_left (nat_eq a u) (has (b ∷ c ∷ d ∷ []) u) ((Decides-eqb a u).1 e)
    has4 a b c d u (inr (inl e)) = or_right (nat_eq a u) (has (b ∷ c ∷ d ∷ []) u) (or_left (nat_eq b u) (has (c ∷ d ∷ []) u) ((Decides-eqb b u).1 e))
    has4 a b c d u (inr (inr (inl e))) = or_right (nat_eq a u) (has (b ∷ c ∷ d ∷ []) u) (or_right (nat_eq b u) (has (c ∷ d ∷ []) u) (or_left (nat_eq c u) (has (d ∷ []) u) ((Decides-eqb c u).1 e)))
    has4 a b c d u (inr (inr (inr e))) = or_right (nat_eq a u) (has (b ∷ c ∷ d ∷ []) u) (or_right (nat_eq b u) (has (c ∷ d ∷ []) u) (or_right (nat_eq c u) (has (d ∷ []) u) (or_left (nat_eq d u) false ((Decides-eqb d u).1 e))))
det-more (a ∷ b ∷ c ∷ d ∷ e ∷ x) given points h = refl

pub volume-more : (tets : List (List ℕ)) (given points : List Point) → HaveSamePoints tets given points → volume given (more tets) ≡ volume points tets
volume-more [] given points h = refl
volume-more (x ∷ tets) given points h =
    ap (λ z. z +ℤ volume given (more tets)) (det-more x given points (first_agrees x tets given points h)) ∙ ap (λ z. det_at points x +ℤ z) (volume-more tets given points (later_agree x tets given points h))

pub positive-more : (tets : List (List ℕ)) (given points : List Point) → HaveSamePoints tets given points → All (IsPositive points) tets → All (IsPositive given) (more tets)
positive-more [] given points h k = All-nil (IsPositive given)
positive-more (x ∷ tets) given points h k =
    All-cons (IsPositive given) (file_numbers x) (more tets) (subst (λ z. pos 0 <ℤ z) (sym (det-more x given points (first_agrees x tets given points h))) (k 0 [] (omega arith)))
    (positive-more tets given points (later_agree x tets given points h) (λ i d lt. k (suc i) d (omega (arith, lt))))

-- ---- members
abbrev less : List ℕ → List ℕ
less corners = map (λ c. c - 1) corners

less-more : (x : List ℕ) → less (file_numbers x) ≡ x
less-more [] = refl
less-more (a ∷ x) = let first : a + 1 - 1 ≡ a = omega arith in ap (λ b. b ∷ less (file_numbers x)) first ∙ ap (λ l. a ∷ l) (less-more x)

pub same_corners : (x y : List ℕ) → file_numbers x ≡ file_numbers y → x ≡ y
same_corners x y e = sym (less-more x) ∙ ap less e ∙ less-more y

pub Contains-more : (xs : List (List ℕ)) (x : List ℕ) → Contains xs x → Contains (more xs) (file_numbers x)
Contains-more xs x h = (h.0, omega (arith, h.1, length-map xs file_numbers), get_or-map file_numbers xs h.0 x ∙ ap file_numbers h.2)

pub Contains-from : (xs : List (List ℕ)) (z : List ℕ) → Contains (more xs) z → (x : List ℕ) × (file_numbers x ≡ z) × Contains xs x
Contains-from xs z h =
    let lt : h.0 < length xs = omega (arith, h.1, length-map xs file_numbers) in
    let x = get_or xs h.0 [] in
    (x, sym (get_or-map file_numbers xs h.0 []) ∙ get_or_default (more xs) h.0 (file_numbers []) z h.1 ∙ h.2, (h.0, lt, get_or_default xs h.0 x [] lt))

pub Contains-less : (xs : List (List ℕ)) (x : List ℕ) → Contains (more xs) (file_numbers x) → Contains xs x
Contains-less xs x h = let found = Contains-from xs (file_numbers x) h in subst (Contains xs) (same_corners found.0 x found.1) found.2

-- ---- regions
reversed-more : (f : List ℕ) → reversed (file_numbers f) ≡ file_numbers (reversed f)
reversed-more [] = refl
reversed-more (a ∷ []) = refl
reversed-more (a ∷ b ∷ []) = refl
reversed-more (a ∷ b ∷ c ∷ []) = refl
reversed-more (a ∷ b ∷ c ∷ d ∷ x) = refl

count-more : (f : List ℕ) (tets : List (List ℕ)) → count (reversed (file_numbers f)) (more tets) ≡ count (reversed f) tets
count-more f tets =
    ap (λ fs. occurrences (reversed (file_numbers f)) fs) (all_faces-more tets) ∙ ap (λ g. occurrences g (more (all_faces tets))) (reversed-more f) ∙ occurrences-more (reversed f) (all_faces tets)

rotation-more : (f g : List ℕ) → is_rotation (reversed (file_numbers f)) (file_numbers g) ≡ is_rotation (reversed f) g
rotation-more f g = ap (λ h. is_rotation h (file_numbers g)) (reversed-more f) ∙ is_rotation-more (reversed f) g

face_more : (x f : List ℕ) → Contains (faces x) f → Contains (faces (file_numbers x)) (file_numbers f)
face_more x f h = subst (λ fs. Contains fs (file_numbers f)) (sym (faces-more x)) (Contains-more (faces x) f h)

face_from : (x z : List ℕ) → Contains (faces (file_numbers x)) z → (f : List ℕ) × (file_numbers f ≡ z) × Contains (faces x) f
face_from x z h = Contains-from (faces x) z (subst (λ fs. Contains fs z) (faces-more x) h)

module _ (tets tracked : List (List ℕ)) where
  loose_more : (x : List ℕ) → HasLooseFace tets x → HasLooseFace (more tets) (file_numbers x)
  loose_more x h = record { face = file_numbers h.face; of_x = face_more x h.face h.of_x; loose = count-more h.face tets ∙ h.loose }

  loose_less : (x : List ℕ) → HasLooseFace (more tets) (file_numbers x) → HasLooseFace tets x
  loose_less x h =
      let f = face_from x h.face h.of_x in
      record { face = f.0; of_x = f.2; loose = sym (count-more f.0 tets) ∙ ap (λ g. count (reversed g) (more tets)) f.1 ∙ h.loose }

  open_more : (x y : List ℕ) → IsOpenTo tracked x y → IsOpenTo (more tracked) (file_numbers x) (file_numbers y)
  open_more x y h = record {
    face = file_numbers h.face;
    mate = file_numbers h.mate;
    of_x = face_more x h.face h.of_x;
    of_y = face_more y h.mate h.of_y;
    reverse = rotation-more h.face h.mate ∙ h.reverse;
    untracked = λ t. h.untracked (Contains-less tracked (rising h.face) (subst (Contains (more tracked)) (rising-more h.face) t));
  }

  open_less : (x y : List ℕ) → IsOpenTo (more tracked) (file_numbers x) (file_numbers y) → IsOpenTo tracked x y
  open_less x y h =
      let f = face_from x h.face h.of_x in
      let g = face_from y h.mate h.of_y in
      record {
        face = f.0;
        mate = g.0;
        of_x = f.2;
        of_y = g.2;
        reverse = sym (rotation-more f.0 g.0) ∙ ap (λ k. is_rotation (reversed k) (file_numbers g.0)) f.1 ∙ ap (λ k. is_rotation (reversed h.face) k) g.1 ∙ h.reverse;
        untracked = λ t.
            h.untracked (subst (λ k. Contains (more tracked) (rising k)) f.1 (subst (Contains (more tracked)) (sym (rising-more f.0)) (Contains-more tracked (rising f.0) t)));
      }

  pub outside_more : (x : List ℕ) → IsOutside tets tracked x → IsOutside (more tets) (more tracked) (file_numbers x)
  outside_more x (starts y there loose) = starts (file_numbers x) (Contains-more tets x there) (loose_more x loose)
  outside_more y (goes_on x z before there opens) = goes_on (file_numbers x) (file_numbers y) (outside_more x before) (Contains-more tets y there) (open_more x y opens)

  outside_from : (z : List ℕ) → IsOutside (more tets) (more tracked) z → (x : List ℕ) × (file_numbers x ≡ z) × IsOutside tets tracked x
  outside_from z (starts y there loose) =
      let x = Contains-from tets z there in
      (x.0, x.1, starts x.0 x.2 (loose_less x.0 (subst (HasLooseFace (more tets)) (sym x.1) loose)))
  outside_from z (goes_on v y before there opens) =
      let x = outside_from v before in
      let w = Contains-from tets z there in
      (w.0, w.1, goes_on x.0 w.0 x.2 w.2 (open_less x.0 w.0 (subst (λ k. IsOpenTo (more tracked) k (file_numbers w.0)) (sym x.1) (subst (IsOpenTo (more tracked) v) (sym w.1) opens))))

  pub outside_less : (x : List ℕ) → IsOutside (more tets) (more tracked) (file_numbers x) → IsOutside tets tracked x
  outside_less x h = let found = outside_from (file_numbers x) h in subst (IsOutside tets tracked) (same_corners found.0 x found.1) found.2

-- ---- sides of the box
has_from : (f : List ℕ) (c : ℕ) → has (file_numbers f) c ≡ true → (u : ℕ) × (c ≡ u + 1) × (has f u ≡ true)
has_from [] c h = absurd (true≢false (sym h))
has_from (a ∷ f) c h = elim (or_cases (nat_eq (a + 1) c) (has (file_numbers f) c) h) [
  | inl e ↦ (a, sym ((Decides-eqb (a + 1) c).0 e), or_left (nat_eq a a) (has f a) ((Decides-eqb a a).1 refl))
  | inr e ↦ let found = has_from f c e in (found.0, found.1, or_right (nat_eq a found.0) (has f found.0) found.2)
]

occurs_used : (f : List ℕ) (u : ℕ) → has f u ≡ true → (tets : List (List ℕ)) → 0 < occurrences f (all_faces tets) → is_used tets u ≡ true
occurs_used f u h [] some = absurd (omega (arith, some))
occurs_used f u h (x ∷ tets) some = elim (cases_Bool (has x u)) [
  | inl e ↦ or_left (has x u) (is_used tets u) e
  | inr e ↦ or_right (has x u) (is_used tets u) (occurs_used f u h tets (omega (arith, some, occurrences-append f (faces x) (all_faces tets), no-face f u h x e)))
]

on_side_more : (tets : List (List ℕ)) (given points : List Point) (l : ℕ) (f : List ℕ) → HaveSamePoints tets given points → 0 < occurrences f (all_faces tets) → IsOnOneSide points l f → IsOnOneSide given l (file_numbers f)
on_side_more tets given points l f same some h = record {
  side = h.side;
  corners = λ c there.
      let u = has_from f c there in
      let at : point_at given c ≡ point_at points u.0 = ap (point_at given) u.1 ∙ same u.0 (occurs_used f u.0 u.2 tets some) in
      subst (IsOn l h.side) (sym at) (h.corners u.0 u.2);
}

-- ---- tilings
risings-more : (fs : List (List ℕ)) → map rising (more fs) ≡ more (map rising fs)
risings-more [] = refl
risings-more (f ∷ fs) = ap (λ g. g ∷ map rising (more fs)) (rising-more f) ∙ ap (λ gs. file_numbers (rising f) ∷ gs) (risings-more fs)

-- the mesh by the numbers of the file
abbrev pub mesh-more : Mesh → (given : List Point) (made : ℕ) → Mesh
mesh-more m given made = record { points = given; tets = more m.tets; tracked = more m.tracked; made = made }

pub Tiles-more : (m : Mesh) (given : List Point) (made l : ℕ) → HaveSamePoints m.tets given m.points → Tiles m l → Tiles (mesh-more m given made) l
Tiles-more m given made l same h =
    let fs = all_faces m.tets in
    let all = all_faces-more m.tets in
    record {
      positive = positive-more m.tets given m.points same h.positive;
      fills = record {
        once = λ a b c. subst (λ gs. occurrences (a ∷ b ∷ c ∷ []) gs ≤ 1) (sym all)
            (triples-more fs (λ f. occurrences f (more fs) ≤ 1) (λ u v w. omega (arith, occurrences-more (u ∷ v ∷ w ∷ []) fs, h.fills.once u v w)) (λ f none. omega (arith, none)) a b c);
        rim = λ a b c. subst (λ gs. 0 < occurrences (a ∷ b ∷ c ∷ []) gs → occurrences (a ∷ c ∷ b ∷ []) gs ≡ 0 → IsOnOneSide given l (a ∷ b ∷ c ∷ [])) (sym all)
            (triples-more fs (λ f. 0 < occurrences f (more fs) → occurrences (reversed f) (more fs) ≡ 0 → IsOnOneSide given l f)
            (λ u v w some none.
            let f = u ∷ v ∷ w ∷ [] in
            let there : 0 < occurrences f fs = omega (arith, some, occurrences-more f fs) in
            on_side_more m.tets given m.points l f same there (h.fills.rim u v w there (sym (occurrences-more (u ∷ w ∷ v ∷ []) fs) ∙ none)))
            (λ f no some. absurd (omega (arith, no, some))) a b c);
        volume_is = volume-more m.tets given m.points same ∙ h.fills.volume_is;
        tracked_are = subst (λ gs. All (Contains (map rising gs)) (more m.tracked)) (sym all)
            (subst (λ gs. All (Contains gs) (more m.tracked)) (sym (risings-more fs)) (All-map (Contains (more (map rising fs))) file_numbers m.tracked (λ i d lt. Contains-more (map rising fs) (get_or m.tracked i d) (h.fills.tracked_are i d lt))));
      };
    }
