-- Each tracked triple that lies on no side of the box is that of two oriented faces. So there are at most twice as many as tetrahedra.
use Rattle.std.proofs.Common.{◌≡◌, ◌≢◌, ℕ, zero, suc, get_or, ◌^◌, ◌+◌, ◌*◌, ◌<◌, ◌≤◌, Bool, true, false, ◌&&◌, List, [], ◌∷◌, map, length, pos, ◌≤ℤ◌, refl, sym, ap, ◌∙◌, subst, inl, inr, arith, length-append}
use Rattle.std.specs.List.{count_by, Contains, AllByRecursion as Each}
use Rattle.std.proofs.lemmas.Bool.{cases_Bool, cases_eq}
use Rattle.std.proofs.lemmas.Int.{ints}
use Rattle.std.proofs.lemmas.List.Elements.{recursion_from_All}
use mathlib.Core.Logic.{Ne-symm}
use Rattle.int_algebra.proofs.Laws.{linear}
use Rattle.grid.proofs.ForCallers.{count_by-cons_yes, count_by-cons_no, has_first, Each-weaker, Each-of_flat_map, Each-both, has-rising}
use Rattle.grid.specs.Boxes.{IsOnOneSide}
use Rattle.mesh_types.proofs.ForCallers.{total, bit, total-swap, count_by-total, Turn, still, once, twice, turn_of, has-reversed, rotations, same_corners_from, Cornered, number, count-number, number-Ordered, cornered_of, IsTri, faces-IsTri, present}
use Rattle.grid.specs.Meshes.{Mesh, Ordered, IsTriple, IsWellFormed, Tiles}
use Rattle.grid.specs.Simplices.{has, faces, all_faces, is_rotation, count, rising, Rises, has_all, same_corners, IsTet}
use Rattle.grid.specs.Limits.{most_made}
use Rattle.acceptance.specs.OffBox.{IsOffBox}
use Rattle.acceptance.proofs.Corners.{corner_present}

-- ---- counts
-- what passes either of two tests that exclude one another passes the third
counts_add : {X : Type 0} (p q r : X → Bool) → ((x : X) → p x ≡ true → r x ≡ true) → ((x : X) → q x ≡ true → r x ≡ true) → ((x : X) → p x ≡ true → q x ≡ true → ⊥) → (xs : List X) → count_by p xs + count_by q xs ≤ count_by r xs
counts_add p q r f g apart [] = omega arith
counts_add p q r f g apart (x ∷ xs) =
    let rest = counts_add p q r f g apart xs in
    elim (cases_Bool (p x)) [
      | inl a ↦ elim (cases_Bool (q x)) [
        | inl b ↦ absurd (apart x a b)
        | inr b ↦ omega (arith, rest, count_by-cons_yes p x xs a, count_by-cons_no q x xs b, count_by-cons_yes r x xs (f x a))
      ]
      | inr a ↦ elim (cases_Bool (q x)) [
        | inl b ↦ omega (arith, rest, count_by-cons_no p x xs a, count_by-cons_yes q x xs b, count_by-cons_yes r x xs (g x b))
        | inr b ↦ elim (cases_Bool (r x)) [
          | inl c ↦ omega (arith, rest, count_by-cons_no p x xs a, count_by-cons_no q x xs b, count_by-cons_yes r x xs c)
          | inr c ↦ omega (arith, rest, count_by-cons_no p x xs a, count_by-cons_no q x xs b, count_by-cons_no r x xs c)
        ]
      ]
    ]

and_turn : (a b : Bool) → (a && b) ≡ (b && a)
and_turn true true = refl
and_turn true false = refl
and_turn false true = refl
and_turn false false = refl

-- how often the corners of t occur among the faces
abbrev twice_among : List (List ℕ) → List ℕ → Type 0
twice_among fs t = 2 ≤ count_by (same_corners t) fs

-- triples in order, each of which occurs twice in a list, are at most half as many
pub half_as_many : (ts fs : List (List ℕ)) → Ordered ts → Each Rises ts → Each (twice_among fs) ts → 2 * length ts ≤ length fs
half_as_many ts fs o r h =
    let sums = total-swap (λ t f. bit (same_corners t f)) ts fs in
    let low = rows ts h in
    let high = columns fs in
    omega (arith, ints, linear, sums, low, high)
  where
    rows : (ss : List (List ℕ)) → Each (twice_among fs) ss → pos (2 * length ss) ≤ℤ total (λ t. total (λ f. bit (same_corners t f)) fs) ss
    rows [] k = omega (arith, linear)
    rows (s ∷ ss) k =
        let rest = rows ss k.1 in
        let here = count_by-total (same_corners s) fs in
        let two : pos 2 ≤ℤ pos (count_by (same_corners s) fs) = let least = k.0 in omega (arith, ints, least) in
        omega (arith, ints, linear, rest, here, two)

    column : (f : List ℕ) → total (λ t. bit (same_corners t f)) ts ≤ℤ pos 1
    column f =
        let turned : total (λ t. bit (same_corners t f)) ts ≡ number same_corners f ts = turn_all f ts in
        let once = number-Ordered ts o r f in
        omega (arith, linear, turned, once)
      where
        turn_all : (f : List ℕ) (ss : List (List ℕ)) → total (λ t. bit (same_corners t f)) ss ≡ number same_corners f ss
        turn_all f [] = refl
        turn_all f (s ∷ ss) =
            let here : bit (same_corners s f) ≡ bit (same_corners f s) = ap bit (and_turn (has_all s f) (has_all f s)) in
            omega (arith, linear, here, turn_all f ss)

    columns : (gs : List (List ℕ)) → total (λ f. total (λ t. bit (same_corners t f)) ts) gs ≤ℤ pos (length gs)
    columns [] = omega (arith, linear)
    columns (g ∷ gs) = omega (arith, ints, linear, column g, columns gs)

-- ---- both orientations of a face
-- no face is a rotation of two with three different corners that are the reverse of one another
turns_apart : (a b c : ℕ) → a ≢ b → a ≢ c → b ≢ c → (g : List ℕ) → Turn (a ∷ b ∷ c ∷ []) g → Turn (a ∷ c ∷ b ∷ []) g → ⊥
turns_apart a b c ab ac bc g (still p q r e f) (still u v w h k) = bc cc
turns_apart a b c ab ac bc g (still p q r e f) (once u v w h k) = ab cc
turns_apart a b c ab ac bc g (still p q r e f) (twice u v w h k) = ac cc
turns_apart a b c ab ac bc g (once p q r e f) (still u v w h k) = ac cc
turns_apart a b c ab ac bc g (once p q r e f) (once u v w h k) = bc cc
turns_apart a b c ab ac bc g (once p q r e f) (twice u v w h k) = ab cc
turns_apart a b c ab ac bc g (twice p q r e f) (still u v w h k) = ab cc
turns_apart a b c ab ac bc g (twice p q r e f) (once u v w h k) = ac cc
turns_apart a b c ab ac bc g (twice p q r e f) (twice u v w h k) = bc cc

-- a face with the corners of t
corners_of_turn : (t f : List ℕ) → ((c : ℕ) → has f c ≡ has t c) → (g : List ℕ) → is_rotation f g ≡ true → same_corners t g ≡ true
corners_of_turn t f same g h = same_corners_from t g (λ c. sym (same c) ∙ rotations.keeps c f g h)

-- both orientations occur, so the triple occurs twice
pub twice_from_both : (t : List ℕ) (a b c : ℕ) (fs : List (List ℕ)) → a ≢ b → a ≢ c → b ≢ c → ((o : ℕ) → has (a ∷ b ∷ c ∷ []) o ≡ has t o)
    → 0 < count_by (is_rotation (a ∷ b ∷ c ∷ [])) fs → 0 < count_by (is_rotation (a ∷ c ∷ b ∷ [])) fs → twice_among fs t
twice_from_both t a b c fs ab ac bc same some other =
    let f : List ℕ = a ∷ b ∷ c ∷ [] in
    let g : List ℕ = a ∷ c ∷ b ∷ [] in
    let all = counts_add (is_rotation f) (is_rotation g) (same_corners t)
    (corners_of_turn t f same)
    (corners_of_turn t g (λ o. has-reversed f o ∙ same o))
    (λ x h k. turns_apart a b c ab ac bc x (turn_of f x h) (turn_of g x k)) fs in
    omega (arith, all, some, other)

-- ---- tracked triples
-- a face with three different corners
record IsFace (f : List ℕ) : Type 0 where
  a : ℕ
  b : ℕ
  c : ℕ
  is : f ≡ a ∷ b ∷ c ∷ []
  ab : a ≢ b
  ac : a ≢ c
  bc : b ≢ c

tet_faces : (n : ℕ) (x : List ℕ) → Cornered n x → Each IsFace (faces x)
tet_faces n x t =
    let d = t.different in
    subst (λ y. Each IsFace (faces y)) (sym t.is)
    (three t.a t.c t.b d.ac d.ab (Ne-symm d.bc), (three t.a t.b t.d d.ab d.ad d.bd, (three t.a t.d t.c d.ad d.ac (Ne-symm d.cd), (three t.b t.c t.d d.bc d.bd d.cd, tt))))
  where
    three : (a b c : ℕ) → a ≢ b → a ≢ c → b ≢ c → IsFace (a ∷ b ∷ c ∷ [])
    three a b c p q r = record { a = a; b = b; c = c; is = refl; ab = p; ac = q; bc = r }

-- the face of which t is the rising triple
found : (P : List ℕ → Type 0) (t : List ℕ) (fs : List (List ℕ)) (k : ℕ) → Each P fs → k < length (map rising fs) → get_or (map rising fs) k t ≡ t → (f : List ℕ) × P f × (rising f ≡ t)
found P t [] k h lt e = absurd (omega (arith, lt))
found P t (f ∷ fs) zero h lt e = (f, h.0, e)
found P t (f ∷ fs) (suc k) h lt e = found P t fs k h.1 (omega (arith, lt)) e

four_faces : (n : ℕ) (xs : List (List ℕ)) → Each (Cornered n) xs → length (all_faces xs) ≡ 4 * length xs
four_faces n [] h = refl
four_faces n (x ∷ xs) h =
    let here : length (faces x) ≡ 4 = ap (λ y. length (faces y)) h.0.is in
    omega (arith, length-append (faces x) (all_faces xs), here, four_faces n xs h.1)

module _ (m : Mesh) (l : ℕ) (wf : IsWellFormed m) (tiles : Tiles m l) where
  abbrev fs : List (List ℕ)
  fs = all_faces m.tets

  cornered : Each (Cornered (length m.points)) m.tets
  cornered = Each-weaker (IsTet (length m.points)) (Cornered (length m.points)) (cornered_of (length m.points)) m.tets (recursion_from_All (IsTet (length m.points)) m.tets wf.tets_are)

  occurring : Each (λ f. IsFace f × (pos 1 ≤ℤ number is_rotation f fs)) fs
  occurring = Each-both IsFace (λ f. pos 1 ≤ℤ number is_rotation f fs) fs
      (Each-of_flat_map (Cornered (length m.points)) IsFace faces (tet_faces (length m.points)) m.tets cornered)
      (present fs (Each-of_flat_map (Cornered (length m.points)) IsTri faces (faces-IsTri (length m.points)) m.tets cornered))

  tracked_twice : (t : List ℕ) → Contains (map rising fs) t → IsOffBox m.points l t → twice_among fs t
  tracked_twice t h off =
      let it = found (λ f. IsFace f × (pos 1 ≤ℤ number is_rotation f fs)) t fs h.0 occurring h.1 h.2 in
      let f = it.1.0 in
      let same : (o : ℕ) → has (f.a ∷ f.b ∷ f.c ∷ []) o ≡ has t o = λ o. ap (λ y. has y o) (sym f.is) ∙ (sym (has-rising it.0 o) ∙ ap (λ y. has y o) it.2) in
      let some : 0 < count (f.a ∷ f.b ∷ f.c ∷ []) m.tets = positive (f.a ∷ f.b ∷ f.c ∷ []) (subst (λ g. pos 1 ≤ℤ number is_rotation g fs) f.is it.1.1) in
      let other : 0 < count (f.a ∷ f.c ∷ f.b ∷ []) m.tets = both f.a f.b f.c same some in
      twice_from_both t f.a f.b f.c fs f.ab f.ac f.bc same some other
    where
      positive : (g : List ℕ) → pos 1 ≤ℤ number is_rotation g fs → 0 < count g m.tets
      positive g one = let e = count-number g m.tets in omega (arith, ints, one, e)

      both : (a b c : ℕ) → ((o : ℕ) → has (a ∷ b ∷ c ∷ []) o ≡ has t o) → 0 < count (a ∷ b ∷ c ∷ []) m.tets → 0 < count (a ∷ c ∷ b ∷ []) m.tets
      both a b c same some = elim (cases_eq (count (a ∷ c ∷ b ∷ []) m.tets) 0) [
        | inl none ↦
            let on : IsOnOneSide m.points l (a ∷ b ∷ c ∷ []) = tiles.fills.rim a b c some none in
            let first = has_first a (b ∷ c ∷ []) in
            absurd (off.off a (sym (same a) ∙ first) on.side (on.corners a first))
        | inr some_other ↦ omega (arith, some_other)
      ]

  -- what holds of each corner of the tetrahedra holds of those of a tracked triple
  pub tracked_corner : (P : ℕ → Type 0) → Each (λ x. (o : ℕ) → has x o ≡ true → P o) m.tets → (t : List ℕ) → Contains (map rising fs) t → (o : ℕ) → has t o ≡ true → P o
  tracked_corner P all t h o there =
      let it = found (λ f. IsFace f × (pos 1 ≤ℤ number is_rotation f fs)) t fs h.0 occurring h.1 h.2 in
      let in_face : has it.0 o ≡ true = sym (has-rising it.0 o) ∙ (ap (λ y. has y o) it.2 ∙ there) in
      let e = count-number it.0 m.tets in
      let one = it.1.1 in
      corner_present P it.0 o in_face m.tets all (omega (arith, ints, one, e))

  pub tracked_few : Each (IsOffBox m.points l) m.tracked → length m.tracked ≤ 2 * length m.tets
  tracked_few off =
      let n = length m.points in
      let half = half_as_many m.tracked fs wf.ordered (Each-weaker (IsTriple n) Rises (λ t h. h.rises) m.tracked (recursion_from_All (IsTriple n) m.tracked wf.triples_are))
      (Each-weaker (λ t. Contains (map rising fs) t × IsOffBox m.points l t) (twice_among fs) (λ t h. tracked_twice t h.0 h.1) m.tracked
      (Each-both (Contains (map rising fs)) (IsOffBox m.points l) m.tracked (recursion_from_All (Contains (map rising fs)) m.tracked tiles.fills.tracked_are) off)) in
      omega (arith, half, four_faces n m.tets cornered)

  pub elements_few : Each (IsOffBox m.points l) m.tracked → length m.tets ≤ most_made → length m.tets + length m.tracked ≤ 2 ^ 24
  elements_few off few = omega (arith, tracked_few off, few)
