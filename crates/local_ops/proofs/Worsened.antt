-- A face swap that is seen to make worse is refused for that.
use Rattle.std.proofs.Common.{◌≡◌, ◌≢◌, ℕ, ◌+◌, ◌≤◌, ◌<◌, true, ◌&&◌, ◌||◌, cond, List, [], ◌∷◌, ◌++◌, map, length, ℤ, pos, ◌+ℤ◌, refl, sym, ◌∙◌, ap, subst, inl, inr, arith}
use Rattle.std.specs.Prelude.{nat_lt}
use Rattle.std.specs.List.{list_all}
use Rattle.std.proofs.lemmas.Bool.{cases_Bool, and_parts, or_cases, ltb-true, lt-ltb, true≢false}
use Rattle.std.proofs.lemmas.Int.{ints}
use Rattle.std.proofs.lemmas.List.Elements.{recursion_from_All}
use Rattle.grid.specs.declared.shapes.Tri.{Tri}
use Rattle.grid.specs.Determinants.{IsPositive}
use Rattle.grid.specs.Simplices.{has, count, faces}
use Rattle.grid.specs.Limits.{most_made}
use Rattle.mesh_types.specs.declared.tries.Try.TheVariants.{FaceSwap}
use Rattle.mesh_types.specs.declared.tries.Verdict.TheVariants.{Refused}
use Rattle.mesh_types.specs.declared.tries.Why.TheVariants as why
use Rattle.mesh_types.specs.Journals.{AllPositive, NoFaceTwice, setting}
use Rattle.mesh_types.specs.Results.{Result, face_swap, without}
use Rattle.mesh_types.specs.Verdicts.{IsBetter, IsSingle, IsVerdict, Setting, energy_at, largest}
use Rattle.mesh_types.proofs.ForCallers.{Among, among-all, count-append, count-same, count-one, among-without, without-total, HaveSameSums}
use Rattle.mesh_store.specs.Exchanges.{tet_in}
use Rattle.mesh_store.specs.Parts.{Parts, live_tets, mesh_in}
use Rattle.mesh_store.specs.Sound.{IsSoundStore}
use Rattle.mesh_store.proofs.ForCallers.{outside-is, live-each}
use Rattle.local_ops.specs.Attempts.{PassesBelow}
use Rattle.local_ops.specs.Measures.{corners_at, has_single_faces, is_positive}
use Rattle.local_ops.specs.Swaps.{AreSides, IsSeenWorse, has_new_once, is_face_of, is_new_once, three_of}
use Rattle.local_ops.specs.declared.swapping.Sides.{Sides}
use Rattle.local_ops.proofs.FaceCounts.{count-near}
use Rattle.local_ops.proofs.InOrder.{passes_more, refused}
use Rattle.local_ops.proofs.Lower.{below-largest}
use Rattle.local_ops.proofs.NewTets.{IsThree, all-true, face-three, positive-passes, single-passes, true-at}
use Rattle.local_ops.proofs.Swapped.{first-side, second-side, points-same, swapped-is, within}

-- ---- the larger of two
largest-one : (q : ℕ) → largest (q ∷ []) ≡ q
largest-one q = elim (cases_Bool (nat_lt q 0)) [
  | inl e ↦ let l = ltb-true q 0 e in absurd (omega (arith, l))
  | inr e ↦ rw e refl
]

largest-two : (p q : ℕ) → largest (p ∷ q ∷ []) ≡ cond (nat_lt p q) q p
largest-two p q = rw (largest-one q) (elim (cases_Bool (nat_lt p q)) [ inl e ↦ rw e refl | inr e ↦ rw e refl ])

-- ---- the two sides are positive
pub first-positive : (m : Parts) (a b c : ℕ) (s : Sides) → AreSides m.slots a b c s → AllPositive (mesh_in m) → IsPositive m.points (tet_in m.slots s.first)
first-positive m a b c s h positive =
    let side = first-side m a b c s h in
    live-each (IsPositive m.points) m.slots (recursion_from_All (IsPositive m.points) (live_tets m.slots) positive) s.first side.there side.live

pub second-positive : (m : Parts) (a b c : ℕ) (s : Sides) → AreSides m.slots a b c s → AllPositive (mesh_in m) → IsPositive m.points (tet_in m.slots s.second)
second-positive m a b c s h positive =
    let side = second-side m a b c s h in
    live-each (IsPositive m.points) m.slots (recursion_from_All (IsPositive m.points) (live_tets m.slots) positive) s.second side.there side.live

module _ (m : Parts) (a b c : ℕ) (s : Sides) (h : AreSides m.slots a b c s) (once : NoFaceTwice (mesh_in m)) (w : IsSeenWorse m.slots m.points a b c s) where
  abbrev all : List (List ℕ)
  all = live_tets m.slots

  abbrev x : List ℕ
  x = tet_in m.slots s.first

  abbrev y : List ℕ
  y = tet_in m.slots s.second

  abbrev rest : List (List ℕ)
  rest = without y (without x all)

  abbrev three : List (List ℕ)
  three = three_of a b c s.apex x

  -- ---- the faces of what stays
  x-among : Among all x
  x-among = let side = first-side m a b c s h in live-each (Among all) m.slots (among-all all) s.first side.there side.live

  y-among : Among all y
  y-among = let side = second-side m a b c s h in live-each (Among all) m.slots (among-all all) s.second side.there side.live

  apart : y ≢ x
  apart e = let r = outside-is x y s.apex h.apex in true≢false (sym r.1 ∙ (ap (λ (z : List ℕ). has z s.apex) e ∙ r.0))

  parted : HaveSameSums all (x ∷ y ∷ rest)
  parted g = without-total g x all x-among ∙ ap (λ n. g x +ℤ n) (without-total g y (without x all) (among-without x all y apart y-among))

  parts : (f : List ℕ) → pos (count f all) ≡ pos (count f (x ∷ [])) +ℤ (pos (count f (y ∷ [])) +ℤ pos (count f rest))
  parts f = count-same f all (x ∷ y ∷ rest) parted ∙ (count-append f (x ∷ []) (y ∷ rest) ∙ ap (λ n. pos (count f (x ∷ [])) +ℤ n) (count-append f (y ∷ []) rest))

  free-count : (f : List ℕ) → has f w.d ≡ true → has f s.apex ≡ true → count f all ≡ 0
  free-count f e g = sym (count-near f w.d s.apex e g m.slots) ∙ ap (λ (ns : List ℕ). count f (map (corners_at m.slots) ns)) w.free

  none-left : (p q r : ℕ) → (is_face_of (p ∷ q ∷ r ∷ []) x || (is_face_of (p ∷ q ∷ r ∷ []) y || (has (p ∷ q ∷ r ∷ []) w.d && has (p ∷ q ∷ r ∷ []) s.apex))) ≡ true → count (p ∷ q ∷ r ∷ []) rest ≡ 0
  none-left p q r e =
      let f : List ℕ = p ∷ q ∷ r ∷ [] in
      let sum = parts f in
      let few = once p q r in
      elim (or_cases (is_face_of f x) (is_face_of f y || (has f w.d && has f s.apex)) e) [
        | inl g ↦ let some = ltb-true 0 _ g in let one = count-one f x in omega (arith, ints, sum, few, some, one)
        | inr g ↦ elim (or_cases (is_face_of f y) (has f w.d && has f s.apex) g) [
          | inl k ↦ let some = ltb-true 0 _ k in let one = count-one f y in omega (arith, ints, sum, few, some, one)
          | inr k ↦ let both = and_parts (has f w.d) (has f s.apex) k in let zero = free-count f both.0 both.1 in omega (arith, ints, sum, zero)
        ]
      ]

  -- ---- the faces of the new ones
  few-new : (p q r : ℕ) → is_new_once x y three w.d s.apex (p ∷ q ∷ r ∷ []) ≡ true → nat_lt (count (p ∷ q ∷ r ∷ []) (rest ++ three)) 2 ≡ true
  few-new p q r e =
      let f : List ℕ = p ∷ q ∷ r ∷ [] in
      let both = and_parts (nat_lt (count f three) 2) (is_face_of f x || (is_face_of f y || (has f w.d && has f s.apex))) e in
      let none = none-left p q r both.1 in
      let few = ltb-true (count f three) 2 both.0 in
      let sum = count-append f rest three in
      lt-ltb (count f (rest ++ three)) 2 (omega (arith, ints, none, few, sum))

  of-face : (g : List ℕ) → IsThree g → is_new_once x y three w.d s.apex g ≡ true → nat_lt (count g (rest ++ three)) 2 ≡ true
  of-face g t e = subst (λ f. nat_lt (count f (rest ++ three)) 2 ≡ true) (sym t.is) (few-new t.a t.b t.c (subst (λ f. is_new_once x y three w.d s.apex f ≡ true) t.is e))

  single-faces : list_all (has_single_faces (rest ++ three)) three ≡ true
  single-faces = all-true (has_single_faces (rest ++ three)) three (λ z i.
      all-true (λ g. nat_lt (count g (rest ++ three)) 2) (faces z) (λ g j.
      of-face g (face-three z g j) (true-at (is_new_once x y three w.d s.apex) (faces z) g (true-at (has_new_once x y three w.d s.apex) three z w.once i) j)))

  abbrev r : Result
  r = face_swap (mesh_in m) a b c

  is-single : IsSingle r
  is-single = single-passes r ((λ i. list_all (has_single_faces (swapped-is m a b c s h i).mesh.tets) (swapped-is m a b c s h i).fresh) ∙ single-faces)

  -- ---- the energies
  not-better : ¬ IsBetter r
  not-better k =
      let e = energy_at m.points in
      let new : largest (map (energy_at r.mesh.points) r.fresh) ≡ largest (map e three) = λ i. largest (map (energy_at (points-same m a b c s h i)) (swapped-is m a b c s h i).fresh) in
      let old : largest (map (energy_at r.mesh.points) r.gone) ≡ largest (map e (x ∷ y ∷ [])) = λ i. largest (map (energy_at (points-same m a b c s h i)) (swapped-is m a b c s h i).gone) in
      let most : ℕ = cond (nat_lt (e x) (e y)) (e y) (e x) in
      let two : largest (map e (x ∷ y ∷ [])) ≡ most = largest-two (e x) (e y) in
      let below : largest (map e three) < most = subst (λ n. n < most) new (subst (λ n. largest (map (energy_at r.mesh.points) r.fresh) < n) (old ∙ two) k) in
      true≢false (sym (below-largest e most three below) ∙ w.worse)

  module _ (side : ℤ) (sound : IsSoundStore side m) (triangles : List Tri) (ep : ℕ) where
    abbrev t : Setting
    t = setting triangles ep side

    pub worse-seen : length m.slots + 3 ≤ most_made → list_all (is_positive m.points) three ≡ true
        → PassesBelow t (mesh_in m) (FaceSwap a b c) 3 → IsVerdict t (mesh_in m) (FaceSwap a b c) (Refused why.Worse)
    worse-seen room signs passed =
        let positive : list_all (is_positive r.mesh.points) r.fresh ≡ true = (λ i. list_all (is_positive (points-same m a b c s h i)) (swapped-is m a b c s h i).fresh) ∙ signs in
        let full = passes_more t (mesh_in m) (FaceSwap a b c) why.Full passed (within m a b c s h side sound triangles ep room) in
        let sign = passes_more t (mesh_in m) (FaceSwap a b c) why.Inverted full (positive-passes r.mesh.points r.fresh positive) in
        let single = passes_more t (mesh_in m) (FaceSwap a b c) why.Doubled sign is-single in
        refused t (mesh_in m) (FaceSwap a b c) why.Worse single not-better
