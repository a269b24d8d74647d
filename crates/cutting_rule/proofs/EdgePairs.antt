-- The edges of a tetrahedron that a phase wants, by tests of pairs of its corners.
use Rattle.std.proofs.Common.{◌≡◌, ℕ, zero, suc, ◌<◌, ℤ, pos, Bool, true, false, not, ◌&&◌, ◌||◌, if◌then◌else◌, nat_lt, List, [], ◌∷◌, ◌++◌, map, length, get_or, int_le, refl, sym, ap, ◌∙◌, inl, inr}
use Rattle.std.specs.List.{filter, list_all, list_any}
use Rattle.std.specs.Ordering.{int_eq}
use Rattle.std.proofs.lemmas.Bool.{cases_Bool}
use Rattle.std.proofs.lemmas.List.{get_or-map}
use Rattle.grid.specs.declared.shapes.Point.{Point}
use Rattle.grid.specs.declared.shapes.Tri.{Tri}
use Rattle.grid.specs.Determinants.{point_at}
use Rattle.grid.specs.Planes.{Plane, side_plane, snap_sign}
use Rattle.grid.specs.Simplices.{rising}
use Rattle.mesh_types.specs.CuttingRule.{lies_below, lies_above, lies_on, splits, reaches, ranges_meet, boxes_meet, section_plane, phase_plane, three_sides, is_crossed, is_wanted, is_in_section}
use Rattle.mesh_types.specs.Phases.{points_of, wanted_in}
use Rattle.cutting_rule.specs.Edges.{edge_if, are_opposite}
use Rattle.cutting_rule.specs.Touching.{signs_at, wants_along}
use Rattle.cutting_rule.proofs.Sides.{wanted-first, wanted-later}

-- ---- the order of the ends is of no account
any-swap : {X : Type 0} (f : X → Bool) (p q : X) → list_any f (p ∷ q ∷ []) ≡ list_any f (q ∷ p ∷ [])
any-swap f p q = swap (f p) (f q)
  where
    swap : (a b : Bool) → (a || (b || false)) ≡ (b || (a || false))
    swap true true = refl
    swap true false = refl
    swap false true = refl
    swap false false = refl

all-swap : {X : Type 0} (f : X → Bool) (p q : X) → list_all f (p ∷ q ∷ []) ≡ list_all f (q ∷ p ∷ [])
all-swap f p q = swap (f p) (f q)
  where
    swap : (a b : Bool) → (a && (b && true)) ≡ (b && (a && true))
    swap true true = refl
    swap true false = refl
    swap false true = refl
    swap false false = refl

ranges-swap : (a b : ℤ) (ws : List ℤ) → ranges_meet (a ∷ b ∷ []) ws ≡ ranges_meet (b ∷ a ∷ []) ws
ranges-swap a b ws = λ j.
    any-swap (λ v. list_any (λ w. int_le v w) ws) a b j && any-swap (λ v. list_any (λ w. int_le w v) ws) a b j

boxes-swap : (p q : Point) (ts : List Point) → boxes_meet (p ∷ q ∷ []) ts ≡ boxes_meet (q ∷ p ∷ []) ts
unfolding boxes_meet
boxes-swap p q ts = λ j. ranges-swap p.x q.x (map (λ r. r.x) ts) j && ranges-swap p.y q.y (map (λ r. r.y) ts) j && ranges-swap p.z q.z (map (λ r. r.z) ts) j

splits-swap : (m : Plane) (p q : Point) → splits m (p ∷ q ∷ []) ≡ splits m (q ∷ p ∷ [])
splits-swap m p q = λ j. any-swap (lies_below m) p q j && any-swap (lies_above m) p q j

reaches-swap : (t : Tri) (p q : Point) → reaches t (p ∷ q ∷ []) ≡ reaches t (q ∷ p ∷ [])
reaches-swap t p q = λ j.
    any-swap (lies_above (side_plane t 0)) p q j
    && (any-swap (lies_above (side_plane t 1)) p q j && (any-swap (lies_above (side_plane t 2)) p q j && true))

wanted-swap : (t : Tri) (i : ℕ) (corners : List Point) (p q : Point) → is_wanted t i corners (p ∷ q ∷ []) ≡ is_wanted t i corners (q ∷ p ∷ [])
unfolding is_wanted
wanted-swap t zero corners p q = ap (λ (b : Bool). is_crossed t corners && b) (splits-swap (section_plane t) p q)
wanted-swap t (suc i) corners p q = λ j.
    boxes-swap p q t.0 j && all-swap (lies_on (section_plane t)) p q j && splits-swap (side_plane t i) p q j && reaches-swap t p q j

-- ---- one edge
module _ (points : List Point) (t : Tri) (i : ℕ) (corners : List Point) where
  abbrev wants : ℕ → ℕ → Bool
  wants u v = is_wanted t i corners (point_at points u ∷ point_at points v ∷ [])

  abbrev test : List ℕ → Bool
  test e = is_wanted t i corners (points_of points e)

  wanted-rising : (u v : ℕ) → wants u v ≡ test (rising (u ∷ v ∷ []))
  wanted-rising u v = elim (cases_Bool (nat_lt v u)) [
    | inl e ↦ rw e (wanted-swap t i corners (point_at points u) (point_at points v))
    | inr e ↦ rw e refl
  ]

  kept : (b : Bool) (u v : ℕ) (es : List (List ℕ)) → b ≡ wants u v → edge_if b u v ++ filter test es ≡ filter test (rising (u ∷ v ∷ []) ∷ es)
  kept b u v es e = ap (λ (c : Bool). edge_if c u v ++ filter test es) (e ∙ wanted-rising u v) ∙ one (rising (u ∷ v ∷ []))
    where
      one : (x : List ℕ) → (if test x then x ∷ [] else []) ++ filter test es ≡ filter test (x ∷ es)
      one x = elim (cases_Bool (test x)) [ inl f ↦ rw f refl | inr f ↦ rw f refl ]

-- ---- the six edges, by tests of the corners
pub wanted-pairs : (points : List Point) (t : Tri) (i : ℕ) (x : List ℕ) (ps : List Point) (o : Point) (ab ac ad bc bd cd : Bool) → length x ≡ 4 → ps ≡ points_of points x
    → ab ≡ is_wanted t i ps (get_or ps 0 o ∷ get_or ps 1 o ∷ []) → ac ≡ is_wanted t i ps (get_or ps 0 o ∷ get_or ps 2 o ∷ []) → ad ≡ is_wanted t i ps (get_or ps 0 o ∷ get_or ps 3 o ∷ [])
    → bc ≡ is_wanted t i ps (get_or ps 1 o ∷ get_or ps 2 o ∷ []) → bd ≡ is_wanted t i ps (get_or ps 1 o ∷ get_or ps 3 o ∷ []) → cd ≡ is_wanted t i ps (get_or ps 2 o ∷ get_or ps 3 o ∷ [])
    → edge_if ab (get_or x 0 0) (get_or x 1 0) ++ (edge_if ac (get_or x 0 0) (get_or x 2 0) ++ (edge_if ad (get_or x 0 0) (get_or x 3 0)
    ++ (edge_if bc (get_or x 1 0) (get_or x 2 0) ++ (edge_if bd (get_or x 1 0) (get_or x 3 0) ++ (edge_if cd (get_or x 2 0) (get_or x 3 0) ++ []))))) ≡ wanted_in points t i x
unfolding wanted_in
wanted-pairs points t i [] ps o ab ac ad bc bd cd l is e f g h k m = cc l
wanted-pairs points t i (a ∷ []) ps o ab ac ad bc bd cd l is e f g h k m = cc l
wanted-pairs points t i (a ∷ b ∷ []) ps o ab ac ad bc bd cd l is e f g h k m = cc l
wanted-pairs points t i (a ∷ b ∷ c ∷ []) ps o ab ac ad bc bd cd l is e f g h k m = cc l
wanted-pairs points t i (a ∷ b ∷ c ∷ d ∷ u ∷ x) ps o ab ac ad bc bd cd l is e f g h k m = cc l
wanted-pairs points t i (a ∷ b ∷ c ∷ d ∷ []) ps o ab ac ad bc bd cd l is e f g h k m =
    let corners = points_of points (a ∷ b ∷ c ∷ d ∷ []) in
    let at : (u v : ℕ) → is_wanted t i ps (get_or ps u o ∷ get_or ps v o ∷ []) ≡ is_wanted t i corners (get_or corners u o ∷ get_or corners v o ∷ []) =
    λ u v. ap (λ qs. is_wanted t i qs (get_or qs u o ∷ get_or qs v o ∷ [])) is in
    let one = kept points t i corners in
    let pair : (u v : ℕ) → List ℕ = λ u v. rising (u ∷ v ∷ []) in
    let from_cd = one cd c d [] (m ∙ at 2 3) in
    let from_bd = ap (λ ys. edge_if bd b d ++ ys) from_cd ∙ one bd b d (pair c d ∷ []) (k ∙ at 1 3) in
    let from_bc = ap (λ ys. edge_if bc b c ++ ys) from_bd ∙ one bc b c (pair b d ∷ pair c d ∷ []) (h ∙ at 1 2) in
    let from_ad = ap (λ ys. edge_if ad a d ++ ys) from_bc ∙ one ad a d (pair b c ∷ pair b d ∷ pair c d ∷ []) (g ∙ at 0 3) in
    let from_ac = ap (λ ys. edge_if ac a c ++ ys) from_ad ∙ one ac a c (pair a d ∷ pair b c ∷ pair b d ∷ pair c d ∷ []) (f ∙ at 0 2) in
    ap (λ ys. edge_if ab a b ++ ys) from_ac ∙ one ab a b (pair a c ∷ pair a d ∷ pair b c ∷ pair b d ∷ pair c d ∷ []) (e ∙ at 0 1)

-- ---- the signs of the corners
-- the sign at a place is that of the corner there
pub sign-at : (t : Tri) (ps : List Point) (signs : List ℤ) (k : ℕ) (o : Point) → signs ≡ signs_at t ps → k < length ps → get_or signs k (pos 0) ≡ snap_sign (section_plane t) (get_or ps k o)
sign-at t ps signs k o e lt = ap (λ ss. get_or ss k (pos 0)) e ∙ get_or-map (snap_sign (section_plane t)) ps k o (pos 0) lt

-- in a crossed tetrahedron the first phase wants the edges whose ends have opposite signs
pub crossed-pair : (t : Tri) (ps : List Point) (s r : ℤ) (p q : Point) → is_crossed t ps ≡ true → s ≡ snap_sign (section_plane t) p → r ≡ snap_sign (section_plane t) q → are_opposite s r ≡ is_wanted t 0 ps (p ∷ q ∷ [])
unfolding lies_below lies_above
crossed-pair t ps s r p q crossed e f =
    (λ j. are_opposite (e j) (f j))
    ∙ (ends (lies_below (section_plane t) p) (lies_below (section_plane t) q) (lies_above (section_plane t) p) (lies_above (section_plane t) q)
    ∙ sym (wanted-first t ps (p ∷ q ∷ []) crossed))
  where
    or-false : (b : Bool) → b ≡ (b || false)
    or-false true = refl
    or-false false = refl

    ends : (a b c d : Bool) → ((a || b) && (c || d)) ≡ ((a || (b || false)) && (c || (d || false)))
    ends a b c d = λ j. (a || or-false b j) && (c || or-false d j)

-- a later phase wants those whose ends are on the plane and pass the other tests
pub along-pair : (t : Tri) (i : ℕ) (ps : List Point) (s r : ℤ) (p q : Point) → 0 < i → s ≡ snap_sign (section_plane t) p → r ≡ snap_sign (section_plane t) q
    → wants_along t i s r (p ∷ q ∷ []) ≡ is_wanted t i ps (p ∷ q ∷ [])
unfolding lies_on
along-pair t i ps s r p q later e f =
    let ends = p ∷ q ∷ [] in
    (λ j. wants_along t i (e j) (f j) ends)
    ∙ (move (lies_on (section_plane t) p) (lies_on (section_plane t) q) (splits (phase_plane t i) ends) (reaches t ends && boxes_meet ends t.0)
    ∙ sym (wanted-later t i ps ends later))
  where
    move : (a b c d : Bool) → ((a && b) && (c && d)) ≡ (c && ((a && (b && true)) && d))
    move true true true d = refl
    move true true false d = refl
    move true false true d = refl
    move true false false d = refl
    move false b true d = refl
    move false b false d = refl

-- a point on the plane is in the section where it lies below no side
pub section-sign : (t : Tri) (s : ℤ) (p : Point) → s ≡ snap_sign (section_plane t) p → (int_eq s (pos 0) && list_all (λ i. not (lies_below (side_plane t i) p)) three_sides) ≡ is_in_section t p
unfolding is_in_section lies_on
section-sign t s p e = ap (λ (z : ℤ). int_eq z (pos 0) && list_all (λ i. not (lies_below (side_plane t i) p)) three_sides) e
