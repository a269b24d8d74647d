-- Wanted edges: none far from the triangle, and each with ends on both sides of the plane.
use Rattle.std.proofs.Common.{◌≡◌, ◌⊎◌, ℕ, zero, suc, ℤ, pos, negsuc, ◌<◌, Bool, true, false, ◌&&◌, ◌||◌, if◌then◌else◌, nat_lt, nat_eq, int_le, List, [], ◌∷◌, map, length, All, refl, sym, ◌∙◌, subst, inl, inr, arith}
use Rattle.std.specs.Int.{int_signum}
use Rattle.std.specs.Int.Signed.{lt_z}
use Rattle.std.specs.List.{flat_map, filter, list_all, list_any, AllByRecursion as Each}
use Rattle.std.proofs.lemmas.Bool.{cases_Bool, false_from_ne_true, true≢false, or_left, or_right, or_cases, and_parts, and_from, and_left}
use Rattle.std.proofs.lemmas.Int.{ints}
use Rattle.std.proofs.lemmas.Bool.Decides.{nat_tests}
use Rattle.std.proofs.lemmas.List.Elements.{recursion_from_All}
use Rattle.grid.specs.declared.shapes.Point.{Point}
use Rattle.grid.specs.declared.shapes.Tri.{Tri}
use Rattle.grid.specs.Determinants.{point_at}
use Rattle.grid.specs.Planes.{Plane, side_plane, value_of, snap_sign}
use Rattle.grid.specs.Simplices.{rising, IsTet, AreDifferent}
use Rattle.planes.specs.Crossings.{HaveOppositeSigns}
use Rattle.planes.proofs.ForCallers.{HaveOppositeSigns-up, HaveOppositeSigns-down}
use Rattle.mesh_types.specs.CuttingRule.{lies_below, lies_above, lies_on, splits, ranges_meet, boxes_meet, section_plane, phase_plane, is_crossed, is_wanted}
use Rattle.mesh_types.specs.Phases.{points_of, edges, wanted_in}
use Rattle.mesh_types.specs.Tracking.{in_order_once}
use Rattle.grid.proofs.ForCallers.{Each-of_flat_map, any-map}
use Rattle.mesh_types.proofs.ForCallers.{Each-in_order_once}
use Rattle.cutting_rule.specs.Edges.{IsSplitEdge}

-- ---- ends on both sides of a plane
sign-below : (m : Plane) (p : Point) → lies_below m p ≡ true → snap_sign m p ≡ negsuc 0
unfolding lies_below snap_sign
sign-below m p = from _ (value_of m p)
  where
    from : (b : Bool) (v : ℤ) → lt_z (if b then int_signum v else pos 0) (pos 0) ≡ true → (if b then int_signum v else pos 0) ≡ negsuc 0
    from true (pos zero) e = cc
    from true (pos (suc n)) e = let none : ⊥ = grind (arith, ints) in absurd none
    from true (negsuc n) e = refl
    from false v e = cc

sign-above : (m : Plane) (p : Point) → lies_above m p ≡ true → snap_sign m p ≡ pos 1
unfolding lies_above snap_sign
sign-above m p = from _ (value_of m p)
  where
    from : (b : Bool) (v : ℤ) → lt_z (pos 0) (if b then int_signum v else pos 0) ≡ true → (if b then int_signum v else pos 0) ≡ pos 1
    from true (pos zero) e = cc
    from true (pos (suc n)) e = grind (arith, ints)
    from true (negsuc n) e = cc
    from false v e = cc

pub not-both : (m : Plane) (p : Point) → lies_below m p ≡ true → lies_above m p ≡ true → ⊥
not-both m p b a = let e : negsuc 0 ≡ pos 1 = sym (sign-below m p b) ∙ sign-above m p a in cc

pub opposite : (m : Plane) (p q : Point) → splits m (p ∷ q ∷ []) ≡ true → HaveOppositeSigns m p q
opposite m p q s = at (lies_below m p) (lies_below m q) (lies_above m p) (lies_above m q) refl refl refl refl s
  where
    at : (a b c d : Bool) → lies_below m p ≡ a → lies_below m q ≡ b → lies_above m p ≡ c → lies_above m q ≡ d → ((a || (b || false)) && (c || (d || false))) ≡ true → HaveOppositeSigns m p q
    at true b c true ea eb ec ed h = HaveOppositeSigns-up m p q (sign-below m p ea) (sign-above m q ed)
    at a true true d ea eb ec ed h = HaveOppositeSigns-down m p q (sign-above m p ec) (sign-below m q eb)
    at true b true false ea eb ec ed h = absurd (not-both m p ea ec)
    at true b false false ea eb ec ed h = cc
    at false true false true ea eb ec ed h = absurd (not-both m q eb ed)
    at false true false false ea eb ec ed h = cc
    at false false c d ea eb ec ed h = cc

-- ---- members
-- a is in x
abbrev In : List ℕ → ℕ → Type 0
In x a = (test : ℕ → Bool) → test a ≡ true → list_any test x ≡ true

at_first : (a : ℕ) (x : List ℕ) → In (a ∷ x) a
at_first a x test e = or_left (test a) (list_any test x) e

later : (a b : ℕ) (x : List ℕ) → In x b → In (a ∷ x) b
later a b x h test e = or_right (test a) (list_any test x) (h test e)

-- all of e are in x
abbrev pub AreIn : List ℕ → List ℕ → Type 0
AreIn x e = (test : ℕ → Bool) → list_any test e ≡ true → list_any test x ≡ true

both_in : (x : List ℕ) (a b : ℕ) → In x a → In x b → AreIn x (a ∷ b ∷ [])
both_in x a b ia ib test e = elim (or_cases (test a) (test b || false) e) [
  | inl h ↦ ia test h
  | inr h ↦ elim (or_cases (test b) false h) [ inl g ↦ ib test g | inr g ↦ absurd (true≢false (sym g)) ]
]

pair_in : (x : List ℕ) (a b : ℕ) → In x a → In x b → AreIn x (rising (a ∷ b ∷ []))
pair_in x a b ia ib = elim (cases_Bool (nat_lt b a)) [
  | inl e ↦ rw e (both_in x b a ib ia)
  | inr e ↦ rw e (both_in x a b ia ib)
]

pub edges_in : (x : List ℕ) → Each (AreIn x) (edges x)
edges_in (a ∷ b ∷ c ∷ d ∷ []) =
    let x = a ∷ b ∷ c ∷ d ∷ [] in
    let ia : In x a = at_first a (b ∷ c ∷ d ∷ []) in
    let ib : In x b = later a b (b ∷ c ∷ d ∷ []) (at_first b (c ∷ d ∷ [])) in
    let ic : In x c = later a c (b ∷ c ∷ d ∷ []) (later b c (c ∷ d ∷ []) (at_first c (d ∷ []))) in
    let id : In x d = later a d (b ∷ c ∷ d ∷ []) (later b d (c ∷ d ∷ []) (later c d (d ∷ []) (at_first d []))) in
    (pair_in x a b ia ib, (pair_in x a c ia ic, (pair_in x a d ia id, (pair_in x b c ib ic, (pair_in x b d ib id, (pair_in x c d ic id, tt))))))
edges_in x = tt

-- ---- boxes
any-more : (points : List Point) (f : Point → ℤ) (test : ℤ → Bool) (x e : List ℕ) → AreIn x e → list_any test (map f (points_of points e)) ≡ true → list_any test (map f (points_of points x)) ≡ true
any-more points f test x e h a =
    let through : (y : List ℕ) → list_any test (map f (points_of points y)) ≡ list_any (λ c. test (f (point_at points c))) y = λ y. any-map test f (points_of points y) ∙ any-map (λ p. test (f p)) (point_at points) y in
    through x ∙ h (λ c. test (f (point_at points c))) (sym (through e) ∙ a)

ranges-more : (points : List Point) (f : Point → ℤ) (ws : List ℤ) (x e : List ℕ) → AreIn x e → ranges_meet (map f (points_of points e)) ws ≡ true → ranges_meet (map f (points_of points x)) ws ≡ true
ranges-more points f ws x e h a =
    and_from _ _
    (any-more points f (λ v. list_any (λ w. int_le v w) ws) x e h (and_parts _ _ a).0)
    (any-more points f (λ v. list_any (λ w. int_le w v) ws) x e h (and_parts _ _ a).1)

boxes-more : (points qs : List Point) (x e : List ℕ) → AreIn x e → boxes_meet (points_of points e) qs ≡ true → boxes_meet (points_of points x) qs ≡ true
unfolding boxes_meet
boxes-more points qs x e h a =
    and_from _ _
    (and_from _ _
    (ranges-more points (λ p. p.x) (map (λ p. p.x) qs) x e h (and_parts _ _ (and_parts _ _ a).0).0)
    (ranges-more points (λ p. p.y) (map (λ p. p.y) qs) x e h (and_parts _ _ (and_parts _ _ a).0).1))
    (ranges-more points (λ p. p.z) (map (λ p. p.z) qs) x e h (and_parts _ _ a).1)

-- ---- a phase wants no edge of a tetrahedron whose box does not meet the triangle's
false-and3 : (p q r s : Bool) → p ≡ false → (p && q && r && s) ≡ false
false-and3 p q r s e = rw e refl

false-and2 : (p q r : Bool) → p ≡ false → (p && q && r) ≡ false
false-and2 p q r e = rw e refl

unwanted : (points : List Point) (t : Tri) (i : ℕ) (x e : List ℕ) → boxes_meet (points_of points x) t.0 ≡ false → AreIn x e → is_wanted t i (points_of points x) (points_of points e) ≡ false
unfolding is_wanted
unwanted points t zero x e h among = and_left _ _ (false-and2 _ _ _ h)
unwanted points t (suc i) x e h among =
    false-and3 _ _ _ _ (false_from_ne_true (boxes_meet (points_of points e) t.0) (λ a. true≢false (sym (boxes-more points t.0 x e among a) ∙ h)))

pub filter-none : (test : List ℕ → Bool) (P : List ℕ → Type 0) → ((e : List ℕ) → P e → test e ≡ false) → (es : List (List ℕ)) → Each P es → filter test es ≡ []
filter-none test P f [] h = refl
filter-none test P f (e ∷ es) h = rw (f e h.0) (filter-none test P f es h.1)

pub far-none : (points : List Point) (t : Tri) (i : ℕ) (x : List ℕ) → boxes_meet (points_of points x) t.0 ≡ false → wanted_in points t i x ≡ []
unfolding wanted_in
far-none points t i x h = filter-none _ (AreIn x) (λ e among. unwanted points t i x e h among) (edges x) (edges_in x)

-- the first phase wants none of a tetrahedron that is not crossed
pub uncrossed-none : (points : List Point) (t : Tri) (x : List ℕ) → is_crossed t (points_of points x) ≡ false → wanted_in points t 0 x ≡ []
unfolding wanted_in is_wanted
uncrossed-none points t x h = filter-none _ (AreIn x) (λ e among. and_left _ _ h) (edges x) (edges_in x)

-- a later phase wants none of a tetrahedron that has no corner on the triangle's plane, or that its plane does not split
pub any-points : (points : List Point) (test : Point → Bool) (x e : List ℕ) → AreIn x e → list_any test (points_of points e) ≡ true → list_any test (points_of points x) ≡ true
any-points points test x e h a =
    any-map test (point_at points) x ∙ h (λ c. test (point_at points c)) (sym (any-map test (point_at points) e) ∙ a)

some-of_all : (p q : Point → Bool) (ps : List Point) → list_any p ps ≡ true → list_all q ps ≡ true → list_any q ps ≡ true
some-of_all p q [] a b = a
some-of_all p q (x ∷ ps) a b = or_left (q x) (list_any q ps) (and_parts (q x) (list_all q ps) b).0

may-want : (points : List Point) (t : Tri) (i : ℕ) (x e : List ℕ) → AreIn x e → is_wanted t (suc i) (points_of points x) (points_of points e) ≡ true → (list_any (lies_on (section_plane t)) (points_of points x) && splits (side_plane t i) (points_of points x)) ≡ true
unfolding is_wanted
may-want points t i x e among h =
    let apart = (and_parts (boxes_meet (points_of points e) t.0 && list_all (lies_on (section_plane t)) (points_of points e)) (splits (side_plane t i) (points_of points e)) (and_parts _ _ h).0).1 in
    let on = (and_parts (boxes_meet (points_of points e) t.0) (list_all (lies_on (section_plane t)) (points_of points e)) (and_parts _ _ (and_parts _ _ h).0).0).1 in
    let below = (and_parts (list_any (lies_below (side_plane t i)) (points_of points e)) (list_any (lies_above (side_plane t i)) (points_of points e)) apart).0 in
    let above = (and_parts (list_any (lies_below (side_plane t i)) (points_of points e)) (list_any (lies_above (side_plane t i)) (points_of points e)) apart).1 in
    and_from _ _
    (any-points points (lies_on (section_plane t)) x e among (some-of_all (lies_below (side_plane t i)) (lies_on (section_plane t)) (points_of points e) below on))
    (and_from _ _ (any-points points (lies_below (side_plane t i)) x e among below) (any-points points (lies_above (side_plane t i)) x e among above))

pub later-none : (points : List Point) (t : Tri) (i : ℕ) (x : List ℕ) → 0 < i → (list_any (lies_on (section_plane t)) (points_of points x) && splits (phase_plane t i) (points_of points x)) ≡ false → wanted_in points t i x ≡ []
unfolding wanted_in
later-none points t zero x l h = absurd (omega arith)
later-none points t (suc i) x l h =
    filter-none _ (AreIn x) (λ e among. false_from_ne_true (is_wanted t (suc i) (points_of points x) (points_of points e)) (λ a. true≢false (sym (may-want points t i x e among a) ∙ h))) (edges x) (edges_in x)

-- ---- a wanted edge has ends on both sides of the plane
record IsEdge (n : ℕ) (e : List ℕ) : Type 0 where
  u : ℕ
  v : ℕ
  is : e ≡ u ∷ v ∷ []
  rises : u < v
  in_range : v < n

edge-of : (n a b : ℕ) → (a ≡ b → ⊥) → a < n → b < n → IsEdge n (rising (a ∷ b ∷ []))
edge-of n a b differ ha hb = elim (cases_Bool (nat_lt b a)) [
  | inl e ↦ rw e (record { u = b; v = a; is = refl; rises = grind (arith, nat_tests); in_range = ha })
  | inr e ↦ rw e (record { u = a; v = b; is = refl; rises = below a b differ e; in_range = hb })
]
  where
    below : (a b : ℕ) → (a ≡ b → ⊥) → nat_lt b a ≡ false → a < b
    below a b differ e = let le : (a < b) ⊎ (a ≡ b) = grind (arith, nat_tests) in elim le [ inl l ↦ l | inr f ↦ absurd (differ f) ]

apart : (x : List ℕ) (a b : ℕ) → list_any (λ y. nat_eq y a) x ≡ false → In x b → a ≡ b → ⊥
apart x a b absent ib e = true≢false (sym (ib (λ y. nat_eq y a) (subst (λ c. nat_eq b c ≡ true) (sym e) (same b))) ∙ absent)
  where
    same : (b : ℕ) → nat_eq b b ≡ true
    same b = grind (arith, nat_tests)

edges_are : (n : ℕ) (x : List ℕ) → AreDifferent x → Each (λ c. c < n) x → Each (IsEdge n) (edges x)
edges_are n (a ∷ b ∷ c ∷ d ∷ []) differ low =
    let b_in : In (b ∷ c ∷ d ∷ []) b = at_first b (c ∷ d ∷ []) in
    let c_in : In (b ∷ c ∷ d ∷ []) c = later b c (c ∷ d ∷ []) (at_first c (d ∷ [])) in
    let d_in : In (b ∷ c ∷ d ∷ []) d = later b d (c ∷ d ∷ []) (later c d (d ∷ []) (at_first d [])) in
    let c_2 : In (c ∷ d ∷ []) c = at_first c (d ∷ []) in
    let d_2 : In (c ∷ d ∷ []) d = later c d (d ∷ []) (at_first d []) in (
      edge-of n a b (apart (b ∷ c ∷ d ∷ []) a b differ.0 b_in) low.0 low.1.0,
      (
        edge-of n a c (apart (b ∷ c ∷ d ∷ []) a c differ.0 c_in) low.0 low.1.1.0,
        (
          edge-of n a d (apart (b ∷ c ∷ d ∷ []) a d differ.0 d_in) low.0 low.1.1.1.0,
          (
            edge-of n b c (apart (c ∷ d ∷ []) b c differ.1.0 c_2) low.1.0 low.1.1.0,
            (
              edge-of n b d (apart (c ∷ d ∷ []) b d differ.1.0 d_2) low.1.0 low.1.1.1.0,
              (edge-of n c d (apart (d ∷ []) c d differ.1.1.0 (at_first d [])) low.1.1.0 low.1.1.1.0, tt),
            ),
          ),
        ),
      ),
    )
edges_are n x differ low = tt

wanted-splits : (t : Tri) (i : ℕ) (corners ends : List Point) → is_wanted t i corners ends ≡ true → splits (phase_plane t i) ends ≡ true
unfolding is_wanted
wanted-splits t zero corners ends h = (and_parts _ _ h).1
wanted-splits t (suc i) corners ends h = (and_parts _ _ (and_parts _ _ h).0).1

filter-each : (points : List Point) (t : Tri) (i : ℕ) (x : List ℕ) (es : List (List ℕ)) → Each (IsEdge (length points)) es → Each (IsSplitEdge points (phase_plane t i)) (filter (λ e. is_wanted t i (points_of points x) (points_of points e)) es)
filter-each points t i x [] h = tt
filter-each points t i x (e ∷ es) h = elim (cases_Bool (is_wanted t i (points_of points x) (points_of points e))) [
  | inl a ↦ rw a (record { u = h.0.u; v = h.0.v; is = h.0.is; rises = h.0.rises; in_range = h.0.in_range; apart = wanted-splits t i (points_of points x) (points_of points e) a }, filter-each points t i x es h.1)
  | inr a ↦ rw a (filter-each points t i x es h.1)
]

wanted_in-each : (points : List Point) (t : Tri) (i : ℕ) (x : List ℕ) → IsTet (length points) x → Each (IsSplitEdge points (phase_plane t i)) (wanted_in points t i x)
unfolding wanted_in
wanted_in-each points t i x h = filter-each points t i x (edges x) (edges_are (length points) x h.different (recursion_from_All (λ c. c < length points) x h.in_range))

-- each wanted edge
pub wanted-each : (points : List Point) (t : Tri) (i : ℕ) (tets : List (List ℕ)) → All (IsTet (length points)) tets → Each (IsSplitEdge points (phase_plane t i)) (in_order_once (flat_map (wanted_in points t i) tets))
wanted-each points t i tets h =
    Each-in_order_once (IsSplitEdge points (phase_plane t i)) (flat_map (wanted_in points t i) tets)
    (Each-of_flat_map (IsTet (length points)) (IsSplitEdge points (phase_plane t i)) (wanted_in points t i) (wanted_in-each points t i) tets (recursion_from_All (IsTet (length points)) tets h))
