-- The cuts of a phase after the first: each is an edge on the triangle's plane, of tetrahedra near the triangle.
use Rattle.std.proofs.Common.{◌≡◌, ◌≢◌, ℕ, suc, ◌*◌, ◌<◌, ◌≤◌, Bool, true, false, ◌&&◌, ◌||◌, nat_lt, List, [], ◌∷◌, ◌++◌, map, length, All, refl, sym, ap, ◌∙◌, subst, inl, inr, arith, length-append}
use Rattle.std.specs.List.{flat_map, filter, list_any, list_all, AllByRecursion as Each}
use Rattle.std.proofs.lemmas.Bool.{cases_Bool, and_parts, and_from, or_cases, or_left, or_right, true≢false}
use Rattle.std.proofs.lemmas.Bool.Decides.{nat_tests}
use Rattle.std.proofs.lemmas.List.{length-map}
use Rattle.std.proofs.lemmas.List.Elements.{recursion_from_All}
use Rattle.std.proofs.lemmas.List.Folds.{list_any-append}
use Rattle.grid.specs.declared.shapes.Point.{Point}
use Rattle.grid.specs.declared.shapes.Tri.{Tri}
use Rattle.grid.specs.Determinants.{point_at}
use Rattle.grid.specs.Meshes.{Mesh}
use Rattle.grid.specs.Planes.{Plane}
use Rattle.grid.specs.Simplices.{has, rising, IsTet}
use Rattle.mesh_types.specs.declared.cut.Cut.{Cut}
use Rattle.mesh_types.specs.CutLists.{IsCutBelow, ends_of}
use Rattle.mesh_types.specs.CuttingRule.{boxes_meet, lies_on, section_plane, phase_plane, is_wanted}
use Rattle.mesh_types.specs.Phases.{points_of, edges, cut_at, wanted_in, wanted, wanted_cuts}
use Rattle.mesh_types.specs.Refines.{is_touched}
use Rattle.mesh_types.specs.Tracking.{in_order_once}
use Rattle.cutting_rule.specs.Bounds.{is_met}
use Rattle.cutting_rule.specs.Touching.{touches, IsReach}
use Rattle.grid.proofs.ForCallers.{Each-weaker, Each-both, Each-of_flat_map, has_cases, any-map}
use Rattle.mesh_types.proofs.ForCallers.{Each-map, Each-filter, Each-passed, Each-in_order_once, any_among, has-among}
use Rattle.cutting_rule.proofs.ForCallers.{length-once, length-wanted_in, untouched-none, wanted_cuts-AreCuts}
use Rattle.insertion.proofs.FewPieces.{IsMarked}

-- a tetrahedron meets the box about the triangle and touches the triangle
abbrev pub is_near : List Point → Tri → Point → Point → List ℕ → Bool
is_near points t lo hi x = is_met lo hi (points_of points x) && touches t (points_of points x)

abbrev pub near_tets : List Point → Tri → Point → Point → List (List ℕ) → List (List ℕ)
near_tets points t lo hi xs = filter (is_near points t lo hi) xs

-- not all corners lie on the triangle's plane
abbrev pub HasCornerOff : List Point → Tri → List ℕ → Type 0
HasCornerOff points t x = list_all (lies_on (section_plane t)) (points_of points x) ≡ false

-- ---- the edge of two corners
abbrev pairs : List ℕ → List (List ℕ)
pairs [] = []
pairs (a ∷ x) = map (λ b. rising (a ∷ b ∷ [])) x ++ pairs x

rising-pair : (u v : ℕ) → u < v → rising (u ∷ v ∷ []) ≡ u ∷ v ∷ []
rising-pair u v lt = let e : nat_lt v u ≡ false = grind (arith, nat_tests) in rw e refl

rising-swapped : (u v : ℕ) → u < v → rising (v ∷ u ∷ []) ≡ u ∷ v ∷ []
rising-swapped u v lt = let e : nat_lt u v ≡ true = grind (arith, nat_tests) in rw e refl

module _ (test : List ℕ → Bool) (u v : ℕ) (rise : u < v) (yes : test (u ∷ v ∷ []) ≡ true) where
  any-first : (a b : ℕ) (x : List ℕ) → rising (a ∷ b ∷ []) ≡ u ∷ v ∷ [] → has x b ≡ true → list_any test (map (λ c. rising (a ∷ c ∷ [])) x) ≡ true
  any-first a b x e h = any-map test (λ c. rising (a ∷ c ∷ [])) x ∙ any_among (λ c. test (rising (a ∷ c ∷ []))) x b (has-among x b h) (ap test e ∙ yes)

  any-pair : (x : List ℕ) → has x u ≡ true → has x v ≡ true → list_any test (pairs x) ≡ true
  any-pair [] h g = h
  any-pair (a ∷ x) h g =
      let front = map (λ c. rising (a ∷ c ∷ [])) x in
      list_any-append test front (pairs x)
      ∙ elim (has_cases a x u h) [
        | inl e ↦ elim (has_cases a x v g) [
          | inl f ↦ absurd (omega (arith, e, f))
          | inr f ↦ or_left (list_any test front) (list_any test (pairs x)) (any-first a v x (ap (λ c. rising (c ∷ v ∷ [])) e ∙ rising-pair u v rise) f)
        ]
        | inr e ↦ elim (has_cases a x v g) [
          | inl f ↦ or_left (list_any test front) (list_any test (pairs x)) (any-first a u x (ap (λ c. rising (c ∷ u ∷ [])) f ∙ rising-swapped u v rise) e)
          | inr f ↦ or_right (list_any test front) (list_any test (pairs x)) (any-pair x e f)
        ]
      ]

  any-edge : (x : List ℕ) → length x ≡ 4 → has x u ≡ true → has x v ≡ true → list_any test (edges x) ≡ true
  any-edge [] l h g = h
  any-edge (a ∷ []) l h g = absurd (omega (arith, l))
  any-edge (a ∷ b ∷ []) l h g = absurd (omega (arith, l))
  any-edge (a ∷ b ∷ c ∷ []) l h g = absurd (omega (arith, l))
  any-edge (a ∷ b ∷ c ∷ d ∷ []) l h g = any-pair (a ∷ b ∷ c ∷ d ∷ []) h g
  any-edge (a ∷ b ∷ c ∷ d ∷ e ∷ x) l h g = absurd (omega (arith, l))

any-filter : (test : List ℕ → Bool) (es : List (List ℕ)) → list_any test es ≡ true → filter test es ≢ []
any-filter test [] h none = true≢false (sym h)
any-filter test (e ∷ es) h none = elim (cases_Bool (test e)) [
  | inl f ↦ let some : e ∷ filter test es ≡ [] = rw f at none in cc
  | inr f ↦ any-filter test es (sym (ap (λ b. b || list_any test es) f) ∙ h) (rw f at none)
]

-- ---- the cuts of phase i + 1
-- points below n, the lesser first, whose edge the phase wants in any tetrahedron that has it
pub record IsLaterCut (points : List Point) (t : Tri) (i : ℕ) (e : Cut) : Type 0 where
  pub below : IsCutBelow (length points) e
  pub wanted : is_wanted t (suc i) [] (points_of points (ends_of e)) ≡ true

-- whether a later phase wants an edge does not hang on the tetrahedron
pub other-corners : (t : Tri) (i : ℕ) (these those ends : List Point) → is_wanted t (suc i) these ends ≡ true → is_wanted t (suc i) those ends ≡ true
unfolding is_wanted
other-corners t i these those ends h = h

abbrev IsLaterEdge : List Point → Tri → ℕ → List ℕ → Type 0
IsLaterEdge points t i e = (ends_of (cut_at points (phase_plane t (suc i)) e) ≡ e) × (is_wanted t (suc i) [] (points_of points e) ≡ true)

module _ (points : List Point) (plane : Plane) where
  ends-pair : (a b : ℕ) → ends_of (cut_at points plane (rising (a ∷ b ∷ []))) ≡ rising (a ∷ b ∷ [])
  ends-pair a b = elim (cases_Bool (nat_lt b a)) [ inl e ↦ rw e refl | inr e ↦ rw e refl ]

  ends-edges : (x : List ℕ) → Each (λ e. ends_of (cut_at points plane e) ≡ e) (edges x)
  ends-edges (a ∷ b ∷ c ∷ d ∷ []) = (ends-pair a b, (ends-pair a c, (ends-pair a d, (ends-pair b c, (ends-pair b d, (ends-pair c d, tt))))))
  ends-edges x = tt

later-in : (points : List Point) (t : Tri) (i : ℕ) (x : List ℕ) → Each (IsLaterEdge points t i) (wanted_in points t (suc i) x)
unfolding wanted_in
later-in points t i x =
    let test : List ℕ → Bool = λ e. is_wanted t (suc i) (points_of points x) (points_of points e) in
    Each-both (λ e. ends_of (cut_at points (phase_plane t (suc i)) e) ≡ e) (λ e. is_wanted t (suc i) [] (points_of points e) ≡ true) (filter test (edges x))
    (Each-filter (λ e. ends_of (cut_at points (phase_plane t (suc i)) e) ≡ e) test (edges x) (ends-edges points (phase_plane t (suc i)) x))
    (Each-weaker (λ e. test e ≡ true) (λ e. is_wanted t (suc i) [] (points_of points e) ≡ true) (λ e h. other-corners t i (points_of points x) [] (points_of points e) h) (filter test (edges x)) (Each-passed test (edges x)))

later-wanted : (m : Mesh) (t : Tri) (i : ℕ) → All (IsTet (length m.points)) m.tets → Each (IsLaterEdge m.points t i) (wanted m t (suc i))
unfolding wanted
later-wanted m t i tets =
    Each-in_order_once (IsLaterEdge m.points t i) (flat_map (wanted_in m.points t (suc i)) m.tets)
    (Each-of_flat_map (IsTet (length m.points)) (IsLaterEdge m.points t i) (wanted_in m.points t (suc i)) (λ x h. later-in m.points t i x) m.tets (recursion_from_All (IsTet (length m.points)) m.tets tets))

later-ends : (m : Mesh) (t : Tri) (i : ℕ) → All (IsTet (length m.points)) m.tets → Each (λ e. is_wanted t (suc i) [] (points_of m.points (ends_of e)) ≡ true) (wanted_cuts m t (suc i))
unfolding wanted_cuts
later-ends m t i tets =
    Each-map (IsLaterEdge m.points t i) (λ e. is_wanted t (suc i) [] (points_of m.points (ends_of e)) ≡ true) (cut_at m.points (phase_plane t (suc i)))
    (λ e h. subst (λ f. is_wanted t (suc i) [] (points_of m.points f) ≡ true) (sym h.0) h.1) (wanted m t (suc i)) (later-wanted m t i tets)

pub later-cuts : (m : Mesh) (t : Tri) (i : ℕ) → All (IsTet (length m.points)) m.tets → Each (IsLaterCut m.points t i) (wanted_cuts m t (suc i))
later-cuts m t i tets =
    let es = wanted_cuts m t (suc i) in
    let k = length m.points in
    Each-weaker (λ e. IsCutBelow k e × (is_wanted t (suc i) [] (points_of m.points (ends_of e)) ≡ true)) (IsLaterCut m.points t i) (λ e h. record { below = h.0; wanted = h.1 }) es
    (Each-both (IsCutBelow k) (λ e. is_wanted t (suc i) [] (points_of m.points (ends_of e)) ≡ true) es
    (recursion_from_All (IsCutBelow k) es (wanted_cuts-AreCuts m t (suc i) tets).each) (later-ends m t i tets))

-- ---- the ends are on the plane
-- an old point on the triangle's plane
abbrev pub is_old_on : List Point → Tri → ℕ → Bool
is_old_on points t a = nat_lt a (length points) && lies_on (section_plane t) (point_at points a)

pub new-off : (points : List Point) (t : Tri) (n : ℕ) → length points ≤ n → is_old_on points t n ≡ false
new-off points t n le = let e : nat_lt n (length points) ≡ false = grind (arith, nat_tests) in rw e refl

pub off-off : (points : List Point) (t : Tri) (n : ℕ) → lies_on (section_plane t) (point_at points n) ≡ false → is_old_on points t n ≡ false
off-off points t n e = elim (cases_Bool (nat_lt n (length points))) [ inl f ↦ rw (f, e) refl | inr f ↦ rw f refl ]

ends-on : (t : Tri) (i : ℕ) (p q : Point) → is_wanted t (suc i) [] (p ∷ q ∷ []) ≡ true → (lies_on (section_plane t) p ≡ true) × (lies_on (section_plane t) q ≡ true)
unfolding is_wanted
ends-on t i p q h =
    let ends = p ∷ q ∷ [] in
    let on = (and_parts (boxes_meet ends t.0) (list_all (lies_on (section_plane t)) ends) (and_parts _ _ (and_parts _ _ h).0).0).1 in
    let second = (and_parts (lies_on (section_plane t) p) (lies_on (section_plane t) q && true) on).1 in
    ((and_parts (lies_on (section_plane t) p) (lies_on (section_plane t) q && true) on).0, (and_parts (lies_on (section_plane t) q) true second).0)

pub later-marked : (points : List Point) (t : Tri) (i : ℕ) (e : Cut) → IsLaterCut points t i e → IsMarked (is_old_on points t) e
later-marked points t i e h =
    let on = ends-on t i (point_at points e.u) (point_at points e.v) h.wanted in
    let rise = h.below.ends_rise in
    let low = h.below.in_range in
    let first : nat_lt e.u (length points) ≡ true = grind (arith, nat_tests) in
    let second : nat_lt e.v (length points) ≡ true = grind (arith, nat_tests) in
    record {
      first = and_from (nat_lt e.u (length points)) (lies_on (section_plane t) (point_at points e.u)) first on.0;
      second = and_from (nat_lt e.v (length points)) (lies_on (section_plane t) (point_at points e.v)) second on.1;
      differ = omega arith;
    }

-- ---- only near tetrahedra are cut
module _ (points : List Point) (t : Tri) (lo hi : Point) (i : ℕ) (reach : IsReach t lo hi) (x : List ℕ) (four : length x ≡ 4) where
  near-cut : (e : Cut) → IsLaterCut points t i e → (has x e.u && has x e.v) ≡ true → is_near points t lo hi x ≡ true
  unfolding wanted_in
  near-cut e h both = elim (cases_Bool (is_near points t lo hi x)) [
    | inl f ↦ f
    | inr f ↦
        let test : List ℕ → Bool = λ g. is_wanted t (suc i) (points_of points x) (points_of points g) in
        let p = and_parts (has x e.u) (has x e.v) both in
        absurd (any-filter test (edges x)
        (any-edge test e.u e.v h.below.ends_rise (other-corners t i [] (points_of points x) (points_of points (ends_of e)) h.wanted) x four p.0 p.1)
        (untouched-none points t lo hi (suc i) x reach f))
  ]

  pub near-touched : (es : List Cut) → Each (IsLaterCut points t i) es → is_touched es x ≡ true → is_near points t lo hi x ≡ true
  near-touched [] h e = absurd (true≢false (sym e))
  near-touched (c ∷ es) h e = elim (or_cases (has x c.u && has x c.v) (is_touched es x) e) [
    | inl f ↦ near-cut c h.0 f
    | inr f ↦ near-touched es h.1 f
  ]

-- ---- few cuts
few-all : (points : List Point) (t : Tri) (lo hi : Point) (i : ℕ) (xs : List (List ℕ)) → IsReach t lo hi → length (flat_map (wanted_in points t i) xs) ≤ 6 * length (near_tets points t lo hi xs)
few-all points t lo hi i [] reach = omega arith
few-all points t lo hi i (x ∷ xs) reach =
    let rest = few-all points t lo hi i xs reach in
    elim (cases_Bool (is_near points t lo hi x)) [
      | inl e ↦ rw e (omega (arith, rest, length-wanted_in points t i x, length-append (wanted_in points t i x) (flat_map (wanted_in points t i) xs)))
      | inr e ↦ rw (e, untouched-none points t lo hi i x reach e) rest
    ]

pub few-cuts : (m : Mesh) (t : Tri) (lo hi : Point) (i : ℕ) → IsReach t lo hi → length (wanted_cuts m t i) ≤ 6 * length (near_tets m.points t lo hi m.tets)
unfolding wanted_cuts wanted
few-cuts m t lo hi i reach =
    let all = flat_map (wanted_in m.points t i) m.tets in
    omega (arith, length-map (in_order_once all) (cut_at m.points (phase_plane t i)), length-once all, few-all m.points t lo hi i m.tets reach)
