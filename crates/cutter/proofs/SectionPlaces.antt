-- Tetrahedra far from a triangle have no section faces.
use Rattle.std.proofs.Common.{◌≡◌, ℕ, zero, suc, ℤ, ◌≤◌, ◌≤ℤ◌, Bool, true, false, not, ◌&&◌, ◌||◌, int_le, List, [], ◌∷◌, map, length, All, refl, sym, ap, ◌∙◌, subst, inl, inr, arith}
use Rattle.std.specs.List.{list_any, list_all, AllByRecursion as Each}
use Rattle.std.proofs.lemmas.Bool.{cases_lt, or_cases, or_left, or_right, true≢false, false_from_ne_true, and_parts, and_from}
use Rattle.std.proofs.lemmas.Int.{ints}
use Rattle.grid.specs.declared.shapes.Point.{Point}
use Rattle.grid.specs.declared.shapes.Tri.{Tri}
use Rattle.grid.specs.Boxes.{IsInBox}
use Rattle.grid.specs.Determinants.{point_at, origin}
use Rattle.grid.specs.Planes.{Plane, side_plane}
use Rattle.grid.specs.Simplices.{faces, rising}
use Rattle.grid.specs.Limits.{largest_side}
use Rattle.grid.proofs.ForCallers.{any-map}
use Rattle.mesh_types.specs.CuttingRule.{is_in_section, lies_above, lies_below, lies_on, splits, section_plane, three_sides}
use Rattle.mesh_types.specs.Phases.{points_of, is_section_face}
use Rattle.cutting_rule.specs.Bounds.{overlaps, is_met}
use Rattle.cutting_rule.specs.Section.{section_in, IsWithin}
use Rattle.cutting_rule.specs.Touching.{touches, has_some_within, IsReach}
use Rattle.cutting_rule.proofs.ForCallers.{filter-none, le-true, on-sides}

-- the first corner of a face is one of the tetrahedron's
record Begins (x f : List ℕ) : Type 0 where
  first : ℕ
  others : List ℕ
  is : f ≡ first ∷ others
  there : (test : ℕ → Bool) → test first ≡ true → list_any test x ≡ true

faces-begin : (x : List ℕ) → Each (Begins x) (faces x)
faces-begin (a ∷ b ∷ c ∷ d ∷ []) =
    let x = a ∷ b ∷ c ∷ d ∷ [] in
    let ia : (test : ℕ → Bool) → test a ≡ true → list_any test x ≡ true = λ test e. or_left (test a) (list_any test (b ∷ c ∷ d ∷ [])) e in
    let ib : (test : ℕ → Bool) → test b ≡ true → list_any test x ≡ true = λ test e. or_right (test a) (list_any test (b ∷ c ∷ d ∷ [])) (or_left (test b) (list_any test (c ∷ d ∷ [])) e) in
    (record { first = a; others = c ∷ b ∷ []; is = refl; there = ia }, (record { first = a; others = b ∷ d ∷ []; is = refl; there = ia }, (record { first = a; others = d ∷ c ∷ []; is = refl; there = ia }, (record { first = b; others = c ∷ d ∷ []; is = refl; there = ib }, tt))))
faces-begin x = tt

module _ (points : List Point) (x : List ℕ) (c : ℕ) (there : (test : ℕ → Bool) → test c ≡ true → list_any test x ≡ true) where
  any-point : (test : Point → Bool) → test (point_at points c) ≡ true → list_any test (points_of points x) ≡ true
  any-point test e = any-map test (point_at points) x ∙ there (λ u. test (point_at points u)) e

  overlaps-point : (f : Point → ℤ) (lo hi : ℤ) → lo ≤ℤ f (point_at points c) → f (point_at points c) ≤ℤ hi → overlaps f lo hi (points_of points x) ≡ true
  overlaps-point f lo hi a b =
      and_from _ _ (any-point (λ p. int_le (f p) hi) (le-true _ hi b)) (any-point (λ p. int_le lo (f p)) (le-true lo _ a))

  meets-point : (lo hi : Point) → IsWithin lo hi (point_at points c) → is_met lo hi (points_of points x) ≡ true
  meets-point lo hi h =
      and_from _ _ (and_from _ _ (overlaps-point (λ p. p.x) lo.x hi.x h.x_low h.x_high) (overlaps-point (λ p. p.y) lo.y hi.y h.y_low h.y_high))
      (overlaps-point (λ p. p.z) lo.z hi.z h.z_low h.z_high)

point-in : (n : ℕ) (points : List Point) → All (IsInBox n) points → (c : ℕ) → IsInBox n (point_at points c)
point-in n points h c = elim (cases_lt c (length points)) [
  | inl lt ↦ h c origin lt
  | inr le ↦ subst (IsInBox n) (sym (past points c le)) (record { x_in = record { low = omega (arith, ints); high = omega (arith, ints) }; y_in = record { low = omega (arith, ints); high = omega (arith, ints) }; z_in = record { low = omega (arith, ints); high = omega (arith, ints) } })
]
  where
    past : (points : List Point) (c : ℕ) → length points ≤ c → point_at points c ≡ origin
    past [] c le = refl
    past (p ∷ points) zero le = absurd (omega arith)
    past (p ∷ points) (suc c) le = past points c (omega arith)

-- what is in the section touches the triangle
on-plane : (t : Tri) (p : Point) → is_in_section t p ≡ true → lies_on (section_plane t) p ≡ true
unfolding is_in_section
on-plane t p e = (and_parts _ _ e).0

not-below : (m : Plane) (p : Point) → not (lies_below m p) ≡ true → (lies_on m p || lies_above m p) ≡ true
not-below m p e = ap (λ (b : Bool). b || lies_above m p) (on-sides m p) ∙ at (lies_below m p) (lies_above m p) e
  where
    at : (a b : Bool) → not a ≡ true → ((not a && not b) || b) ≡ true
    at true b e = cc
    at false true e = refl
    at false false e = refl

within-sides : (t : Tri) (p : Point) → is_in_section t p ≡ true → list_all (λ i. not (lies_below (side_plane t i) p)) three_sides ≡ true
unfolding is_in_section
within-sides t p e = (and_parts (lies_on (section_plane t) p) _ e).1

touched : (points : List Point) (t : Tri) (x : List ℕ) (c : ℕ) → ((test : ℕ → Bool) → test c ≡ true → list_any test x ≡ true) → is_in_section t (point_at points c) ≡ true → touches t (points_of points x) ≡ true
touched points t x c there e =
    let p = point_at points c in
    let sides = within-sides t p e in
    let within : (i : ℕ) → not (lies_below (side_plane t i) p) ≡ true → has_some_within (side_plane t i) (points_of points x) ≡ true =
    λ i a. elim (or_cases (lies_on (side_plane t i) p) (lies_above (side_plane t i) p) (not-below (side_plane t i) p a)) [
      | inl b ↦ or_left _ (list_any (lies_above (side_plane t i)) (points_of points x)) (any-point points x c there (lies_on (side_plane t i)) b)
      | inr b ↦ or_right (list_any (lies_on (side_plane t i)) (points_of points x)) _ (any-point points x c there (lies_above (side_plane t i)) b)
    ] in
    let others = (and_parts (not (lies_below (side_plane t 0) p)) _ sides).1 in
    let last = (and_parts (not (lies_below (side_plane t 1) p)) _ others).1 in
    and_from _ _
    (and_from _ _
    (and_from _ _
    (or_left _ (splits (section_plane t) (points_of points x)) (any-point points x c there (lies_on (section_plane t)) (on-plane t p e)))
    (within 0 (and_parts _ _ sides).0))
    (within 1 (and_parts _ _ others).0))
    (within 2 (and_parts _ _ last).0)

-- a tetrahedron that a triangle does not touch
pub far-sections : (points : List Point) (t : Tri) (lo hi : Point) (x : List ℕ) → All (IsInBox largest_side) points → IsReach t lo hi → (is_met lo hi (points_of points x) && touches t (points_of points x)) ≡ false → section_in points t x ≡ []
unfolding section_in
far-sections points t lo hi x inside reach far = ap (map rising) (filter-none (is_section_face points t) (Begins x) (λ f h.
    false_from_ne_true (is_section_face points t f) (λ e.
    let head : is_in_section t (point_at points h.first) ≡ true = (and_parts _ (list_all (is_in_section t) (points_of points h.others)) (subst (λ g. is_section_face points t g ≡ true) h.is e)).0 in
    let met : is_met lo hi (points_of points x) ≡ true = meets-point points x h.first h.there lo hi (reach.section (point_at points h.first) (point-in largest_side points inside h.first) head) in
    true≢false (sym (and_from _ _ met (touched points t x h.first h.there head)) ∙ far)))
    (faces x) (faces-begin x))
