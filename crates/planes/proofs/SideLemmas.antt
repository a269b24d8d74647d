-- The side planes of a triangle: the third corner of a triangle that is not degenerate has a positive value.
use Rattle.std.proofs.Common.{◌≡◌, ℕ, zero, suc, ◌+◌, ◌≤◌, ◌<◌, ◌%◌, Bool, true, false, ◌&&◌, nat_le, if◌then◌else◌, ℤ, pos, negsuc, neg_ℤ, ◌<ℤ◌, ◌≤ℤ◌, [], ◌∷◌, refl, sym, subst, ap, ◌∙◌, arith, not-suc-le-zero, zero-le}
use Rattle.std.proofs.lemmas.Int.{ints, by_lt_z}
use Rattle.std.specs.Int.Signed.{lt_z}
use Rattle.std.proofs.lemmas.Bool.{true≢false, leb-true, le-leb}
use lib.IntN.{nat_abs}
use Rattle.int_algebra.proofs.Laws.{linear}
use Rattle.int_algebra.proofs.Ring.{constant, ◌⊖◌, minus, ring}
use Rattle.int_algebra.proofs.Orders.{less_test}
use Rattle.int_algebra.proofs.Corners as corners
use Rattle.int_algebra.proofs.Corners.{corner, less}
use Rattle.grid.specs.declared.shapes.Point.{Point}
use Rattle.grid.specs.declared.shapes.Tri.{Tri}
use Rattle.grid.specs.Vectors.{Vector, no_vector, difference, dot, cross, opposite}
use Rattle.grid.specs.Planes.{largest_axis, unit_of, normal_of, IsDegenerate, side_across, side_plane, value_of}
use Rattle.grid.specs.Boxes.{along_x, along_y, along_z, corner_of}
use Rattle.grid.proofs.ForCallers.{coordinates_then}
use Rattle.planes.specs.Sides.{turned, side_of}

-- the product of three vectors changes its sign where two are swapped
cross-dot : (e a d : Vector) → dot (cross e a) d ≡ neg_ℤ (dot (cross e d) a)
unfolding dot
cross-dot e a d =
    let x = corner 0 in
    let y = corner 1 in
    let z = corner 2 in
    ring (coordinates_then (e ∷ a ∷ d ∷ []) []) (corners.dot (corners.cross x y) z) (minus (corners.dot (corners.cross x z) y)) refl

abs_zero : (v : ℤ) → nat_abs v ≤ 0 → v ≡ pos 0
abs_zero (pos zero) h = refl
abs_zero (pos (suc n)) h = absurd (not-suc-le-zero h)
abs_zero (negsuc n) h = absurd (not-suc-le-zero h)

module _ (m : Vector) where
  along_x-zero : dot m (unit_of along_x) ≡ pos 0 → m.x ≡ pos 0
  unfolding dot
  along_x-zero h = omega (arith, ints, h)

  along_y-zero : dot m (unit_of along_y) ≡ pos 0 → m.y ≡ pos 0
  unfolding dot
  along_y-zero h = omega (arith, ints, h)

  along_z-zero : dot m (unit_of along_z) ≡ pos 0 → m.z ≡ pos 0
  unfolding dot
  along_z-zero h = omega (arith, ints, h)

-- the largest component of a vector that is not zero is not zero
largest_component-zero : (m : Vector) → dot m (unit_of (largest_axis m)) ≡ pos 0 → m ≡ no_vector
largest_component-zero m = by_tests (nat_le (nat_abs m.y) (nat_abs m.x)) (nat_le (nat_abs m.z) (nat_abs m.x)) (nat_le (nat_abs m.z) (nat_abs m.y)) refl refl refl
  where
    zeros : m.x ≡ pos 0 → m.y ≡ pos 0 → m.z ≡ pos 0 → m ≡ no_vector
    zeros ex ey ez = λ i. record { x = ex i; y = ey i; z = ez i }

    none : (v w : ℤ) → v ≡ pos 0 → nat_le (nat_abs w) (nat_abs v) ≡ true → w ≡ pos 0
    none v w e t = abs_zero w (subst (λ z. nat_abs w ≤ nat_abs z) e (leb-true (nat_abs w) (nat_abs v) t))

    some : (v w : ℤ) → w ≡ pos 0 → nat_le (nat_abs w) (nat_abs v) ≡ false → ⊥
    some v w e t = true≢false (sym (le-leb 0 (nat_abs v) zero-le) ∙ sym (ap (λ z. nat_le (nat_abs z) (nat_abs v)) e) ∙ t)

    by_tests : (b c d : Bool) → nat_le (nat_abs m.y) (nat_abs m.x) ≡ b → nat_le (nat_abs m.z) (nat_abs m.x) ≡ c → nat_le (nat_abs m.z) (nat_abs m.y) ≡ d
        → dot m (unit_of (if b && c then along_x else (if d then along_y else along_z))) ≡ pos 0 → m ≡ no_vector
    by_tests true true d p q r h =
        let x = along_x-zero m h in
        zeros x (none m.x m.y x p) (none m.x m.z x q)
    by_tests true false true p q r h =
        let z = none m.y m.z (along_y-zero m h) r in
        absurd (some m.x m.z z q)
    by_tests true false false p q r h = absurd (some m.y m.z (along_z-zero m h) r)
    by_tests false c true p q r h = absurd (some m.x m.y (along_y-zero m h) p)
    by_tests false c false p q r h = absurd (some m.y m.z (along_z-zero m h) r)

-- ---- turned vectors
dot-opposite : (m d : Vector) → dot (opposite m) d ≡ neg_ℤ (dot m d)
unfolding dot
dot-opposite m d =
    let x = corner 0 in
    let y = corner 1 in
    let o = constant (pos 0) in
    ring (coordinates_then (m ∷ d ∷ []) []) (corners.dot (record { x = o ⊖ x.x; y = o ⊖ x.y; z = o ⊖ x.z }) y) (minus (corners.dot x y)) refl

abbrev chosen : Bool → Vector → Vector
chosen b m = if b then m else opposite m

turned-positive : (m d : Vector) → (dot m d ≡ pos 0 → ⊥) → pos 0 <ℤ dot (turned m d) d
turned-positive m d some = by_test (lt_z (pos 0) (dot m d)) refl
  where
    by_test : (b : Bool) → lt_z (pos 0) (dot m d) ≡ b → pos 0 <ℤ dot (chosen b m) d
    by_test true e = (less_test (pos 0) (dot m d)).0 e
    by_test false e =
        let le : dot m d ≤ℤ pos 0 = by_lt_z (pos 0) (dot m d) (λ h. absurd (true≢false (sym ((less_test (pos 0) (dot m d)).1 h) ∙ e))) (λ h. h) in
        let lt : dot m d <ℤ pos 0 = by_lt_z (dot m d) (pos 0) (λ h. h) (λ h. absurd (some (omega (arith, linear, le, h)))) in
        rw (dot-opposite m d) (omega (arith, linear, lt))

-- ---- the sides of a triangle
side_cross : (a b c : Point) → cross (difference c b) (difference a b) ≡ cross (difference b a) (difference c a)
side_cross a b c =
    let xs = coordinates_then (from a ∷ from b ∷ from c ∷ []) [] in
    let p = corners.cross (less (corner 2) (corner 1)) (less (corner 0) (corner 1)) in
    let q = corners.cross (less (corner 1) (corner 0)) (less (corner 2) (corner 0)) in
    let x = ring xs p.x q.x refl in
    let y = ring xs p.y q.y refl in
    let z = ring xs p.z q.z refl in
    λ i. record { x = x i; y = y i; z = z i }
  where
    from : Point → Vector
    from p = record { x = p.x; y = p.y; z = p.z }

-- the normal of a triangle is the same from each corner
normal_from : (t : Tri) (i : ℕ) → i < 3 → cross (difference (corner_of t ((i + 1) % 3)) (corner_of t i)) (difference (corner_of t ((i + 2) % 3)) (corner_of t i)) ≡ normal_of t
normal_from t zero h = refl
normal_from t (suc zero) h = side_cross (corner_of t 0) (corner_of t 1) (corner_of t 2)
normal_from t (suc (suc zero)) h = side_cross (corner_of t 1) (corner_of t 2) (corner_of t 0) ∙ side_cross (corner_of t 0) (corner_of t 1) (corner_of t 2)
normal_from t (suc (suc (suc n))) h =
    let none : ⊥ = omega (arith, h) in
    absurd none

pub side_plane-third : (t : Tri) (i : ℕ) → i < 3 → (IsDegenerate t → ⊥) → pos 0 <ℤ value_of (side_plane t i) (corner_of t ((i + 2) % 3))
unfolding value_of
side_plane-third t i h some =
    let e = difference (corner_of t ((i + 1) % 3)) (corner_of t i) in
    let d = difference (corner_of t ((i + 2) % 3)) (corner_of t i) in
    let axis = unit_of (largest_axis (normal_of t)) in
    turned-positive (side_across t i) d (λ z. some (largest_component-zero (normal_of t) (
    let n : neg_ℤ (dot (cross e d) axis) ≡ pos 0 = sym (cross-dot e axis d) ∙ z in
    subst (λ m. dot m axis ≡ pos 0) (normal_from t i h) (omega (arith, linear, n)))))

-- what `side_through` makes of the corners
pub side_of-side_plane : (t : Tri) (i : ℕ) (axis : Vector) → axis ≡ unit_of (largest_axis (normal_of t)) → side_of (corner_of t i) (corner_of t ((i + 1) % 3)) (corner_of t ((i + 2) % 3)) axis ≡ side_plane t i
unfolding side_of
side_of-side_plane t i axis e = ap (side_of (corner_of t i) (corner_of t ((i + 1) % 3)) (corner_of t ((i + 2) % 3))) e
