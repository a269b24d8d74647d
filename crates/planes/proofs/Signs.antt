-- What a snapped sign says of the value of a point.
use Rattle.std.proofs.Common.{◌≡◌, zero, suc, Bool, true, false, if◌then◌else◌, [], ◌∷◌, ℤ, pos, negsuc, ◌*ℤ◌, ◌<ℤ◌, refl, subst, arith}
use Rattle.std.proofs.lemmas.Int.{ints}
use Rattle.std.specs.Int.{int_signum}
use lib.Signed.{lt_z_yes}
use lib.IntN.{*ℤ_comm}
use Rattle.int_algebra.proofs.Ring.{constant, variable, ◌⊕◌, ◌⊗◌}
use Rattle.int_algebra.proofs.Orders.{below, one_more, given, ◌⊞◌, ◌⊠◌, ◌≼◌}
use Rattle.grid.specs.declared.shapes.Point.{Point}
use Rattle.grid.specs.Planes.{Plane, value_of, snap_sign}
use Rattle.planes.specs.Crossings.{HaveOppositeSigns}

-- a point of the sign -1 has a value below 0
pub value-negative : (m : Plane) (p : Point) → snap_sign m p ≡ negsuc 0 → value_of m p <ℤ pos 0
unfolding snap_sign
value-negative m p = from _ (value_of m p)
  where
    from : (b : Bool) (v : ℤ) → (if b then int_signum v else pos 0) ≡ negsuc 0 → v <ℤ pos 0
    from true (pos n) e =
        let none : ⊥ = omega (arith, ints, e) in
        absurd none
    from true (negsuc n) e = lt_z_yes tt
    from false v e =
        let none : ⊥ = omega (arith, ints, e) in
        absurd none

-- a point of the sign 1 has a value above 0
pub value-positive : (m : Plane) (p : Point) → snap_sign m p ≡ pos 1 → pos 0 <ℤ value_of m p
unfolding snap_sign
value-positive m p = from _ (value_of m p)
  where
    from : (b : Bool) (v : ℤ) → (if b then int_signum v else pos 0) ≡ pos 1 → pos 0 <ℤ v
    from true (pos zero) e =
        let none : ⊥ = omega (arith, ints, e) in
        absurd none
    from true (pos (suc n)) e = omega (arith, ints)
    from true (negsuc n) e =
        let none : ⊥ = omega (arith, ints, e) in
        absurd none
    from false v e =
        let none : ⊥ = omega (arith, ints, e) in
        absurd none

product-negative : (v w : ℤ) → v <ℤ pos 0 → pos 0 <ℤ w → (v *ℤ w) <ℤ pos 0
product-negative v w h k =
    let x = variable 0 in
    let y = variable 1 in
    let one = constant (pos 1) in
    let o = constant (pos 0) in
    below (v ∷ w ∷ []) ((x ⊕ one ≼ o) ∷ (one ≼ y) ∷ []) (x ⊗ y) o (given 0 ⊠ given 1 ⊞ given 0 ⊞ given 1) refl (one_more v (pos 0) h, (one_more (pos 0) w k, tt))

-- the ends of a segment from one side of the plane to the other
pub HaveOppositeSigns-up : (m : Plane) (u v : Point) → snap_sign m u ≡ negsuc 0 → snap_sign m v ≡ pos 1 → HaveOppositeSigns m u v
HaveOppositeSigns-up m u v d e = product-negative (value_of m u) (value_of m v) (value-negative m u d) (value-positive m v e)

pub HaveOppositeSigns-down : (m : Plane) (u v : Point) → snap_sign m u ≡ pos 1 → snap_sign m v ≡ negsuc 0 → HaveOppositeSigns m u v
HaveOppositeSigns-down m u v d e =
    subst (λ z. z <ℤ pos 0) (*ℤ_comm (value_of m v) (value_of m u)) (HaveOppositeSigns-up m v u e d)
