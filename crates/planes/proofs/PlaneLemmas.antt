-- Values of points, and planes of the code.
use Rattle.std.proofs.Common.{◌≡◌, ℕ, zero, suc, ◌+◌, ◌^◌, ◌<◌, Bool, true, false, cond, nat_lt, if◌then◌else◌, ℤ, pos, negsuc, ◌*ℤ◌, ◌<ℤ◌, ◌≤ℤ◌, refl, sym, subst, ap, ◌∙◌, arith}
use Rattle.std.specs.Int.Signed.{lt_z}
use Rattle.std.specs.Int.{int_signum}
use lib.IntN.{nat_abs, zero-*ℤ}
use Rattle.int_algebra.proofs.Orders.{natural-NonNegative, product-NonNegative}
use Rattle.grid.specs.declared.shapes.Point.{Point}
use Rattle.grid.specs.Boxes.{Axis, along_x, along_y, along_z, Side, IsOn, IsInBox}
use Rattle.grid.specs.Vectors.{dot, difference}
use Rattle.grid.specs.Planes.{Plane, value_of, snap_sign, crossing, rounded_mean}
use Rattle.planes.specs.Bounded.{plane_with, reach_of, sq_reach_of}
use Rattle.planes.specs.Crossings.{HaveOppositeSigns, mean_of}
use Rattle.vectors.specs.declared.vector.Vector.{Vector}
use Rattle.vectors.specs.Bounded.{vector_of}
use Rattle.vectors.proofs.VectorLemmas.{length-NonNegative}
use Rattle.planes.proofs.Roots.{squares-beyond}
use Rattle.planes.proofs.MeanLemmas.{rounded_mean-IsUpTo, rounded_mean-same}

pub dot-difference : (m : Plane) (normal d : Vector) (origin p : Point) (snap : ℕ) → plane_with normal origin snap ≡ m → vector_of d ≡ difference p origin → dot (vector_of normal) (vector_of d) ≡ value_of m p
unfolding value_of
dot-difference m normal d origin p snap e h = ap (dot (vector_of normal)) h ∙ ap (λ k. value_of k p) e

-- ---- signs
pub abs_is : (z : ℤ) → pos 0 ≤ℤ z → pos (nat_abs z) ≡ z
abs_is (pos n) h = refl
abs_is (negsuc n) h = absurd h.le

-- the squared reach is not below 0
sq_reach-pos : (m : Plane) → pos (nat_abs (sq_reach_of m)) ≡ sq_reach_of m
sq_reach-pos m = abs_is _ (product-NonNegative _ _ (natural-NonNegative (m.snap ^ 2)) (length-NonNegative m.normal))

-- what `sign_beyond` answers at the value of a point
pub sign-snap_sign : (m : Plane) (p : Point) (v : ℤ) (r : ℕ) → v ≡ value_of m p → r ≡ reach_of m → (if nat_lt r (nat_abs v) then int_signum v else pos 0) ≡ snap_sign m p
unfolding snap_sign
sign-snap_sign m p v r e h =
    (λ i. if nat_lt (h i) (nat_abs (e i)) then int_signum (e i) else pos 0)
    ∙ (λ i. if sym (squares-beyond (nat_abs (sq_reach_of m)) (value_of m p)) i then int_signum (value_of m p) else pos 0)
    ∙ (λ i. if lt_z (sq_reach-pos m i) (value_of m p *ℤ value_of m p) then int_signum (value_of m p) else pos 0)

-- ---- values of opposite signs
pub some_value : (a b : ℤ) → (a *ℤ b) <ℤ pos 0 → 0 < nat_abs a + nat_abs b
some_value (pos zero) b h = absurd (subst (λ z. z <ℤ pos 0) (zero-*ℤ b) h).lt
some_value (pos (suc n)) b h = omega arith
some_value (negsuc n) b h = omega arith

-- ---- crossings
pub crossing-mean_of : (m : Plane) (u v : Point) → mean_of u v (nat_abs (value_of m u)) (nat_abs (value_of m v)) ≡ crossing m u v
unfolding crossing mean_of
crossing-mean_of m u v = refl

module _ (m : Plane) (u v : Point) (opposite : HaveOppositeSigns m u v) where
  -- a crossing lies in each box that has both ends
  pub crossing-IsInBox : (n : ℕ) → IsInBox n u → IsInBox n v → IsInBox n (crossing m u v)
  unfolding crossing
  crossing-IsInBox n h k =
      let mean = rounded_mean-IsUpTo (nat_abs (value_of m u)) (nat_abs (value_of m v)) (some_value (value_of m u) (value_of m v) opposite) in
      record { x_in = mean u.x v.x n h.x_in k.x_in; y_in = mean u.y v.y n h.y_in k.y_in; z_in = mean u.z v.z n h.z_in k.z_in }

  -- and on each of its sides that has both ends
  pub crossing-IsOn : (l : ℕ) (s : Side) → IsOn l s u → IsOn l s v → IsOn l s (crossing m u v)
  unfolding crossing
  crossing-IsOn l s = by_axis s.axis s.is_far
    where
      far_at : Bool → ℕ
      far_at f = cond f l 0

      end_is : (f : Bool) → cond f (pos l) (pos 0) ≡ pos (far_at f)
      end_is true = refl
      end_is false = refl

      same : (a b : ℤ) (f : Bool) → a ≡ cond f (pos l) (pos 0) → b ≡ cond f (pos l) (pos 0) → rounded_mean a b (nat_abs (value_of m u)) (nat_abs (value_of m v)) ≡ cond f (pos l) (pos 0)
      same a b f h k = rounded_mean-same (nat_abs (value_of m u)) (nat_abs (value_of m v)) (some_value (value_of m u) (value_of m v) opposite) a b (far_at f) (h ∙ end_is f) (k ∙ end_is f) ∙ sym (end_is f)

      by_axis : (a : Axis) (f : Bool) → IsOn l (record { axis = a; is_far = f }) u → IsOn l (record { axis = a; is_far = f }) v → IsOn l (record { axis = a; is_far = f }) (crossing m u v)
      by_axis along_x f h k = same u.x v.x f h k
      by_axis along_y f h k = same u.y v.y f h k
      by_axis along_z f h k = same u.z v.z f h k
