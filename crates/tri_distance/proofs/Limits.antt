-- Bounds of scales, of scaled points and of reaches.
use Rattle.std.proofs.Common.{ℕ, ◌+◌, ◌*◌, ◌^◌, ◌≤◌, ℤ, pos, arith, lit≤, to_z, of_z, mul-le-mul, le_trans}
use mir.Syntax.{w128}
use Rattle.std.proofs.lemmas.Int.{ints}
use Rattle.std.proofs.Math.Nat.{pow-le-pow_right}
use Rattle.int_algebra.specs.Within.{IsWithin}
use Rattle.int_algebra.proofs.Bounds.{within_natural, kept-IsWithin}
use Rattle.grid.specs.declared.shapes.Point.{Point}
use Rattle.grid.specs.Boxes.{IsInBox, IsUpTo}
use Rattle.grid.specs.Limits.{largest_side, most_epsilon}

pub up_to-IsWithin : {n : ℕ} (z : ℤ) → IsUpTo n z → IsWithin n z
up_to-IsWithin {n} z h = within_natural n z h.low h.high

pub wider-IsInBox : {m : ℕ} (n : ℕ) (p : Point) → IsInBox m p → m ≤ n → IsInBox n p
wider-IsInBox {m} n p h le =
    record { x_in = at p.x h.x_in; y_in = at p.y h.y_in; z_in = at p.z h.z_in }
  where
    at : (z : ℤ) → IsUpTo m z → IsUpTo n z
    at z i = record { low = i.low; high = omega (arith, ints, i.high, le) }

pub power_at_most : (k : ℕ) → k ≤ 6 → 2 ^ k ≤ 2 ^ 6
power_at_most k le = pow-le-pow_right (lit≤ tt) le

pub box_at_most : (k : ℕ) → k ≤ 6 → 2 ^ (18 + k) ≤ 2 ^ 24
box_at_most k le =
    let h : 18 + k ≤ 24 = omega (arith, le) in
    pow-le-pow_right (lit≤ tt) h

pub far-IsWithin : (k e : ℕ) → k ≤ 6 → e ≤ most_epsilon → IsWithin largest_side (pos (e * 2 ^ k))
far-IsWithin k e le l =
    let far : e * 2 ^ k ≤ most_epsilon * 2 ^ 6 = mul-le-mul l (power_at_most k le) in
    record { within = le_trans far (lit≤ tt) }

-- for `using`: the square of a reach as the code keeps it
pub kept_reach : (r : ℤ) → IsWithin (2 ^ 36) r → IsWithin (2 ^ 36) (to_z w128 (of_z w128 r))
kept_reach r h = kept-IsWithin w128 h (lit≤ tt)
