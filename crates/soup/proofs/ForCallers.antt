-- For callers: a box in a larger one, and the side of a box.
use Rattle.std.proofs.Common.{ℕ, ◌^◌, ◌<◌, ◌≤◌, ℤ, nat_abs, unsigned_abs, SFits, w32, List, All, sym, subst, arith, lit≤}
use Rattle.std.proofs.Math.Nat.{pow-le-pow_right}
use Rattle.std.proofs.lemmas.Int.{ints, fits_signed_from_abs}
use Rattle.grid.specs.declared.shapes.Point.{Point}
use Rattle.grid.specs.declared.shapes.Tri.{Tri}
use Rattle.grid.specs.Boxes.{corner_of, IsUpTo, IsInBox, IsTriInBox}
use Rattle.grid.specs.Limits.{IsSide, largest_side}
pub use Rattle.soup.proofs.Ranges.{AreAlong, along_x, along_y, along_z, least-IsWithin}
pub use Rattle.soup.proofs.Boxed.{in_its_box, least_side, side_is}
pub use Rattle.soup.proofs.Places.{row_all}
pub use Rattle.soup.proofs.Heights.{height_field-IsRaw, height_field_extent}

-- ---- what lies in a box lies in a larger one
IsUpTo-wider : (l m : ℕ) (z : ℤ) → l ≤ m → IsUpTo l z → IsUpTo m z
IsUpTo-wider l m z le h = record { low = h.low; high = omega (arith, ints, h.high, le) }

pub IsInBox-wider : (l m : ℕ) (p : Point) → l ≤ m → IsInBox l p → IsInBox m p
IsInBox-wider l m p le h = record { x_in = IsUpTo-wider l m p.x le h.x_in; y_in = IsUpTo-wider l m p.y le h.y_in; z_in = IsUpTo-wider l m p.z le h.z_in }

pub IsTriInBox-wider : (l m : ℕ) (t : Tri) → l ≤ m → IsTriInBox l t → IsTriInBox m t
IsTriInBox-wider l m t le h = record {
  a_in = IsInBox-wider l m (corner_of t 0) le h.a_in;
  b_in = IsInBox-wider l m (corner_of t 1) le h.b_in;
  c_in = IsInBox-wider l m (corner_of t 2) le h.c_in;
}

-- ---- the side of a box is one of the grid, and fits its type
pub in-grid : (side : ℤ) (points : List Point) → IsSide side → All (IsInBox (nat_abs side)) points → All (IsInBox largest_side) points
in-grid side points s all =
    let most : nat_abs side ≤ largest_side = subst (λ z. nat_abs z ≤ largest_side) (sym s.is) (pow-le-pow_right (lit≤ tt) s.power_most) in
    λ k d lt. IsInBox-wider (nat_abs side) largest_side _ most (all k d lt)

pub side-SFits : (side : ℤ) → IsSide side → SFits w32 side
side-SFits side s =
    let most : 2 ^ s.power ≤ largest_side = pow-le-pow_right (lit≤ tt) s.power_most in
    let below : 2 ^ s.power < 2 ^ 31 = omega (arith, most) in
    fits_signed_from_abs w32 side (subst (λ z. unsigned_abs z < 2 ^ 31) (sym s.is) below)
