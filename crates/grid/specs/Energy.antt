-- The energy of a tetrahedron.
use Rattle.std.specs.Prelude.{ℕ, ◌*◌, ◌/◌, ◌^◌, ◌+ℤ◌, ℤ, nat_abs}
use Rattle.grid.specs.declared.shapes.Point.{Point}
use Rattle.grid.specs.Determinants.{det, sq_dist}

-- the sum of the six squared edge lengths
abbrev pub sq_edges : Point → Point → Point → Point → ℤ
sq_edges a b c d = sq_dist a b +ℤ sq_dist a c +ℤ sq_dist a d +ℤ sq_dist b c +ℤ sq_dist b d +ℤ sq_dist c d

-- the cube of the AMIPS energy, floored: S^3 / (16 d^2) for the sum S of the squared edge lengths and the determinant d
unfoldable pub energy : Point → Point → Point → Point → ℕ
energy a b c d = (nat_abs (sq_edges a b c d) ^ 3) / (16 * nat_abs (det a b c d) ^ 2)
