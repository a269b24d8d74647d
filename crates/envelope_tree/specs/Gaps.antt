-- How far a point is from an interval or a box.
use Rattle.std.specs.Prelude.{ℕ, ◌*◌, ◌^◌, ℤ, pos, ◌+ℤ◌, ◌-ℤ◌, ◌*ℤ◌, ◌<ℤ◌}
use Rattle.std.specs.Bool.{if◌then◌else◌}
use Rattle.std.specs.Int.Signed.{lt_z}
use Rattle.grid.specs.declared.shapes.Point.{Point}
use Rattle.envelope_tree.specs.declared.bounds.Interval.{Interval}
use Rattle.envelope_tree.specs.declared.bounds.Bounds.{Bounds}

-- how far p is below low or above high, and 0 where it is neither
unfoldable pub outside_of : (p low high : ℤ) → ℤ
outside_of p low high = if lt_z p low then low -ℤ p else if lt_z high p then p -ℤ high else pos 0

-- the distance of p from the interval scaled by t
abbrev pub gap_of : (p t : ℤ) → Interval → ℤ
gap_of p t i = outside_of p (t *ℤ i.low) (t *ℤ i.high)

-- the square of the distance of p from the box scaled by t
abbrev pub sq_gap_of : Point → ℤ → Bounds → ℤ
sq_gap_of p t b = gap_of p.x t b.x *ℤ gap_of p.x t b.x +ℤ gap_of p.y t b.y *ℤ gap_of p.y t b.y +ℤ gap_of p.z t b.z *ℤ gap_of p.z t b.z

-- the point p / 2 ^ k is farther than e from the box
abbrev pub IsFar : Point → ℕ → Bounds → ℕ → Type 0
IsFar p k b e = pos (e * 2 ^ k * (e * 2 ^ k)) <ℤ sq_gap_of p (pos (2 ^ k)) b
