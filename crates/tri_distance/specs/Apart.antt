-- When a point is beyond the three scaled corners along an axis.
use Rattle.std.specs.Prelude.{ℤ, pos, ◌+ℤ◌, ◌-ℤ◌, ◌*ℤ◌, ◌<ℤ◌, ◌⊎◌}
use Rattle.grid.specs.Vectors.{Vector}

-- p is more than r below all of t a, t b and t c, or more than r above them
abbrev pub IsApart : (p t r a b c : ℤ) → Type 0
IsApart p t r a b c =
    (((p +ℤ r) <ℤ (t *ℤ a)) × ((p +ℤ r) <ℤ (t *ℤ b)) × ((p +ℤ r) <ℤ (t *ℤ c)))
    ⊎ (((t *ℤ a) <ℤ (p -ℤ r)) × ((t *ℤ b) <ℤ (p -ℤ r)) × ((t *ℤ c) <ℤ (p -ℤ r)))

-- x, y and z are all above r, or all below -r
abbrev pub AreBeyond : (r x y z : ℤ) → Type 0
AreBeyond r x y z =
    ((r <ℤ x) × (r <ℤ y) × (r <ℤ z)) ⊎ ((x <ℤ (pos 0 -ℤ r)) × (y <ℤ (pos 0 -ℤ r)) × (z <ℤ (pos 0 -ℤ r)))

-- so are the components of x, y and z along some axis
abbrev pub AreFar : (x y z : Vector) (r : ℤ) → Type 0
AreFar x y z r = AreBeyond r x.x y.x z.x ⊎ (AreBeyond r x.y y.y z.y ⊎ AreBeyond r x.z y.z z.z)
