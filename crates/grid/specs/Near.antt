-- When a point is near a triangle.
use Rattle.std.specs.Prelude.{ℕ, ◌+◌, ◌*◌, ◌^◌, ◌<◌, ℤ, pos, ◌+ℤ◌, ◌-ℤ◌, ◌*ℤ◌, ◌≤ℤ◌}
use Rattle.grid.specs.declared.shapes.Point.{Point}
use Rattle.grid.specs.declared.shapes.Tri.{Tri}
use Rattle.grid.specs.Boxes.{corner_of}

-- s p - t (u a + v b + w c), at one coordinate
abbrev pub gap_at : (s t u v w p a b c : ℤ) → ℤ
gap_at s t u v w p a b c = s *ℤ p -ℤ t *ℤ (u *ℤ a +ℤ v *ℤ b +ℤ w *ℤ c)

-- its square in space
unfoldable pub sq_gap : (s t u v w : ℤ) (p a b c : Point) → ℤ
sq_gap s t u v w p a b c =
    gap_at s t u v w p.x a.x b.x c.x *ℤ gap_at s t u v w p.x a.x b.x c.x +ℤ gap_at s t u v w p.y a.y b.y c.y *ℤ gap_at s t u v w p.y a.y b.y c.y +ℤ gap_at s t u v w p.z a.z b.z c.z *ℤ gap_at s t u v w p.z a.z b.z c.z

-- p / 2 ^ k is at distance at most e from a point of the triangle a b c: the mean of its corners with the weights u, v and w
pub record IsNearCorners (p : Point) (k e : ℕ) (a b c : Point) : Type 0 where
  pub u : ℕ
  pub v : ℕ
  pub w : ℕ
  pub some : 0 < u + v + w
  pub close : sq_gap (pos (u + v + w)) (pos (2 ^ k)) (pos u) (pos v) (pos w) p a b c ≤ℤ pos ((e * 2 ^ k * (u + v + w)) ^ 2)

-- the point p / 2 ^ k is at distance at most e from the triangle
abbrev pub Near : Point → ℕ → Tri → ℕ → Type 0
Near p k tri e = IsNearCorners p k e (corner_of tri 0) (corner_of tri 1) (corner_of tri 2)
