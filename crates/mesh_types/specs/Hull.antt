-- The law of the hull: what is near one triangle at its corners is near it everywhere.
use Rattle.std.specs.Prelude.{ℕ, ◌+◌, ◌*◌, ◌^◌, ◌<◌, pos, ◌+ℤ◌, ◌*ℤ◌, ◌≤ℤ◌}
use Rattle.grid.specs.declared.shapes.Point.{Point}
use Rattle.grid.specs.declared.shapes.Tri.{Tri}
use Rattle.grid.specs.Boxes.{corner_of}
use Rattle.grid.specs.Near.{sq_gap}
use Rattle.grid.specs.Envelopes.{AreNear}

-- f p + g q + h r
abbrev pub weighted_sum : (f g h : ℕ) → (p q r : Point) → Point
weighted_sum f g h p q r = record {
  x = pos f *ℤ p.x +ℤ pos g *ℤ q.x +ℤ pos h *ℤ r.x;
  y = pos f *ℤ p.y +ℤ pos g *ℤ q.y +ℤ pos h *ℤ r.y;
  z = pos f *ℤ p.z +ℤ pos g *ℤ q.z +ℤ pos h *ℤ r.z;
}

-- the mean of p, q and r with the weights f, g and h, at the scale 2 ^ k, is at distance at most e from the triangle's point with the weights u, v and w
pub record IsMeanNear (p q r : Point) (f g h k : ℕ) (tri : Tri) (e : ℕ) : Type 0 where
  pub u : ℕ
  pub v : ℕ
  pub w : ℕ
  pub some : 0 < u + v + w
  pub close : sq_gap (pos (u + v + w)) (pos ((f + g + h) * 2 ^ k)) (pos u) (pos v) (pos w) (weighted_sum f g h p q r) (corner_of tri 0) (corner_of tri 1) (corner_of tri 2) ≤ℤ pos ((e * 2 ^ k * (u + v + w) * (f + g + h)) ^ 2)

-- where three points are near one triangle, each of their weighted means is
abbrev pub HullLaw : Type 0
HullLaw = (p q r : Point) (k : ℕ) (tri : Tri) (e : ℕ) → AreNear p q r k tri e → (f g h : ℕ) → 0 < f + g + h → IsMeanNear p q r f g h k tri e
