use Rattle.std.proofs.Common.{◌≡◌, ℤ, pos, negsuc, ◌*ℤ◌, ◌<ℤ◌, [], ◌∷◌, sym, subst, ◌∙◌}
use lib.Signed.{lt_z_yes}
use Rattle.grid.specs.declared.shapes.Point.{Point}
use Rattle.grid.specs.declared.shapes.Tri.{Tri}
use Rattle.grid.specs.Vectors.{dot}
use Rattle.grid.specs.Planes.{Plane, plane_of, value_of}
use Rattle.planes.proofs.tests.a_crossing_is_rounded_up_at_halves.Goals as goal

abbrev at : ℤ → ℤ → ℤ → Point
at x y z = record { x = x; y = y; z = z }

abbrev triangle : Point → Point → Point → Tri
triangle a b c = record { 0 = a ∷ b ∷ c ∷ [] }

-- the values are -1 and 1
opposite : (m : Plane) (a b c u v : Point) → m ≡ plane_of (triangle a b c)
    → a ≡ at (pos 0) (pos 0) (pos 1) → b ≡ at (pos 1) (pos 0) (pos 1) → c ≡ at (pos 0) (pos 1) (pos 1) → u ≡ at (pos 0) (pos 0) (pos 0) → v ≡ at (pos 3) (pos 5) (pos 2)
    → (value_of m u *ℤ value_of m v) <ℤ pos 0
unfolding value_of dot
opposite m a b c u v e ea eb ec eu ev =
    let values : value_of m u *ℤ value_of m v ≡ negsuc 0 =
    (λ i. value_of (e i) u *ℤ value_of (e i) v) ∙ (λ i. value_of (plane_of (triangle (ea i) (eb i) (ec i))) (eu i) *ℤ value_of (plane_of (triangle (ea i) (eb i) (ec i))) (ev i)) in
    subst (λ z. z <ℤ pos 0) (sym values) (lt_z_yes tt)

pub crossing-crossing-requires-clause-opposite : goal.crossing-crossing-requires-clause-opposite
crossing-crossing-requires-clause-opposite g c =
    opposite c.in-Some.plane c.point.result c.point-2.result c.point-3.result c.point-in-Some.result c.point-in-Some-2.result c.in-Some.ensures.some c.point.ensures c.point-2.ensures c.point-3.ensures c.point-in-Some.ensures c.point-in-Some-2.ensures
