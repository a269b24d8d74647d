-- The determinant and the squared distance of points, by the differences that the code computes.
use Rattle.std.proofs.Common.{◌≡◌, ℤ, ◌+ℤ◌, ◌-ℤ◌, ◌*ℤ◌}
use Rattle.grid.specs.declared.shapes.Point.{Point}
use Rattle.grid.specs.declared.determinants.Edge.{Edge}
use Rattle.grid.specs.Determinants.{det, sq_dist}
use Rattle.grid.specs.Edges.{IsBetween}

abbrev triple_of : (px py pz qx qy qz rx ry rz : ℤ) → ℤ
triple_of px py pz qx qy qz rx ry rz =
    ((px *ℤ ((qy *ℤ rz) -ℤ (qz *ℤ ry))) -ℤ (py *ℤ ((qx *ℤ rz) -ℤ (qz *ℤ rx)))) +ℤ (pz *ℤ ((qx *ℤ ry) -ℤ (qy *ℤ rx)))

pub triple_of-edges : (a b c d : Point) (p q r : Edge) → IsBetween a b p → IsBetween a c q → IsBetween a d r → triple_of p.x p.y p.z q.x q.y q.z r.x r.y r.z ≡ det a b c d
unfolding det
triple_of-edges a b c d p q r e f g = λ i. triple_of (e.x i) (e.y i) (e.z i) (f.x i) (f.y i) (f.z i) (g.x i) (g.y i) (g.z i)

abbrev sum_of_squares : (x y z : ℤ) → ℤ
sum_of_squares x y z = (x *ℤ x) +ℤ (y *ℤ y) +ℤ (z *ℤ z)

pub sum_of_squares-edge : (a b : Point) (p : Edge) → IsBetween b a p → sum_of_squares p.x p.y p.z ≡ sq_dist a b
unfolding sq_dist
sum_of_squares-edge a b p e = λ i. sum_of_squares (e.x i) (e.y i) (e.z i)
