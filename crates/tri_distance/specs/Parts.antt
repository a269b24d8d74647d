-- The parts of a triangle that a point can be near to, by the vectors x, y and z from the scaled corners to the point, and the square r of the reach.
use Rattle.std.specs.Prelude.{◌≡◌, ℤ, pos, ◌+ℤ◌, ◌*ℤ◌, ◌≤ℤ◌, ◌<ℤ◌}
use Rattle.grid.specs.Vectors.{Vector, dot, cross, minus, scaled, sum_of_two, sum_of_three}

-- some point of the segment is near
pub record NearSegment (x y : Vector) (r : ℤ) : Type 0 where
  pub v : ℤ
  pub w : ℤ
  pub v_in : pos 0 ≤ℤ v
  pub w_in : pos 0 ≤ℤ w
  pub some : pos 0 <ℤ (v +ℤ w)
  pub close : dot (sum_of_two v w x y) (sum_of_two v w x y) ≤ℤ (r *ℤ ((v +ℤ w) *ℤ (v +ℤ w)))

-- some point of the triangle is near
pub record NearTriangle (x y z : Vector) (r : ℤ) : Type 0 where
  pub u : ℤ
  pub v : ℤ
  pub w : ℤ
  pub u_in : pos 0 ≤ℤ u
  pub v_in : pos 0 ≤ℤ v
  pub w_in : pos 0 ≤ℤ w
  pub some : pos 0 <ℤ (u +ℤ v +ℤ w)
  pub close : dot (sum_of_three u v w x y z) (sum_of_three u v w x y z) ≤ℤ (r *ℤ ((u +ℤ v +ℤ w) *ℤ (u +ℤ v +ℤ w)))

-- the foot on the plane with the normal m is inside, and near
pub record NearPlane (x y z m : Vector) (r : ℤ) : Type 0 where
  pub some : pos 0 <ℤ dot m m
  pub x_in : pos 0 ≤ℤ dot m (cross y z)
  pub y_in : pos 0 ≤ℤ dot m (cross z x)
  pub z_in : pos 0 ≤ℤ dot m (cross x y)
  pub close : (dot m x *ℤ dot m x) ≤ℤ (r *ℤ dot m m)

-- m is normal to the plane: a positive multiple of it is the product of two sides
pub record IsNormal (x y z m : Vector) : Type 0 where
  pub factor : ℤ
  pub positive : pos 0 <ℤ factor
  pub same : cross (minus y x) (minus z x) ≡ scaled factor m
