-- The mean of points.
use Rattle.std.specs.Prelude.{◌≡◌, ℕ, ◌*◌, ℤ, pos, ◌+ℤ◌, ◌*ℤ◌, not, nat_eq, List}
use Rattle.std.specs.List.{filter}
use Rattle.std.specs.Int.{int_div_euclid}
use Rattle.grid.specs.declared.shapes.Point.{Point}
use Rattle.grid.specs.Boxes.{IsUpTo}
use Rattle.grid.specs.Determinants.{point_at}
use Rattle.mesh_types.specs.Results.{sum_at, mean_at, shifted_to}
use Rattle.local_ops.specs.declared.smoothing.Sum.{Sum}

-- the corners other than u
abbrev pub corners_but : ℕ → List ℕ → List ℕ
corners_but u x = filter (λ c. not (nat_eq c u)) x

-- the sum over n numbers, over n: a half goes up
abbrev pub mean_of : ℤ → ℕ → ℤ
mean_of sum n = int_div_euclid (pos 2 *ℤ sum +ℤ pos n) (pos (2 * n))

-- each sum is from 0 to n
pub record IsSumUpTo (n : ℕ) (s : Sum) : Type 0 where
  pub x_in : IsUpTo n s.x
  pub y_in : IsUpTo n s.y
  pub z_in : IsUpTo n s.z

-- the sums of the coordinates of these points
pub record IsSum (points : List Point) (ws : List ℕ) (s : Sum) : Type 0 where
  pub x_is : s.x ≡ sum_at (λ w. (point_at points w).x) ws
  pub y_is : s.y ≡ sum_at (λ w. (point_at points w).y) ws
  pub z_is : s.z ≡ sum_at (λ w. (point_at points w).z) ws

-- where u goes between these points
abbrev pub moved_to : ℕ → List Point → ℕ → List ℕ → ℕ → Point
moved_to l points u ws way =
    let at : ℕ → Point = point_at points in
    record {
      x = shifted_to l way (at u).x (mean_at (λ w. (at w).x) ws);
      y = shifted_to l way (at u).y (mean_at (λ w. (at w).y) ws);
      z = shifted_to l way (at u).z (mean_at (λ w. (at w).z) ws);
    }
