-- What a cutting triangle keeps.
use Rattle.std.specs.Prelude.{◌≡◌, length}
use Rattle.grid.specs.declared.shapes.Point.{Point}
use Rattle.grid.specs.declared.shapes.Tri.{Tri}
use Rattle.grid.specs.Boxes.{IsTriInBox}
use Rattle.grid.specs.Planes.{Plane, IsDegenerate, side_plane}
use Rattle.grid.specs.Limits.{largest_side}
use Rattle.mesh_types.specs.CuttingRule.{section_plane}
use Rattle.cutting_rule.specs.Bounds.{AreBounds}

-- the planes and the bounding box are those of the triangle, which has three corners and is not degenerate
pub record AreOf (t : Tri) (plane side_0 side_1 side_2 : Plane) (lo hi : Point) : Type 0 where
  pub three : length t.0 ≡ 3
  pub in_box : IsTriInBox largest_side t
  pub some_area : ¬ IsDegenerate t
  pub plane_is : plane ≡ section_plane t
  pub first_is : side_0 ≡ side_plane t 0
  pub second_is : side_1 ≡ side_plane t 1
  pub third_is : side_2 ≡ side_plane t 2
  pub bounds : AreBounds lo hi t.0
