-- Coordinates along an axis, and neighbours.
use Rattle.std.specs.Prelude.{ℕ, Bool, not, ◌&&◌, nat_eq, nat_lt, ℤ, List}
use Rattle.grid.specs.declared.shapes.Point.{Point}
use Rattle.mesh_types.specs.Tries.{tets_at_edge}
use Rattle.plain_ops.specs.declared.targets.Axis.{Axis}
use Rattle.plain_ops.specs.declared.targets.Axis.TheVariants.{X, Y, Z}

-- the coordinate of a point
abbrev pub along : Axis → Point → ℤ
along X p = p.x
along Y p = p.y
along Z p = p.z

-- w is another point of an edge at u
abbrev pub is_neighbour : List (List ℕ) → ℕ → ℕ → Bool
is_neighbour tets u w = not (nat_eq w u) && nat_lt 0 (tets_at_edge tets u w)
