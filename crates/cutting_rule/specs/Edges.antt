-- Edges of the code by the numbers of their ends.
use Rattle.std.specs.Prelude.{◌≡◌, ℕ, ◌<◌, ℤ, pos, Bool, true, ◌&&◌, ◌||◌, if◌then◌else◌, List, [], ◌∷◌, length, map}
use Rattle.std.specs.Int.Signed.{lt_z}
use Rattle.grid.specs.declared.shapes.Point.{Point}
use Rattle.grid.specs.Planes.{Plane}
use Rattle.grid.specs.Simplices.{rising}
use Rattle.mesh_types.specs.CuttingRule.{splits}
use Rattle.mesh_types.specs.Phases.{points_of}
use Rattle.cutting_rule.specs.declared.edge.Edge.{Edge}

abbrev pub numbers_of : List Edge → List (List ℕ)
numbers_of es = map (λ e. e.0) es

-- the edge from u to v, where it is wanted
abbrev pub edge_if : Bool → ℕ → ℕ → List (List ℕ)
edge_if wanted u v = if wanted then rising (u ∷ v ∷ []) ∷ [] else []

-- of two snapped signs one is below 0 and one above
abbrev pub are_opposite : ℤ → ℤ → Bool
are_opposite s r = (lt_z s (pos 0) || lt_z r (pos 0)) && (lt_z (pos 0) s || lt_z (pos 0) r)

-- an edge of points, the smaller number first, whose ends lie on both sides of a plane
pub record IsSplitEdge (points : List Point) (plane : Plane) (e : List ℕ) : Type 0 where
  pub u : ℕ
  pub v : ℕ
  pub is : e ≡ u ∷ v ∷ []
  pub rises : u < v
  pub in_range : v < length points
  pub apart : splits plane (points_of points e) ≡ true
