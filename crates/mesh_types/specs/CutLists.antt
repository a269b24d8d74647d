-- Lists of edges to cut.
use Rattle.std.specs.Prelude.{ℕ, ◌<◌, List, [], ◌∷◌, map, All}
use Rattle.grid.specs.Meshes.{Ordered}
use Rattle.mesh_types.specs.declared.cut.Cut.{Cut}

-- an edge of points below n, the smaller number first
pub record IsCutBelow (n : ℕ) (e : Cut) : Type 0 where
  pub ends_rise : e.u < e.v
  pub in_range : e.v < n

-- the numbers of the ends
abbrev pub ends_of : Cut → List ℕ
ends_of e = e.u ∷ e.v ∷ []

-- edges of points below n, strictly rising in the smaller number and then in the larger
pub record AreCuts (n : ℕ) (es : List Cut) : Type 0 where
  pub each : All (IsCutBelow n) es
  pub ordered : Ordered (map ends_of es)
