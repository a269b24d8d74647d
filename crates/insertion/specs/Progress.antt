-- A store in the course of an insertion.
use Rattle.std.specs.Prelude.{◌≡◌, ℕ, ℤ, None, Some, unwrap_or, All}
use Rattle.grid.specs.declared.shapes.Tri.{Tri}
use Rattle.grid.specs.Boxes.{IsTriInBox}
use Rattle.grid.specs.Determinants.{IsPositive}
use Rattle.grid.specs.Meshes.{IsWithinLimits}
use Rattle.grid.specs.Planes.{IsDegenerate}
use Rattle.grid.specs.Limits.{largest_side}
use Rattle.cutting_rule.specs.Until.{until}
use Rattle.mesh_store.specs.Changes.{IsGrown}
use Rattle.mesh_store.specs.Parts.{Parts, StoreView, mesh_in, live_tets}
use Rattle.mesh_store.specs.Sound.{IsSoundStore}

-- the parts at begin
abbrev pub start_of : StoreView → Parts
start_of v = unwrap_or v.at_begin v.parts

-- a closed store
abbrev pub closed : Parts → ℤ → StoreView
closed start side = record { parts = start; at_begin = None; side = side }

-- an open store, whose parts have grown from those at begin
pub record IsOpenFrom (start : Parts) (side : ℤ) (v : StoreView) : Type 0 where
  pub begin : v.at_begin ≡ Some start
  pub side_is : v.side ≡ side
  pub grown : IsGrown start v.parts

-- a store that the first i phases of a triangle cut since its begin, where it had positive tetrahedra
pub record IsCutUntil (t : Tri) (i : ℕ) (v : StoreView) : Type 0 where
  pub open_from : IsOpenFrom (start_of v) v.side v
  pub sound : IsSoundStore v.side (start_of v)
  pub sound_now : IsSoundStore v.side v.parts
  pub positive : All (IsPositive (start_of v).points) (live_tets (start_of v).slots)
  pub mesh : mesh_in v.parts ≡ until (mesh_in (start_of v)) t i
  pub within : IsWithinLimits (mesh_in v.parts)
  pub some_area : ¬ IsDegenerate t
  pub tri_in : IsTriInBox largest_side t

-- all four phases
abbrev pub IsCutBy : Tri → StoreView → Type 0
IsCutBy t v = IsCutUntil t 4 v
