-- The results of tries in the code, and searches in them.
use Rattle.std.specs.Prelude.{◌≡◌, ℕ, Bool, if◌then◌else◌, List, Option, None, Some, MatchOption}
use Rattle.std.specs.List.{find}
use Rattle.grid.specs.declared.shapes.Tet.{Tet}
use Rattle.grid.specs.Views.{corners_of}
use Rattle.mesh_types.specs.Results.{Result, without}
use Rattle.mesh_types.specs.Views.{mesh_of}
use Rattle.plain_ops.specs.declared.results.PlainResult.{PlainResult}

-- the result that it stands for
abbrev pub result_in : PlainResult → Result
result_in r = record { mesh = mesh_of r.mesh; gone = corners_of r.gone.items; fresh = corners_of r.fresh.items }

-- the first that passes was found, or none passes
abbrev pub IsFoundIn : (List ℕ → Bool) → List (List ℕ) → Option Tet → Type 0
IsFoundIn p xs found = MatchOption found (find p xs ≡ None) (λ x. find p xs ≡ Some x.0)

-- what is left of a list, where x is left out already or is to be left out once
abbrev pub left_of : Bool → List ℕ → List (List ℕ) → List (List ℕ)
left_of is_out x ys = if is_out then ys else without x ys
