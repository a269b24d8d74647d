-- The corners of pieces, and where these lie.
use Rattle.std.proofs.Common.{◌≡◌, ◌∙◌, ℕ, ◌+◌, ◌<◌, List, length, map, All, ap, sym, subst, length-append}
use Rattle.std.proofs.lemmas.List.{length-map}
use Rattle.grid.specs.declared.shapes.Point.{Point}
use Rattle.grid.specs.Boxes.{IsInBox}
use Rattle.grid.specs.Limits.{largest_side}
use Rattle.grid.specs.Simplices.{IsTet}
use Rattle.mesh_types.specs.declared.cut.Cut.{Cut}
use Rattle.mesh_types.specs.Phases.{points_of}
use Rattle.cutting_rule.proofs.ForCallers.{points-in}
use Rattle.insertion.specs.Lasting.{points_with}

many-with : (points : List Point) (cuts : List Cut) → length (points_with points cuts) ≡ length points + length cuts
many-with points cuts = length-append points (map (λ (e : Cut). e.at) cuts) ∙ ap (λ k. length points + k) (length-map cuts (λ (e : Cut). e.at))

pub corners-in : (points : List Point) (cuts : List Cut) (ps : List Point) (x : List ℕ) → ps ≡ points_of (points_with points cuts) x → All (IsInBox largest_side) (points_with points cuts) → IsTet (length points + length cuts) x → All (IsInBox largest_side) ps
corners-in points cuts ps x e inside tet =
    points-in largest_side (points_with points cuts) ps x e inside (subst (λ n. All (λ u. u < n) x) (sym (many-with points cuts)) tet.in_range)
