-- Points of simplices in the box.
use Rattle.std.proofs.Common.{◌≡◌, ℕ, ◌<◌, List, [], ◌∷◌, length, All, sym, subst}
use Rattle.std.specs.List.{AllByRecursion as Each}
use Rattle.std.proofs.lemmas.List.Elements.{recursion_from_All, All-from_recursion}
use Rattle.grid.specs.declared.shapes.Point.{Point}
use Rattle.grid.specs.Boxes.{IsInBox}
use Rattle.grid.specs.Determinants.{origin}
use Rattle.mesh_types.specs.Phases.{points_of}

each-point : (n : ℕ) (points : List Point) → All (IsInBox n) points → (x : List ℕ) → Each (λ u. u < length points) x → Each (IsInBox n) (points_of points x)
each-point n points h [] k = tt
each-point n points h (u ∷ x) k = (h u origin k.0, each-point n points h x k.1)

pub points-in : (n : ℕ) (points ps : List Point) (x : List ℕ) → ps ≡ points_of points x → All (IsInBox n) points → All (λ u. u < length points) x → All (IsInBox n) ps
points-in n points ps x e h k = subst (All (IsInBox n)) (sym e) (All-from_recursion (IsInBox n) (points_of points x) (each-point n points h x (recursion_from_All (λ u. u < length points) x k)))
