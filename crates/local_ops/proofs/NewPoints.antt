-- The points that tries make lie in the box.
use Rattle.std.proofs.Common.{ℕ, List, [], ◌∷◌, ◌++◌, All}
use Rattle.std.specs.List.{AllByRecursion as Each}
use Rattle.std.proofs.lemmas.List.Elements.{recursion_from_All}
use Rattle.grid.specs.declared.shapes.Point.{Point}
use Rattle.grid.specs.Boxes.{IsInBox}
use Rattle.grid.specs.Determinants.{point_at}
use Rattle.grid.specs.Meshes.{Mesh}
use Rattle.mesh_types.specs.declared.tries.Try.TheVariants.{Split, Shift}
use Rattle.mesh_types.specs.Refines.{refine}
use Rattle.mesh_types.specs.Results.{midpoint_floored, split, shift, target}
use Rattle.mesh_types.proofs.ForCallers.{inside_law}

last : (P : Point → Type 0) (points : List Point) (p : Point) → Each P (points ++ p ∷ []) → P p
last P [] p h = h.0
last P (q ∷ points) p h = last P points p h.1

module _ (l : ℕ) (m : Mesh) (inside : All (IsInBox l) m.points) where
  middle-inside : (u v : ℕ) → All (IsInBox l) (m.points ++ midpoint_floored (point_at m.points u) (point_at m.points v) ∷ [])
  unfolding split refine
  middle-inside u v = inside_law l m (Split u v) inside

  target-inside : (u way : ℕ) → All (IsInBox l) (m.points ++ target l m u way ∷ [])
  unfolding shift
  target-inside u way = inside_law l m (Shift u way) inside

  pub middle-in : (u v : ℕ) → IsInBox l (midpoint_floored (point_at m.points u) (point_at m.points v))
  middle-in u v = last (IsInBox l) m.points (midpoint_floored (point_at m.points u) (point_at m.points v))
      (recursion_from_All (IsInBox l) (m.points ++ midpoint_floored (point_at m.points u) (point_at m.points v) ∷ []) (middle-inside u v))

  pub target-in : (u way : ℕ) → IsInBox l (target l m u way)
  target-in u way = last (IsInBox l) m.points (target l m u way) (recursion_from_All (IsInBox l) (m.points ++ target l m u way ∷ []) (target-inside u way))
