-- A tetrahedron has few wanted edges, and putting a list in order makes it no longer.
use Rattle.std.proofs.Common.{ℕ, suc, ◌≤◌, Bool, List, [], ◌∷◌, length, inl, inr, arith}
use Rattle.std.proofs.lemmas.Bool.{cases_Bool}
use Rattle.std.proofs.lemmas.List.Sums.{length-filter, count_by-le-length}
use Rattle.grid.specs.declared.shapes.Point.{Point}
use Rattle.grid.specs.declared.shapes.Tri.{Tri}
use Rattle.grid.specs.Meshes.{is_below}
use Rattle.mesh_types.specs.CuttingRule.{is_wanted}
use Rattle.mesh_types.specs.Phases.{points_of, edges, wanted_in}
use Rattle.mesh_types.specs.Tracking.{in_order_once, place}

length-edges : (x : List ℕ) → length (edges x) ≤ 6
length-edges [] = omega arith
length-edges (a ∷ []) = omega arith
length-edges (a ∷ b ∷ []) = omega arith
length-edges (a ∷ b ∷ c ∷ []) = omega arith
length-edges (a ∷ b ∷ c ∷ d ∷ []) = omega arith
length-edges (a ∷ b ∷ c ∷ d ∷ e ∷ x) = omega arith

pub length-wanted_in : (points : List Point) (t : Tri) (i : ℕ) (x : List ℕ) → length (wanted_in points t i x) ≤ 6
unfolding wanted_in
length-wanted_in points t i x =
    let test : List ℕ → Bool = λ e. is_wanted t i (points_of points x) (points_of points e) in
    omega (arith, length-filter test (edges x), count_by-le-length test (edges x), length-edges x)

length-place : (x : List ℕ) (ys : List (List ℕ)) → length (place x ys) ≤ suc (length ys)
length-place x [] = omega arith
length-place x (y ∷ ys) = let h = length-place x ys in elim (cases_Bool (is_below x y)) [
  | inl e ↦ rw e (omega arith)
  | inr e ↦ elim (cases_Bool (is_below y x)) [ inl f ↦ rw (e, f) (omega arith) | inr f ↦ rw (e, f) (omega arith) ]
]

pub length-once : (xs : List (List ℕ)) → length (in_order_once xs) ≤ length xs
length-once [] = omega arith
length-once (x ∷ xs) = omega (arith, length-place x (in_order_once xs), length-once xs)
