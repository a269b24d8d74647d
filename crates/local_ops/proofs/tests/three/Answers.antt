use Rattle.std.proofs.Common.{◌≡◌, ◌∙◌, ℕ, pos, List, [], ◌∷◌, All, refl, sym, subst, ap}
use Rattle.grid.specs.declared.shapes.Point.{Point}
use Rattle.grid.specs.Determinants.{IsPositive, det}
use Rattle.grid.specs.Views.{corners_of}
use Rattle.mesh_types.proofs.ForCallers.{positive_test}
use Rattle.local_ops.proofs.FirstStores.{positive-first}
use Rattle.local_ops.proofs.tests.three.Goals as goal

abbrev points : List Point
points = record { x = pos 0; y = pos 0; z = pos 4 } ∷ record { x = pos 8; y = pos 0; z = pos 4 } ∷ record { x = pos 0; y = pos 8; z = pos 4 } ∷ record { x = pos 2; y = pos 2; z = pos 8 } ∷ record { x = pos 2; y = pos 2; z = pos 0 } ∷ []

abbrev tets : List (List ℕ)
tets = (0 ∷ 1 ∷ 2 ∷ 3 ∷ []) ∷ (0 ∷ 2 ∷ 1 ∷ 4 ∷ []) ∷ (4 ∷ 1 ∷ 2 ∷ 3 ∷ []) ∷ []

are_positive : All (IsPositive points) tets
unfolding det
are_positive = positive_test points tets refl

pub returns-clause-positive : goal.returns-clause-positive
returns-clause-positive c =
    let ps : c.in_ok-from_slice.field-0 ≡ points =
    c.in_ok-from_slice.ensures ∙ (λ i. c.point.ensures i ∷ c.point-2.ensures i ∷ c.point-3.ensures i ∷ c.point-4.ensures i ∷ c.point-5.ensures i ∷ []) in
    let ts : corners_of c.in_ok-from_slice-2.field-0 ≡ tets = ap corners_of c.in_ok-from_slice-2.ensures in
    positive-first c.new-2.result _
    (subst (λ (xs : List (List ℕ)). All (IsPositive c.in_ok-from_slice.field-0) xs) (sym ts) (subst (λ (qs : List Point). All (IsPositive qs) tets) (sym ps) are_positive))
    c.new-2.ensures.mesh
