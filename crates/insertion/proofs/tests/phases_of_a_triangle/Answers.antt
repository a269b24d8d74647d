use Rattle.std.proofs.Common.{◌≡◌, pos, ℤ, [], ◌∷◌, ap, sym, ◌∙◌}
use Rattle.grid.specs.declared.shapes.Point.{Point}
use Rattle.grid.specs.Planes.{IsDegenerate, normal_of}
use Rattle.grid.specs.Vectors.{Vector}
use Rattle.insertion.proofs.tests.phases_of_a_triangle.Goals as goal

abbrev at : ℤ → ℤ → ℤ → Point
at x y z = record { x = x; y = y; z = z }

-- the normal is (0, 0, 64)
some_area : (a b c : Point) → a ≡ at (pos 4) (pos 4) (pos 6) → b ≡ at (pos 12) (pos 4) (pos 6) → c ≡ at (pos 12) (pos 12) (pos 6) → ¬ IsDegenerate (record { 0 = a ∷ b ∷ c ∷ [] })
some_area a b c ea eb ec = λ e.
    let is : (normal_of (record { 0 = a ∷ b ∷ c ∷ [] })).z ≡ pos 64 = λ i. (normal_of (record { 0 = ea i ∷ eb i ∷ ec i ∷ [] })).z in
    let none : pos 64 ≡ pos 0 = sym is ∙ ap (λ (v : Vector). v.z) e in
    cc none

pub cut_one-requires-clause-some_area : goal.cut_one-requires-clause-some_area
cut_one-requires-clause-some_area g c = some_area _ _ _ c.point.ensures c.point-2.ensures c.point-3.ensures
