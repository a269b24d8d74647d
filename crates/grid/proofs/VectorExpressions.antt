-- Expressions of vectors, whose names end with `_`: the vector i has the variables 3 i, 3 i + 1 and 3 i + 2.
use Rattle.std.proofs.Common.{ℕ, List, [], ◌∷◌, ℤ, pos}
use Rattle.int_algebra.proofs.Ring.{Expression, constant, variable, ◌⊕◌, ◌⊗◌}
use Rattle.int_algebra.proofs.Orders.{Certificate, square, ◌⊞◌}
use Rattle.int_algebra.proofs.Corners.{Corner, corner, dot as dot_}
use Rattle.grid.specs.Vectors.{Vector}

-- the coordinates of vectors, with other numbers after them
abbrev pub coordinates_then : List Vector → List ℤ → List ℤ
coordinates_then [] xs = xs
coordinates_then (p ∷ ps) xs = p.x ∷ p.y ∷ p.z ∷ coordinates_then ps xs

abbrev pub scaled_ : Expression → Corner → Corner
scaled_ k p = record { x = k ⊗ p.x; y = k ⊗ p.y; z = k ⊗ p.z }

abbrev pub plus_ : Corner → Corner → Corner
plus_ p q = record { x = p.x ⊕ q.x; y = p.y ⊕ q.y; z = p.z ⊕ q.z }

abbrev pub length_ : Corner → Expression
length_ p = dot_ p p

-- the sum of the squares of the components
abbrev pub squares_ : Corner → Certificate
squares_ p = square p.x ⊞ square p.y ⊞ square p.z

abbrev pub x_ : Corner
x_ = corner 0

abbrev pub y_ : Corner
y_ = corner 1

abbrev pub z_ : Corner
z_ = corner 2

abbrev pub m_ : Corner
m_ = corner 3

abbrev pub at_ : ℕ → Expression
at_ i = variable i

abbrev pub zero_ : Expression
zero_ = constant (pos 0)

abbrev pub one_ : Expression
one_ = constant (pos 1)
