-- Expressions of points in space: the corner i has the variables 3 i, 3 i + 1 and 3 i + 2.
use Rattle.std.proofs.Common.{ℕ, ◌+◌, ◌*◌}
use Rattle.int_algebra.proofs.Ring.{Expression, variable, ◌⊕◌, ◌⊖◌, ◌⊗◌}

pub record Corner : Type 0 where
  pub x : Expression
  pub y : Expression
  pub z : Expression

abbrev pub corner : ℕ → Corner
corner i = record { x = variable (3 * i); y = variable (3 * i + 1); z = variable (3 * i + 2) }

abbrev pub less : Corner → Corner → Corner
less p q = record { x = p.x ⊖ q.x; y = p.y ⊖ q.y; z = p.z ⊖ q.z }

abbrev pub dot : Corner → Corner → Expression
dot p q = p.x ⊗ q.x ⊕ p.y ⊗ q.y ⊕ p.z ⊗ q.z

abbrev pub cross : Corner → Corner → Corner
cross p q = record { x = p.y ⊗ q.z ⊖ p.z ⊗ q.y; y = p.z ⊗ q.x ⊖ p.x ⊗ q.z; z = p.x ⊗ q.y ⊖ p.y ⊗ q.x }

-- the determinant of three vectors, and of the edges from a to b, c and d
abbrev pub of_vectors : Corner → Corner → Corner → Expression
of_vectors p q r = p.x ⊗ (q.y ⊗ r.z ⊖ q.z ⊗ r.y) ⊖ p.y ⊗ (q.x ⊗ r.z ⊖ q.z ⊗ r.x) ⊕ p.z ⊗ (q.x ⊗ r.y ⊖ q.y ⊗ r.x)

abbrev pub det : Corner → Corner → Corner → Corner → Expression
det a b c d = of_vectors (less b a) (less c a) (less d a)
