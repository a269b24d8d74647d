-- Even permutations of the corners of a tetrahedron.
use Rattle.std.proofs.Common.{◌≡◌, ℕ, List, [], ◌∷◌, Bool, true, false, ◌||◌, eqb, refl, ◌∙◌, arith, ℤ}
use Rattle.grid.specs.declared.shapes.Point.{Point}
use Rattle.grid.specs.Simplices.{has, faces}
use Rattle.grid.specs.Determinants.{det, point_at, det_at}
use Rattle.mesh_types.proofs.Sums.{total}
use Rattle.mesh_types.proofs.Opened.{IsOfFaces}
use Rattle.mesh_types.proofs.Cones.{coordinates}
use Rattle.int_algebra.proofs.Laws.{linear}
use Rattle.int_algebra.proofs.Ring.{ring}
use Rattle.int_algebra.proofs.Corners.{corner, det as det_expression}

-- the same oriented tetrahedron
pub record IsTurned (x y : List ℕ) : Type 0 where
  pub sums : (f : List ℕ → ℤ) → IsOfFaces f → total f (faces x) ≡ total f (faces y)
  pub dets : (points : List Point) → det_at points x ≡ det_at points y
  pub corners : (o : ℕ) → has x o ≡ has y o

pub turned_by : {x y z : List ℕ} → IsTurned x y → IsTurned y z → IsTurned x z
turned_by s t = record {
  sums = λ f h. s.sums f h ∙ t.sums f h;
  dets = λ points. s.dets points ∙ t.dets points;
  corners = λ o. s.corners o ∙ t.corners o;
}

det-pairs : (a b c d : Point) → det a b c d ≡ det b a d c
unfolding det
det-pairs a b c d = ring (coordinates (a ∷ b ∷ c ∷ d ∷ [])) (det_expression (corner 0) (corner 1) (corner 2) (corner 3)) (det_expression (corner 1) (corner 0) (corner 3) (corner 2)) refl

det-last : (a b c d : Point) → det a b c d ≡ det a c d b
unfolding det
det-last a b c d = ring (coordinates (a ∷ b ∷ c ∷ d ∷ [])) (det_expression (corner 0) (corner 1) (corner 2) (corner 3)) (det_expression (corner 0) (corner 2) (corner 3) (corner 1)) refl

has-pairs : (a b c d : Bool) → (a || (b || (c || (d || false)))) ≡ (b || (a || (d || (c || false))))
has-pairs true true c d = refl
has-pairs true false c d = refl
has-pairs false true c d = refl
has-pairs false false true true = refl
has-pairs false false true false = refl
has-pairs false false false true = refl
has-pairs false false false false = refl

has-last : (a b c d : Bool) → (a || (b || (c || (d || false)))) ≡ (a || (c || (d || (b || false))))
has-last true b c d = refl
has-last false true true d = refl
has-last false true false true = refl
has-last false true false false = refl
has-last false false true d = refl
has-last false false false true = refl
has-last false false false false = refl

pub swap_pairs : (a b c d : ℕ) → IsTurned (a ∷ b ∷ c ∷ d ∷ []) (b ∷ a ∷ d ∷ c ∷ [])
swap_pairs a b c d = record {
  sums = λ f t. omega (arith, linear, t.turned a c b, t.turned c b a, t.turned a b d, t.turned b d a);
  dets = λ ps. det-pairs (point_at ps a) (point_at ps b) (point_at ps c) (point_at ps d);
  corners = λ o. has-pairs (eqb a o) (eqb b o) (eqb c o) (eqb d o);
}

pub turn_last : (a b c d : ℕ) → IsTurned (a ∷ b ∷ c ∷ d ∷ []) (a ∷ c ∷ d ∷ b ∷ [])
turn_last a b c d = record {
  sums = λ f t. omega (arith, linear, t.turned b c d, t.turned c d b);
  dets = λ ps. det-last (point_at ps a) (point_at ps b) (point_at ps c) (point_at ps d);
  corners = λ o. has-last (eqb a o) (eqb b o) (eqb c o) (eqb d o);
}
