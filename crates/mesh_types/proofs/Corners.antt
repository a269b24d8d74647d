-- The points of the corners of a tetrahedron.
use Rattle.std.proofs.Common.{◌≡◌, ℕ, ◌<◌, List, [], ◌∷◌, length, get_or, All, refl, sym, subst}
use Rattle.grid.specs.declared.shapes.Point.{Point}
use Rattle.grid.specs.Boxes.{IsInBox}
use Rattle.grid.specs.Determinants.{point_at, det, det_at, origin}

pub det-four : (points : List Point) (x : List ℕ) → length x ≡ 4 → det_at points x ≡ det (point_at points (get_or x 0 0)) (point_at points (get_or x 1 0)) (point_at points (get_or x 2 0)) (point_at points (get_or x 3 0))
det-four points [] e = cc e
det-four points (a ∷ []) e = cc e
det-four points (a ∷ b ∷ []) e = cc e
det-four points (a ∷ b ∷ c ∷ []) e = cc e
det-four points (a ∷ b ∷ c ∷ d ∷ []) e = refl
det-four points (a ∷ b ∷ c ∷ d ∷ f ∷ x) e = cc e

pub corner-in : (n : ℕ) (points : List Point) (x : List ℕ) (i : ℕ) (p : Point) → All (IsInBox n) points → All (λ u. u < length points) x → i < length x → p ≡ point_at points (get_or x i 0) → IsInBox n p
corner-in n points x i p inside low lt e = subst (IsInBox n) (sym e) (inside (get_or x i 0) origin (low i 0 lt))
