-- The gap between a scaled point and a weighted sum of corners, as a vector.
use Rattle.std.proofs.Common.{◌≡◌, ℕ, ◌+◌, ◌*◌, ◌^◌, [], ◌∷◌, ℤ, pos, ◌*ℤ◌, ◌≤ℤ◌, ◌<ℤ◌, refl, arith, ap, subst, ◌∙◌, pow-suc}
use Rattle.std.proofs.Math.Nat.{pow-zero}
use Rattle.int_algebra.proofs.Ring.{◌⊗◌, ring, of_naturals}
use Rattle.int_algebra.proofs.Orders.{below, one_more, given, ◌⊞◌, ◌⊠◌, ◌≼◌}
use Rattle.grid.specs.declared.shapes.Point.{Point}
use Rattle.grid.specs.Vectors.{Vector, dot}
use Rattle.grid.specs.Near.{IsNearCorners, gap_at, sq_gap}
use Rattle.grid.proofs.VectorExpressions.{at_, zero_, one_}

-- s p - t (u a + v b + w c)
unfoldable pub weighted_gap : (s t u v w : ℤ) → (p a b c : Point) → Vector
weighted_gap s t u v w p a b c = record {
  x = gap_at s t u v w p.x a.x b.x c.x;
  y = gap_at s t u v w p.y a.y b.y c.y;
  z = gap_at s t u v w p.z a.z b.z c.z;
}

-- its square is the one that nearness speaks of
pub sq_gap-weighted_gap : (s t u v w : ℤ) (p a b c : Point) → sq_gap s t u v w p a b c ≡ dot (weighted_gap s t u v w p a b c) (weighted_gap s t u v w p a b c)
unfolding sq_gap dot weighted_gap
sq_gap-weighted_gap s t u v w p a b c = refl

-- ---- squares and products of numbers
pub square_is : (n : ℕ) → n ^ 2 ≡ n * n
square_is n =
    let one : n ^ 1 ≡ n = omega (arith, pow-suc n 0, ap (λ k. k * n) (pow-zero n)) in
    pow-suc n 1 ∙ ap (λ k. k * n) one

pub squares_are : (e s : ℕ) → pos ((e * s) ^ 2) ≡ pos (e * e) *ℤ (pos s *ℤ pos s)
squares_are e s = ap pos (square_is (e * s) ∙ of_naturals (ring (pos e ∷ pos s ∷ []) (at_ 0 ⊗ at_ 1 ⊗ (at_ 0 ⊗ at_ 1)) (at_ 0 ⊗ at_ 0 ⊗ (at_ 1 ⊗ at_ 1)) refl))

pub product-Positive : (a b : ℤ) → pos 0 <ℤ a → pos 0 <ℤ b → pos 0 <ℤ (a *ℤ b)
product-Positive a b p q =
    below (a ∷ b ∷ []) ((one_ ≼ at_ 0) ∷ (one_ ≼ at_ 1) ∷ []) zero_ (at_ 0 ⊗ at_ 1) (given 0 ⊠ given 1 ⊞ given 0 ⊞ given 1) refl (one_more _ _ p, (one_more _ _ q, tt))

-- ---- a near point by its gap
pub gap_of_near : (p : Point) (k e : ℕ) (a b c : Point) (n : IsNearCorners p k e a b c)
    → dot (weighted_gap (pos (n.u + n.v + n.w)) (pos (2 ^ k)) (pos n.u) (pos n.v) (pos n.w) p a b c) (weighted_gap (pos (n.u + n.v + n.w)) (pos (2 ^ k)) (pos n.u) (pos n.v) (pos n.w) p a b c) ≤ℤ pos ((e * 2 ^ k * (n.u + n.v + n.w)) ^ 2)
gap_of_near p k e a b c n =
    subst (λ (t : ℤ). t ≤ℤ pos ((e * 2 ^ k * (n.u + n.v + n.w)) ^ 2)) (sq_gap-weighted_gap (pos (n.u + n.v + n.w)) (pos (2 ^ k)) (pos n.u) (pos n.v) (pos n.w) p a b c) n.close
