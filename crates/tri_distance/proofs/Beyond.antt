-- A point whose coordinate is beyond the corners' is not near.
use Rattle.std.proofs.Common.{ℕ, ◌+◌, ◌*◌, ◌^◌, ◌<◌, [], ◌∷◌, ℤ, pos, ◌+ℤ◌, ◌-ℤ◌, ◌*ℤ◌, ◌≤ℤ◌, ◌<ℤ◌, refl, inl, inr, arith, subst}
use lib.Signed.{clash_ℤ}
use Rattle.int_algebra.proofs.Laws.{linear}
use Rattle.int_algebra.proofs.Ring.{◌⊕◌, ◌⊖◌, ◌⊗◌}
use Rattle.int_algebra.proofs.Orders.{Certificate, at_most, below, one_more, natural, square, given, ◌⊞◌, ◌⊠◌, ◌≼◌, natural-NonNegative}
use Rattle.grid.specs.declared.shapes.Point.{Point}
use Rattle.grid.specs.Near.{gap_at, sq_gap, IsNearCorners}
use Rattle.grid.proofs.ForCallers.{at_, zero_, one_, square_is}
use Rattle.vectors.specs.Bounded.{gap_of}
use Rattle.tri_distance.specs.Apart.{IsApart, AreBeyond, AreFar}

-- by how much the gap is more than the reach: s for the weights' sum, d for the rest
abbrev room : Certificate
room =
    let s = given 3 ⊞ natural 1 in
    let d = given 0 ⊠ given 4 ⊞ given 1 ⊠ given 5 ⊞ given 2 ⊠ given 6 in
    natural 2 ⊠ given 3 ⊞ given 3 ⊠ given 3 ⊞ natural 2 ⊠ s ⊠ d ⊞ d ⊠ d ⊞ natural 2 ⊠ given 7 ⊠ s ⊠ s ⊞ natural 2 ⊠ given 7 ⊠ s ⊠ d

apart_gap : (p a b c u v w t r : ℤ) → pos 0 ≤ℤ u → pos 0 ≤ℤ v → pos 0 ≤ℤ w → pos 0 <ℤ (u +ℤ v +ℤ w) → pos 0 ≤ℤ r → IsApart p t r a b c
    → (r *ℤ (u +ℤ v +ℤ w) *ℤ (r *ℤ (u +ℤ v +ℤ w))) <ℤ (gap_at (u +ℤ v +ℤ w) t u v w p a b c *ℤ gap_at (u +ℤ v +ℤ w) t u v w p a b c)
apart_gap p a b c u v w t r hu hv hw some hr (inl h) =
    let x = λ (i : ℕ). at_ i in
    let s = x 4 ⊕ x 5 ⊕ x 6 in
    let gap = s ⊗ x 0 ⊖ x 7 ⊗ (x 4 ⊗ x 1 ⊕ x 5 ⊗ x 2 ⊕ x 6 ⊗ x 3) in
    below (p ∷ a ∷ b ∷ c ∷ u ∷ v ∷ w ∷ t ∷ r ∷ [])
    ((zero_ ≼ x 4) ∷ (zero_ ≼ x 5) ∷ (zero_ ≼ x 6) ∷ (one_ ≼ s) ∷ (x 0 ⊕ x 8 ⊕ one_ ≼ x 7 ⊗ x 1) ∷ (x 0 ⊕ x 8 ⊕ one_ ≼ x 7 ⊗ x 2) ∷ (x 0 ⊕ x 8 ⊕ one_ ≼ x 7 ⊗ x 3) ∷ (zero_ ≼ x 8) ∷ [])
    (x 8 ⊗ s ⊗ (x 8 ⊗ s)) (gap ⊗ gap) room refl
    (hu, (hv, (hw, (one_more (pos 0) _ some, (one_more _ _ h.0, (one_more _ _ h.1, (one_more _ _ h.2, (hr, tt))))))))
apart_gap p a b c u v w t r hu hv hw some hr (inr h) =
    let x = λ (i : ℕ). at_ i in
    let s = x 4 ⊕ x 5 ⊕ x 6 in
    let gap = s ⊗ x 0 ⊖ x 7 ⊗ (x 4 ⊗ x 1 ⊕ x 5 ⊗ x 2 ⊕ x 6 ⊗ x 3) in
    below (p ∷ a ∷ b ∷ c ∷ u ∷ v ∷ w ∷ t ∷ r ∷ [])
    ((zero_ ≼ x 4) ∷ (zero_ ≼ x 5) ∷ (zero_ ≼ x 6) ∷ (one_ ≼ s) ∷ (x 7 ⊗ x 1 ⊕ one_ ≼ x 0 ⊖ x 8) ∷ (x 7 ⊗ x 2 ⊕ one_ ≼ x 0 ⊖ x 8) ∷ (x 7 ⊗ x 3 ⊕ one_ ≼ x 0 ⊖ x 8) ∷ (zero_ ≼ x 8) ∷ [])
    (x 8 ⊗ s ⊗ (x 8 ⊗ s)) (gap ⊗ gap) room refl
    (hu, (hv, (hw, (one_more (pos 0) _ some, (one_more _ _ h.0, (one_more _ _ h.1, (one_more _ _ h.2, (hr, tt))))))))

-- the square at one coordinate is at most the whole
part_at_most : (x y z m : ℤ) → (x *ℤ x +ℤ y *ℤ y +ℤ z *ℤ z) ≤ℤ m → ((x *ℤ x) ≤ℤ m) × ((y *ℤ y) ≤ℤ m) × ((z *ℤ z) ≤ℤ m)
part_at_most x y z m h =
    let all = x ∷ y ∷ z ∷ m ∷ [] in
    let fact = (at_ 0 ⊗ at_ 0 ⊕ at_ 1 ⊗ at_ 1 ⊕ at_ 2 ⊗ at_ 2 ≼ at_ 3) ∷ [] in (
      at_most all fact (at_ 0 ⊗ at_ 0) (at_ 3) (given 0 ⊞ square (at_ 1) ⊞ square (at_ 2)) refl (h, tt),
      at_most all fact (at_ 1 ⊗ at_ 1) (at_ 3) (given 0 ⊞ square (at_ 0) ⊞ square (at_ 2)) refl (h, tt),
      at_most all fact (at_ 2 ⊗ at_ 2) (at_ 3) (given 0 ⊞ square (at_ 0) ⊞ square (at_ 1)) refl (h, tt),
    )

-- ---- a near point is apart at no coordinate
not_apart : (q i j l : ℤ) (k e u v w : ℕ) → 0 < u + v + w
    → (gap_at (pos (u + v + w)) (pos (2 ^ k)) (pos u) (pos v) (pos w) q i j l *ℤ gap_at (pos (u + v + w)) (pos (2 ^ k)) (pos u) (pos v) (pos w) q i j l) ≤ℤ pos (e * 2 ^ k * (u + v + w) * (e * 2 ^ k * (u + v + w)))
    → IsApart q (pos (2 ^ k)) (pos (e * 2 ^ k)) i j l → ⊥
not_apart q i j l k e u v w some h apart =
    clash_ℤ (apart_gap q i j l (pos u) (pos v) (pos w) (pos (2 ^ k)) (pos (e * 2 ^ k)) (natural-NonNegative u) (natural-NonNegative v) (natural-NonNegative w) (omega (arith, linear, some)) (natural-NonNegative (e * 2 ^ k)) apart) h

near_parts : (p : Point) (k e : ℕ) (a b c : Point) (n : IsNearCorners p k e a b c) → (IsApart p.x (pos (2 ^ k)) (pos (e * 2 ^ k)) a.x b.x c.x → ⊥) × (IsApart p.y (pos (2 ^ k)) (pos (e * 2 ^ k)) a.y b.y c.y → ⊥) × (IsApart p.z (pos (2 ^ k)) (pos (e * 2 ^ k)) a.z b.z c.z → ⊥)
unfolding sq_gap
near_parts p k e a b c n =
    let far = e * 2 ^ k * (n.u + n.v + n.w) in
    let gap = gap_at (pos (n.u + n.v + n.w)) (pos (2 ^ k)) (pos n.u) (pos n.v) (pos n.w) in
    let whole = subst (λ (i : ℕ). sq_gap (pos (n.u + n.v + n.w)) (pos (2 ^ k)) (pos n.u) (pos n.v) (pos n.w) p a b c ≤ℤ pos i) (square_is far) n.close in
    let parts = part_at_most (gap p.x a.x b.x c.x) (gap p.y a.y b.y c.y) (gap p.z a.z b.z c.z) (pos (far * far)) whole in
    (not_apart p.x a.x b.x c.x k e n.u n.v n.w n.some parts.0, not_apart p.y a.y b.y c.y k e n.u n.v n.w n.some parts.1, not_apart p.z a.z b.z c.z k e n.u n.v n.w n.some parts.2)

pub x_apart : (p : Point) (k e : ℕ) (a b c : Point) → IsApart p.x (pos (2 ^ k)) (pos (e * 2 ^ k)) a.x b.x c.x → IsNearCorners p k e a b c → ⊥
x_apart p k e a b c apart n = (near_parts p k e a b c n).0 apart

pub y_apart : (p : Point) (k e : ℕ) (a b c : Point) → IsApart p.y (pos (2 ^ k)) (pos (e * 2 ^ k)) a.y b.y c.y → IsNearCorners p k e a b c → ⊥
y_apart p k e a b c apart n = (near_parts p k e a b c n).1 apart

pub z_apart : (p : Point) (k e : ℕ) (a b c : Point) → IsApart p.z (pos (2 ^ k)) (pos (e * 2 ^ k)) a.z b.z c.z → IsNearCorners p k e a b c → ⊥
z_apart p k e a b c apart n = (near_parts p k e a b c n).2 apart

-- ---- the same by the vectors from the corners
AreBeyond-IsApart : (p t r a b c : ℤ) → AreBeyond r (p -ℤ t *ℤ a) (p -ℤ t *ℤ b) (p -ℤ t *ℤ c) → IsApart p t r a b c
AreBeyond-IsApart p t r a b c (inl h) = inr (above a h.0, above b h.1, above c h.2)
  where
    above : (z : ℤ) → r <ℤ (p -ℤ t *ℤ z) → (t *ℤ z) <ℤ (p -ℤ r)
    above z h = omega (arith, linear)
AreBeyond-IsApart p t r a b c (inr h) = inl (below_all a h.0, below_all b h.1, below_all c h.2)
  where
    below_all : (z : ℤ) → (p -ℤ t *ℤ z) <ℤ (pos 0 -ℤ r) → (p +ℤ r) <ℤ (t *ℤ z)
    below_all z h = omega (arith, linear)

pub far_away : (p : Point) (k e : ℕ) (a b c : Point) → AreFar (gap_of p (pos (2 ^ k)) a) (gap_of p (pos (2 ^ k)) b) (gap_of p (pos (2 ^ k)) c) (pos (e * 2 ^ k)) → IsNearCorners p k e a b c → ⊥
unfolding gap_of
far_away p k e a b c (inl h) = x_apart p k e a b c (AreBeyond-IsApart p.x (pos (2 ^ k)) (pos (e * 2 ^ k)) a.x b.x c.x h)
far_away p k e a b c (inr (inl h)) = y_apart p k e a b c (AreBeyond-IsApart p.y (pos (2 ^ k)) (pos (e * 2 ^ k)) a.y b.y c.y h)
far_away p k e a b c (inr (inr h)) = z_apart p k e a b c (AreBeyond-IsApart p.z (pos (2 ^ k)) (pos (e * 2 ^ k)) a.z b.z c.z h)
