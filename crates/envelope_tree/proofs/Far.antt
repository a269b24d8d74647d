-- A box that a point is far from has no triangle that the point is near to.
use Rattle.std.proofs.Common.{◌≡◌, ℕ, ◌+◌, ◌*◌, ◌^◌, [], ◌∷◌, ◌⊎◌, Bool, true, false, ℤ, pos, ◌+ℤ◌, ◌-ℤ◌, ◌*ℤ◌, ◌≤ℤ◌, ◌<ℤ◌, refl, inl, inr, arith, subst}
use lib.Signed.{clash_ℤ}
use Rattle.std.specs.Bool.{if◌then◌else◌}
use Rattle.std.specs.Int.Signed.{lt_z}
use Rattle.int_algebra.proofs.Laws.{linear}
use Rattle.int_algebra.proofs.Ring.{Expression, ◌⊕◌, ◌⊖◌, ◌⊗◌}
use Rattle.int_algebra.proofs.Orders.{Certificate, at_most, below, less_test, one_more, natural, square, given, ◌⊞◌, ◌⊠◌, ◌≼◌, natural-NonNegative}
use Rattle.grid.specs.declared.shapes.Point.{Point}
use Rattle.grid.specs.declared.shapes.Tri.{Tri}
use Rattle.grid.specs.Boxes.{corner_of}
use Rattle.grid.specs.Near.{gap_at, sq_gap, IsNearCorners, Near}
use Rattle.grid.proofs.ForCallers.{at_, zero_, one_, square_is}
use Rattle.envelope_tree.specs.declared.bounds.Interval.{Interval}
use Rattle.envelope_tree.specs.declared.bounds.Bounds.{Bounds}
use Rattle.envelope_tree.specs.Bounds.{Spans, HasPoint, Encloses}
use Rattle.envelope_tree.specs.Gaps.{outside_of, gap_of, IsFar}
use Rattle.envelope_tree.specs.declared.query.Query.{Query}
use Rattle.envelope_tree.specs.Queries.{IsNear, IsOutOfReach}

-- d is 0, or p is that far below low or above high
record IsOutside (p low high d : ℤ) : Type 0 where
  pub not_negative : pos 0 ≤ℤ d
  pub far : (d ≡ pos 0) ⊎ ((p +ℤ d) ≤ℤ low) ⊎ ((high +ℤ d) ≤ℤ p)

outside_is : (p low high : ℤ) → IsOutside p low high (outside_of p low high)
unfolding outside_of
outside_is p low high = below (lt_z p low) refl (lt_z high p) refl
  where
    below : (b : Bool) → lt_z p low ≡ b → (a : Bool) → lt_z high p ≡ a → IsOutside p low high (if lt_z p low then low -ℤ p else if lt_z high p then p -ℤ high else pos 0)
    below true e a f = rw e (record { not_negative = let l = (less_test p low).0 e in omega (arith, linear, l); far = inr (inl (omega (arith, linear))) })
    below false e true f = rw e (rw f (record { not_negative = let l = (less_test high p).0 f in omega (arith, linear, l); far = inr (inr (omega (arith, linear))) }))
    below false e false f = rw e (rw f (record { not_negative = omega (arith, linear); far = inl refl }))

-- what a corner's room in the interval adds: t for the scale, r for the rooms of the corners
abbrev inner : Certificate
inner = given 3 ⊠ (given 0 ⊠ given 4 ⊞ given 1 ⊠ given 5 ⊞ given 2 ⊠ given 6)

abbrev weights : Certificate
weights = given 0 ⊞ given 1 ⊞ given 2

abbrev room : Certificate
room = (inner ⊞ weights ⊠ given 7) ⊠ (inner ⊞ weights ⊠ given 7) ⊞ natural 2 ⊠ (inner ⊞ weights ⊠ given 7) ⊠ weights ⊠ given 8

abbrev sum_ : Expression
sum_ = at_ 4 ⊕ at_ 5 ⊕ at_ 6

abbrev gap_ : Expression
gap_ = sum_ ⊗ at_ 0 ⊖ at_ 7 ⊗ (at_ 4 ⊗ at_ 1 ⊕ at_ 5 ⊗ at_ 2 ⊕ at_ 6 ⊗ at_ 3)

-- the weighted gap at one coordinate is at least the weights' sum times the distance from the interval
module _ (p a b c u v w t d low high : ℤ) (hu : pos 0 ≤ℤ u) (hv : pos 0 ≤ℤ v) (hw : pos 0 ≤ℤ w) (ht : pos 0 ≤ℤ t) (hd : pos 0 ≤ℤ d) where
  abbrev IsWide : Type 0
  IsWide = ((u +ℤ v +ℤ w) *ℤ d *ℤ ((u +ℤ v +ℤ w) *ℤ d)) ≤ℤ (gap_at (u +ℤ v +ℤ w) t u v w p a b c *ℤ gap_at (u +ℤ v +ℤ w) t u v w p a b c)

  wide_none : d ≤ℤ pos 0 → IsWide
  wide_none h =
      at_most (p ∷ a ∷ b ∷ c ∷ u ∷ v ∷ w ∷ t ∷ d ∷ []) ((zero_ ≼ at_ 8) ∷ (at_ 8 ≼ zero_) ∷ []) (sum_ ⊗ at_ 8 ⊗ (sum_ ⊗ at_ 8)) (gap_ ⊗ gap_) (square gap_ ⊞ square sum_ ⊠ (given 0 ⊠ given 1)) refl (hd, (h, tt))

  wide_below : low ≤ℤ a → low ≤ℤ b → low ≤ℤ c → (p +ℤ d) ≤ℤ (t *ℤ low) → IsWide
  wide_below la lb lc h =
      at_most (p ∷ a ∷ b ∷ c ∷ u ∷ v ∷ w ∷ t ∷ d ∷ low ∷ [])
      ((zero_ ≼ at_ 4) ∷ (zero_ ≼ at_ 5) ∷ (zero_ ≼ at_ 6) ∷ (zero_ ≼ at_ 7) ∷ (at_ 9 ≼ at_ 1) ∷ (at_ 9 ≼ at_ 2) ∷ (at_ 9 ≼ at_ 3) ∷ (at_ 0 ⊕ at_ 8 ≼ at_ 7 ⊗ at_ 9) ∷ (zero_ ≼ at_ 8) ∷ [])
      (sum_ ⊗ at_ 8 ⊗ (sum_ ⊗ at_ 8)) (gap_ ⊗ gap_) room refl
      (hu, (hv, (hw, (ht, (la, (lb, (lc, (h, (hd, tt)))))))))

  wide_above : a ≤ℤ high → b ≤ℤ high → c ≤ℤ high → (t *ℤ high +ℤ d) ≤ℤ p → IsWide
  wide_above ha hb hc h =
      at_most (p ∷ a ∷ b ∷ c ∷ u ∷ v ∷ w ∷ t ∷ d ∷ high ∷ [])
      ((zero_ ≼ at_ 4) ∷ (zero_ ≼ at_ 5) ∷ (zero_ ≼ at_ 6) ∷ (zero_ ≼ at_ 7) ∷ (at_ 1 ≼ at_ 9) ∷ (at_ 2 ≼ at_ 9) ∷ (at_ 3 ≼ at_ 9) ∷ (at_ 7 ⊗ at_ 9 ⊕ at_ 8 ≼ at_ 0) ∷ (zero_ ≼ at_ 8) ∷ [])
      (sum_ ⊗ at_ 8 ⊗ (sum_ ⊗ at_ 8)) (gap_ ⊗ gap_) room refl
      (hu, (hv, (hw, (ht, (ha, (hb, (hc, (h, (hd, tt)))))))))

  wide_gap : (i : Interval) → i.low ≡ low → i.high ≡ high → Spans i a → Spans i b → Spans i c → (d ≡ pos 0) ⊎ ((p +ℤ d) ≤ℤ (t *ℤ low)) ⊎ ((t *ℤ high +ℤ d) ≤ℤ p) → IsWide
  wide_gap i el eh sa sb sc (inl h) = wide_none (omega (arith, linear, h))
  wide_gap i el eh sa sb sc (inr (inl h)) = wide_below (subst (λ (z : ℤ). z ≤ℤ a) el sa.low) (subst (λ (z : ℤ). z ≤ℤ b) el sb.low) (subst (λ (z : ℤ). z ≤ℤ c) el sc.low) h
  wide_gap i el eh sa sb sc (inr (inr h)) = wide_above (subst (λ (z : ℤ). a ≤ℤ z) eh sa.high) (subst (λ (z : ℤ). b ≤ℤ z) eh sb.high) (subst (λ (z : ℤ). c ≤ℤ z) eh sc.high) h

-- where the squares add to more than the reach's, the whole weighted gap is more than the weighted reach
too_far : (x y z g h k s r : ℤ) → pos 0 <ℤ s → (s *ℤ x *ℤ (s *ℤ x)) ≤ℤ (g *ℤ g) → (s *ℤ y *ℤ (s *ℤ y)) ≤ℤ (h *ℤ h) → (s *ℤ z *ℤ (s *ℤ z)) ≤ℤ (k *ℤ k)
    → (r *ℤ r) <ℤ (x *ℤ x +ℤ y *ℤ y +ℤ z *ℤ z) → (r *ℤ s *ℤ (r *ℤ s)) <ℤ (g *ℤ g +ℤ h *ℤ h +ℤ k *ℤ k)
too_far x y z g h k s r some a b c far =
    let sq = λ (i : ℕ). at_ 6 ⊗ at_ i ⊗ (at_ 6 ⊗ at_ i) in
    below (x ∷ y ∷ z ∷ g ∷ h ∷ k ∷ s ∷ r ∷ [])
    ((at_ 7 ⊗ at_ 7 ⊕ one_ ≼ at_ 0 ⊗ at_ 0 ⊕ at_ 1 ⊗ at_ 1 ⊕ at_ 2 ⊗ at_ 2) ∷ (one_ ≼ at_ 6) ∷ (sq 0 ≼ at_ 3 ⊗ at_ 3) ∷ (sq 1 ≼ at_ 4 ⊗ at_ 4) ∷ (sq 2 ≼ at_ 5 ⊗ at_ 5) ∷ [])
    (at_ 7 ⊗ at_ 6 ⊗ (at_ 7 ⊗ at_ 6)) (at_ 3 ⊗ at_ 3 ⊕ at_ 4 ⊗ at_ 4 ⊕ at_ 5 ⊗ at_ 5)
    (given 2 ⊞ given 3 ⊞ given 4 ⊞ square (at_ 6) ⊠ given 0 ⊞ given 1 ⊠ given 1 ⊞ natural 2 ⊠ given 1) refl
    (one_more _ _ far, (one_more (pos 0) _ some, (a, (b, (c, tt)))))

gap_wide : (q i j l : ℤ) (k u v w : ℕ) (r : Interval) → Spans r i → Spans r j → Spans r l
    → (pos (u + v + w) *ℤ gap_of q (pos (2 ^ k)) r *ℤ (pos (u + v + w) *ℤ gap_of q (pos (2 ^ k)) r)) ≤ℤ (gap_at (pos (u + v + w)) (pos (2 ^ k)) (pos u) (pos v) (pos w) q i j l *ℤ gap_at (pos (u + v + w)) (pos (2 ^ k)) (pos u) (pos v) (pos w) q i j l)
gap_wide q i j l k u v w r si sj sl =
    let o = outside_is q (pos (2 ^ k) *ℤ r.low) (pos (2 ^ k) *ℤ r.high) in
    wide_gap q i j l (pos u) (pos v) (pos w) (pos (2 ^ k)) (gap_of q (pos (2 ^ k)) r) r.low r.high (natural-NonNegative u) (natural-NonNegative v) (natural-NonNegative w) (natural-NonNegative (2 ^ k)) o.not_negative r refl refl si sj sl o.far

far_corners : (p : Point) (k e : ℕ) (a b c : Point) (box : Bounds) → HasPoint box a → HasPoint box b → HasPoint box c → IsFar p k box e → IsNearCorners p k e a b c → ⊥
unfolding sq_gap
far_corners p k e a b c box ha hb hc far n =
    let reach = e * 2 ^ k * (n.u + n.v + n.w) in
    let s = n.u + n.v + n.w in
    let gap = gap_at (pos s) (pos (2 ^ k)) (pos n.u) (pos n.v) (pos n.w) in
    let whole = subst (λ (i : ℕ). sq_gap (pos s) (pos (2 ^ k)) (pos n.u) (pos n.v) (pos n.w) p a b c ≤ℤ pos i) (square_is reach) n.close in
    let some : pos 0 <ℤ pos s = let h = n.some in omega (arith, linear, h) in
    clash_ℤ
    (too_far (gap_of p.x (pos (2 ^ k)) box.x) (gap_of p.y (pos (2 ^ k)) box.y) (gap_of p.z (pos (2 ^ k)) box.z) (gap p.x a.x b.x c.x) (gap p.y a.y b.y c.y) (gap p.z a.z b.z c.z) (pos s) (pos (e * 2 ^ k)) some
    (gap_wide p.x a.x b.x c.x k n.u n.v n.w box.x ha.x_in hb.x_in hc.x_in)
    (gap_wide p.y a.y b.y c.y k n.u n.v n.w box.y ha.y_in hb.y_in hc.y_in)
    (gap_wide p.z a.z b.z c.z k n.u n.v n.w box.z ha.z_in hb.z_in hc.z_in) far)
    whole

-- a point farther than e from the box is near to no triangle in it
far_triangle : (p : Point) (k e : ℕ) (tri : Tri) (box : Bounds) → IsFar p k box e → Encloses box tri → Near p k tri e → ⊥
far_triangle p k e tri box far h n =
    far_corners p k e (corner_of tri 0) (corner_of tri 1) (corner_of tri 2) box h.first h.second h.third far n

-- a box out of reach has no triangle that all points are near to
pub none_in_box : (q : Query) (box : Bounds) (tri : Tri) → IsOutOfReach q box → Encloses box tri → IsNear q tri → ⊥
none_in_box q box tri (inl far) h n = far_triangle q.a q.k q.e tri box far h n.a_near
none_in_box q box tri (inr (inl far)) h n = far_triangle q.b q.k q.e tri box far h n.b_near
none_in_box q box tri (inr (inr far)) h n = far_triangle q.c q.k q.e tri box far h n.c_near
