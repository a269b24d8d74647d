-- A triangle is near exactly where an edge is near, or where the foot on its plane is inside and near.
use Rattle.std.proofs.Common.{◌≡◌, ℕ, ◌+◌, ◌*◌, ◌^◌, [], ◌∷◌, ℤ, pos, negsuc, ◌+ℤ◌, ◌-ℤ◌, ◌*ℤ◌, ◌≤ℤ◌, ◌<ℤ◌, refl, ◌⊎◌, inl, inr, ◌↔◌, arith, subst, sym}
use Rattle.std.proofs.lemmas.Int.{by_lt_z}
use Rattle.int_algebra.proofs.Laws.{linear}
use Rattle.int_algebra.proofs.Ring.{◌⊕◌, ◌⊖◌, ◌⊗◌, ring}
use Rattle.int_algebra.proofs.Orders.{natural-NonNegative}
use Rattle.grid.specs.declared.shapes.Point.{Point}
use Rattle.grid.specs.Vectors.{Vector, dot, cross, minus, sum_of_two, sum_of_three, scaled}
use Rattle.vectors.specs.Bounded.{gap_of}
use Rattle.grid.specs.Near.{IsNearCorners}
use Rattle.tri_distance.specs.Parts.{NearSegment, NearTriangle, NearPlane}
use Rattle.grid.proofs.ForCallers.{weighted_gap, sq_gap-weighted_gap, gap_of_near, squares_are, at_, zero_}
use Rattle.tri_distance.proofs.Moves.{NearEdge}
use Rattle.tri_distance.proofs.Planes.{plane-NearTriangle, sharp_near}
use Rattle.tri_distance.proofs.Flat.{flat_near}

both_are : {g h : Vector} {s t : ℤ} (r : ℤ) → s ≡ t → g ≡ h → dot g g ≤ℤ (r *ℤ (s *ℤ s)) → dot h h ≤ℤ (r *ℤ (t *ℤ t))
both_are {g} {h} {s} {t} r e f c = subst (λ (q : Vector). dot q q ≤ℤ (r *ℤ (t *ℤ t))) f (subst (λ (n : ℤ). dot g g ≤ℤ (r *ℤ (n *ℤ n))) e c)

-- ---- an edge is a part of the triangle
edge_sum : (v w : ℤ) (x y z : Vector) → sum_of_two v w x y ≡ sum_of_three v w (pos 0) x y z
unfolding sum_of_two sum_of_three
edge_sum v w x y z =
    let at : (a b c : ℤ) → v *ℤ a +ℤ w *ℤ b ≡ v *ℤ a +ℤ w *ℤ b +ℤ pos 0 *ℤ c =
    λ a b c. ring (v ∷ w ∷ a ∷ b ∷ c ∷ []) (at_ 0 ⊗ at_ 2 ⊕ at_ 1 ⊗ at_ 3) (at_ 0 ⊗ at_ 2 ⊕ at_ 1 ⊗ at_ 3 ⊕ zero_ ⊗ at_ 4) refl in
    λ i. record { x = at x.x y.x z.x i; y = at x.y y.y z.y i; z = at x.z y.z z.z i }

first_edge : (x y z : Vector) (r : ℤ) → NearSegment x y r → NearTriangle x y z r
first_edge x y z r n =
    let s : n.v +ℤ n.w ≡ n.v +ℤ n.w +ℤ pos 0 = omega (arith, linear) in
    record {
      u = n.v;
      v = n.w;
      w = pos 0;
      u_in = n.v_in;
      v_in = n.w_in;
      w_in = natural-NonNegative 0;
      some = omega (arith, linear, n.some);
      close = both_are r s (edge_sum n.v n.w x y z) n.close;
    }

turned_sum : (u v w : ℤ) (x y z : Vector) → sum_of_three u v w y z x ≡ sum_of_three w u v x y z
unfolding sum_of_three
turned_sum u v w x y z =
    let at : (a b c : ℤ) → u *ℤ b +ℤ v *ℤ c +ℤ w *ℤ a ≡ w *ℤ a +ℤ u *ℤ b +ℤ v *ℤ c = λ a b c. omega (arith, linear) in
    λ i. record { x = at x.x y.x z.x i; y = at x.y y.y z.y i; z = at x.z y.z z.z i }

turned-NearTriangle : (x y z : Vector) (r : ℤ) → NearTriangle y z x r → NearTriangle x y z r
turned-NearTriangle x y z r n =
    let s : n.u +ℤ n.v +ℤ n.w ≡ n.w +ℤ n.u +ℤ n.v = omega (arith, linear) in
    record {
      u = n.w;
      v = n.u;
      w = n.v;
      u_in = n.w_in;
      v_in = n.u_in;
      w_in = n.v_in;
      some = omega (arith, linear, n.some);
      close = both_are r s (turned_sum n.u n.v n.w x y z) n.close;
    }

edge-NearTriangle : (x y z : Vector) (r : ℤ) → NearEdge x y z r → NearTriangle x y z r
edge-NearTriangle x y z r (inl n) = first_edge x y z r n
edge-NearTriangle x y z r (inr (inl n)) = turned-NearTriangle x y z r (first_edge y z x r n)
edge-NearTriangle x y z r (inr (inr n)) = turned-NearTriangle x y z r (turned-NearTriangle y z x r (first_edge z x y r n))

-- the parts of the triangle
pub triangle_is : (x y z m : Vector) (k r : ℤ) → pos 0 <ℤ k → cross (minus y x) (minus z x) ≡ scaled k m → (NearEdge x y z r ⊎ NearPlane x y z m r) ↔ NearTriangle x y z r
triangle_is x y z m k r p e = (from_part, λ n. by_lt_z (pos 0) (dot m m) (λ l. sharp_near x y z m k r p e l n) (λ l. inl (flat_near x y z m k r e l n)))
  where
    from_part : NearEdge x y z r ⊎ NearPlane x y z m r → NearTriangle x y z r
    from_part (inl n) = edge-NearTriangle x y z r n
    from_part (inr n) = plane-NearTriangle x y z m k r p e n

-- ---- the definition by points
gap_sum : (u v w k : ℤ) (p a b c : Point) → sum_of_three u v w (gap_of p k a) (gap_of p k b) (gap_of p k c) ≡ weighted_gap (u +ℤ v +ℤ w) k u v w p a b c
unfolding sum_of_three gap_of weighted_gap
gap_sum u v w k p a b c =
    let at : (q i j l : ℤ) → u *ℤ (q -ℤ k *ℤ i) +ℤ v *ℤ (q -ℤ k *ℤ j) +ℤ w *ℤ (q -ℤ k *ℤ l) ≡ (u +ℤ v +ℤ w) *ℤ q -ℤ k *ℤ (u *ℤ i +ℤ v *ℤ j +ℤ w *ℤ l) =
    λ q i j l. ring (u ∷ v ∷ w ∷ k ∷ q ∷ i ∷ j ∷ l ∷ [])
    (at_ 0 ⊗ (at_ 4 ⊖ at_ 3 ⊗ at_ 5) ⊕ at_ 1 ⊗ (at_ 4 ⊖ at_ 3 ⊗ at_ 6) ⊕ at_ 2 ⊗ (at_ 4 ⊖ at_ 3 ⊗ at_ 7))
    ((at_ 0 ⊕ at_ 1 ⊕ at_ 2) ⊗ at_ 4 ⊖ at_ 3 ⊗ (at_ 0 ⊗ at_ 5 ⊕ at_ 1 ⊗ at_ 6 ⊕ at_ 2 ⊗ at_ 7)) refl in
    λ i. record { x = at p.x a.x b.x c.x i; y = at p.y a.y b.y c.y i; z = at p.z a.z b.z c.z i }

pub near_triangle : (p : Point) (k e : ℕ) (a b c : Point) → IsNearCorners p k e a b c
    → NearTriangle (gap_of p (pos (2 ^ k)) a) (gap_of p (pos (2 ^ k)) b) (gap_of p (pos (2 ^ k)) c) (pos (e * 2 ^ k * (e * 2 ^ k)))
near_triangle p k e a b c n = record {
  u = pos n.u;
  v = pos n.v;
  w = pos n.w;
  u_in = natural-NonNegative n.u;
  v_in = natural-NonNegative n.v;
  w_in = natural-NonNegative n.w;
  some = omega (arith, linear, n.some);
  close = subst (λ (q : Vector). dot q q ≤ℤ (pos (e * 2 ^ k * (e * 2 ^ k)) *ℤ (pos (n.u + n.v + n.w) *ℤ pos (n.u + n.v + n.w)))) (sym (gap_sum (pos n.u) (pos n.v) (pos n.w) (pos (2 ^ k)) p a b c))
      (subst (λ (t : ℤ). dot (weighted_gap (pos (n.u + n.v + n.w)) (pos (2 ^ k)) (pos n.u) (pos n.v) (pos n.w) p a b c) (weighted_gap (pos (n.u + n.v + n.w)) (pos (2 ^ k)) (pos n.u) (pos n.v) (pos n.w) p a b c) ≤ℤ t) (squares_are (e * 2 ^ k) (n.u + n.v + n.w)) (gap_of_near p k e a b c n));
}

near_corners_by : (p : Point) (k e : ℕ) (a b c : Point) (u v w : ℤ) → pos 0 ≤ℤ u → pos 0 ≤ℤ v → pos 0 ≤ℤ w → pos 0 <ℤ (u +ℤ v +ℤ w)
    → dot (weighted_gap (u +ℤ v +ℤ w) (pos (2 ^ k)) u v w p a b c) (weighted_gap (u +ℤ v +ℤ w) (pos (2 ^ k)) u v w p a b c) ≤ℤ (pos (e * 2 ^ k * (e * 2 ^ k)) *ℤ ((u +ℤ v +ℤ w) *ℤ (u +ℤ v +ℤ w))) → IsNearCorners p k e a b c
near_corners_by p k e a b c (negsuc u) v w f g h some close = absurd f.le
near_corners_by p k e a b c (pos u) (negsuc v) w f g h some close = absurd g.le
near_corners_by p k e a b c (pos u) (pos v) (negsuc w) f g h some close = absurd h.le
near_corners_by p k e a b c (pos u) (pos v) (pos w) f g h some close = record {
  u = u;
  v = v;
  w = w;
  some = omega (arith, linear, some);
  close = subst (λ (t : ℤ). t ≤ℤ pos ((e * 2 ^ k * (u + v + w)) ^ 2)) (sym (sq_gap-weighted_gap (pos (u + v + w)) (pos (2 ^ k)) (pos u) (pos v) (pos w) p a b c))
      (subst (λ (t : ℤ). dot (weighted_gap (pos (u + v + w)) (pos (2 ^ k)) (pos u) (pos v) (pos w) p a b c) (weighted_gap (pos (u + v + w)) (pos (2 ^ k)) (pos u) (pos v) (pos w) p a b c) ≤ℤ t) (sym (squares_are (e * 2 ^ k) (u + v + w))) close);
}

pub near_corners : (p : Point) (k e : ℕ) (a b c : Point)
    → NearTriangle (gap_of p (pos (2 ^ k)) a) (gap_of p (pos (2 ^ k)) b) (gap_of p (pos (2 ^ k)) c) (pos (e * 2 ^ k * (e * 2 ^ k))) → IsNearCorners p k e a b c
near_corners p k e a b c n =
    near_corners_by p k e a b c n.u n.v n.w n.u_in n.v_in n.w_in n.some
    (subst (λ (q : Vector). dot q q ≤ℤ (pos (e * 2 ^ k * (e * 2 ^ k)) *ℤ ((n.u +ℤ n.v +ℤ n.w) *ℤ (n.u +ℤ n.v +ℤ n.w)))) (gap_sum n.u n.v n.w (pos (2 ^ k)) p a b c) n.close)
