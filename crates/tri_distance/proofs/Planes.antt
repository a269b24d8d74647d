-- The plane of a triangle with corners x, y and z, seen from the point: its normal m, the foot, and how weights are moved towards it.
use Rattle.std.proofs.Common.{◌≡◌, [], ◌∷◌, ℤ, pos, ◌+ℤ◌, ◌*ℤ◌, ◌≤ℤ◌, ◌<ℤ◌, refl, ◌⊎◌, inl, inr, arith, subst, sym, ap, ◌∙◌}
use Rattle.std.proofs.lemmas.Int.{by_lt_z}
use Rattle.int_algebra.proofs.Laws.{linear}
use Rattle.int_algebra.proofs.Ring.{Expression, ◌⊕◌, ◌⊗◌, ring}
use Rattle.int_algebra.proofs.Orders.{at_most, natural, square, given, ◌⊞◌, ◌⊠◌, ◌≼◌, cancel-at_most, cancel-same, times_non_negative}
use Rattle.int_algebra.proofs.Corners.{less as less_, dot as dot_, cross as cross_}
use Rattle.grid.specs.Vectors.{Vector, dot, cross, minus, sum_of_two, sum_of_three, scaled}
use Rattle.tri_distance.specs.Parts.{NearTriangle, NearPlane}
use Rattle.grid.proofs.ForCallers.{product-Positive, coordinates_then, scaled_, plus_, length_, squares_, x_, y_, z_, m_, at_, zero_}
use Rattle.vectors.proofs.VectorLemmas.{length-NonNegative}
use Rattle.tri_distance.proofs.Segments.{square-Positive}
use Rattle.tri_distance.proofs.Moves.{CanMove, NearEdge, first_lower, second_lower, third_lower}

abbrev f_ : Expression
f_ = dot_ m_ (cross_ y_ z_)

abbrev g_ : Expression
g_ = dot_ m_ (cross_ z_ x_)

abbrev h_ : Expression
h_ = dot_ m_ (cross_ x_ y_)

-- ---- the weights of the foot
pub sides_sum : (x y z m : Vector) → dot m (cross y z) +ℤ dot m (cross z x) +ℤ dot m (cross x y) ≡ dot m (cross (minus y x) (minus z x))
unfolding dot minus
sides_sum x y z m =
    ring (coordinates_then (x ∷ y ∷ z ∷ m ∷ []) []) (f_ ⊕ g_ ⊕ h_) (dot_ m_ (cross_ (less_ y_ x_) (less_ z_ x_))) refl

dot-scaled : (k : ℤ) (m n : Vector) → dot m (scaled k n) ≡ k *ℤ dot m n
unfolding dot scaled
dot-scaled k m n =
    ring (coordinates_then (m ∷ n ∷ []) (k ∷ [])) (dot_ x_ (scaled_ (at_ 6) y_)) (at_ 6 ⊗ dot_ x_ y_) refl

scaled-dot : (k : ℤ) (m n : Vector) → dot (scaled k m) n ≡ k *ℤ dot m n
unfolding dot scaled
scaled-dot k m n =
    ring (coordinates_then (m ∷ n ∷ []) (k ∷ [])) (dot_ (scaled_ (at_ 6) x_) y_) (at_ 6 ⊗ dot_ x_ y_) refl

volume_is : (x y z : Vector) → dot x (cross y z) ≡ dot (cross (minus y x) (minus z x)) x
unfolding dot minus
volume_is x y z =
    ring (coordinates_then (x ∷ y ∷ z ∷ []) []) (dot_ x_ (cross_ y_ z_)) (dot_ (cross_ (less_ y_ x_) (less_ z_ x_)) x_) refl

-- each vector m is a sum of x, y and z
expansion : (x y z m : Vector) → sum_of_three (dot m (cross y z)) (dot m (cross z x)) (dot m (cross x y)) x y z ≡ scaled (dot x (cross y z)) m
unfolding dot sum_of_three scaled
expansion x y z m =
    let all = coordinates_then (x ∷ y ∷ z ∷ m ∷ []) [] in
    let d = dot_ x_ (cross_ y_ z_) in
    λ i. record {
      x = ring all (f_ ⊗ x_.x ⊕ g_ ⊗ y_.x ⊕ h_ ⊗ z_.x) (d ⊗ m_.x) refl i;
      y = ring all (f_ ⊗ x_.y ⊕ g_ ⊗ y_.y ⊕ h_ ⊗ z_.y) (d ⊗ m_.y) refl i;
      z = ring all (f_ ⊗ x_.z ⊕ g_ ⊗ y_.z ⊕ h_ ⊗ z_.z) (d ⊗ m_.z) refl i;
    }

-- the sides' products with m, where k m is the product of the sides
module _ (x y z m : Vector) (k : ℤ) (e : cross (minus y x) (minus z x) ≡ scaled k m) where
  sides_are : dot m (cross y z) +ℤ dot m (cross z x) +ℤ dot m (cross x y) ≡ k *ℤ dot m m
  sides_are = sides_sum x y z m ∙ ap (λ (n : Vector). dot m n) e ∙ dot-scaled k m m

  foot_is : sum_of_three (dot m (cross y z)) (dot m (cross z x)) (dot m (cross x y)) x y z ≡ scaled (k *ℤ dot m x) m
  foot_is = expansion x y z m ∙ ap (λ (t : ℤ). scaled t m) (volume_is x y z ∙ ap (λ (n : Vector). dot n x) e ∙ scaled-dot k m x)

-- ---- the foot is near
foot_near : (m : Vector) (k d r : ℤ) → (d *ℤ d) ≤ℤ (r *ℤ dot m m) → dot (scaled (k *ℤ d) m) (scaled (k *ℤ d) m) ≤ℤ (r *ℤ (k *ℤ dot m m *ℤ (k *ℤ dot m m)))
unfolding dot scaled
foot_near m k d r h =
    at_most (coordinates_then (m ∷ []) (k ∷ d ∷ r ∷ [])) ((at_ 4 ⊗ at_ 4 ≼ at_ 5 ⊗ length_ x_) ∷ [])
    (length_ (scaled_ (at_ 3 ⊗ at_ 4) x_)) (at_ 5 ⊗ (at_ 3 ⊗ length_ x_ ⊗ (at_ 3 ⊗ length_ x_)))
    (squares_ x_ ⊠ square (at_ 3) ⊠ given 0) refl (h, tt)

pub plane-NearTriangle : (x y z m : Vector) (k r : ℤ) → pos 0 <ℤ k → cross (minus y x) (minus z x) ≡ scaled k m → NearPlane x y z m r → NearTriangle x y z r
plane-NearTriangle x y z m k r p e n = record {
  u = dot m (cross y z);
  v = dot m (cross z x);
  w = dot m (cross x y);
  u_in = n.x_in;
  v_in = n.y_in;
  w_in = n.z_in;
  some = subst (λ (s : ℤ). pos 0 <ℤ s) (sym (sides_are x y z m k e)) (product-Positive k (dot m m) p n.some);
  close = subst (λ (q : Vector). dot q q ≤ℤ (r *ℤ ((dot m (cross y z) +ℤ dot m (cross z x) +ℤ dot m (cross x y)) *ℤ (dot m (cross y z) +ℤ dot m (cross z x) +ℤ dot m (cross x y))))) (sym (foot_is x y z m k e))
      (subst (λ (s : ℤ). dot (scaled (k *ℤ dot m x) m) (scaled (k *ℤ dot m x) m) ≤ℤ (r *ℤ (s *ℤ s))) (sym (sides_are x y z m k e)) (foot_near m k (dot m x) r n.close));
}

-- ---- a weighted_gap point has the product of the corners with the normal
weighted_product : (x y z : Vector) (u v w : ℤ) → dot (cross (minus y x) (minus z x)) (sum_of_three u v w x y z) ≡ (u +ℤ v +ℤ w) *ℤ dot (cross (minus y x) (minus z x)) x
unfolding dot minus sum_of_three
weighted_product x y z u v w =
    let n = cross_ (less_ y_ x_) (less_ z_ x_) in
    ring (coordinates_then (x ∷ y ∷ z ∷ []) (u ∷ v ∷ w ∷ []))
    (dot_ n (plus_ (plus_ (scaled_ (at_ 9) x_) (scaled_ (at_ 10) y_)) (scaled_ (at_ 11) z_))) ((at_ 9 ⊕ at_ 10 ⊕ at_ 11) ⊗ dot_ n x_) refl

product_is : (x y z m : Vector) (k u v w : ℤ) → pos 0 <ℤ k → cross (minus y x) (minus z x) ≡ scaled k m
    → dot m (sum_of_three u v w x y z) ≡ (u +ℤ v +ℤ w) *ℤ dot m x
product_is x y z m k u v w p e =
    let s = u +ℤ v +ℤ w in
    let g = sum_of_three u v w x y z in
    cancel-same k (dot m g) (s *ℤ dot m x) p
    (sym (scaled-dot k m g) ∙ ap (λ (n : Vector). dot n g) (sym e) ∙ weighted_product x y z u v w ∙ ap (λ (n : Vector). s *ℤ dot n x) e ∙ ap (λ (t : ℤ). s *ℤ t) (scaled-dot k m x)
    ∙ ring (s ∷ k ∷ dot m x ∷ []) (at_ 0 ⊗ (at_ 1 ⊗ at_ 2)) (at_ 1 ⊗ (at_ 0 ⊗ at_ 2)) refl)

-- ---- moved towards the foot, a weighted_gap point stays near
lagrange : (g m : Vector) → dot m m *ℤ dot g g ≡ dot m g *ℤ dot m g +ℤ dot (cross g m) (cross g m)
unfolding dot
lagrange g m =
    ring (coordinates_then (g ∷ m ∷ []) []) (length_ y_ ⊗ length_ x_) (dot_ y_ x_ ⊗ dot_ y_ x_ ⊕ length_ (cross_ x_ y_)) refl

moved-lagrange : (g m : Vector) (a b c : ℤ)
    → dot m m *ℤ dot (sum_of_two a b g (scaled c m)) (sum_of_two a b g (scaled c m))
    ≡ (a *ℤ dot m g +ℤ b *ℤ c *ℤ dot m m) *ℤ (a *ℤ dot m g +ℤ b *ℤ c *ℤ dot m m) +ℤ a *ℤ a *ℤ dot (cross g m) (cross g m)
unfolding dot sum_of_two scaled
moved-lagrange g m a b c =
    let n = length_ y_ in
    let t = at_ 6 ⊗ dot_ y_ x_ ⊕ at_ 7 ⊗ at_ 8 ⊗ n in
    ring (coordinates_then (g ∷ m ∷ []) (a ∷ b ∷ c ∷ []))
    (n ⊗ length_ (plus_ (scaled_ (at_ 6) x_) (scaled_ (at_ 7) (scaled_ (at_ 8) y_)))) (t ⊗ t ⊕ at_ 6 ⊗ at_ 6 ⊗ length_ (cross_ x_ y_)) refl

-- in numbers: d is the product of m with the corners, n that with itself, q the square of g x m
plane_at_most : (s d k a b r n q : ℤ) → pos 0 ≤ℤ s → pos 0 ≤ℤ k → pos 0 ≤ℤ a → pos 0 ≤ℤ b → pos 0 ≤ℤ n
    → (s *ℤ d *ℤ (s *ℤ d) +ℤ q) ≤ℤ (n *ℤ (r *ℤ (s *ℤ s))) → (d *ℤ d) ≤ℤ (r *ℤ n)
    → ((a *ℤ (s *ℤ d) +ℤ b *ℤ (k *ℤ d) *ℤ n) *ℤ (a *ℤ (s *ℤ d) +ℤ b *ℤ (k *ℤ d) *ℤ n) +ℤ a *ℤ a *ℤ q) ≤ℤ (n *ℤ (r *ℤ ((a *ℤ s +ℤ b *ℤ (k *ℤ n)) *ℤ (a *ℤ s +ℤ b *ℤ (k *ℤ n)))))
plane_at_most s d k a b r n q hs hk ha hb hn h i =
    let s' = at_ 0 in
    let d' = at_ 1 in
    let k' = at_ 2 in
    let a' = at_ 3 in
    let b' = at_ 4 in
    let r' = at_ 5 in
    let n' = at_ 6 in
    let q' = at_ 7 in
    let t = a' ⊗ (s' ⊗ d') ⊕ b' ⊗ (k' ⊗ d') ⊗ n' in
    let all = a' ⊗ s' ⊕ b' ⊗ (k' ⊗ n') in
    at_most (s ∷ d ∷ k ∷ a ∷ b ∷ r ∷ n ∷ q ∷ [])
    ((zero_ ≼ s') ∷ (zero_ ≼ k') ∷ (zero_ ≼ a') ∷ (zero_ ≼ b') ∷ (zero_ ≼ n') ∷ (s' ⊗ d' ⊗ (s' ⊗ d') ⊕ q' ≼ n' ⊗ (r' ⊗ (s' ⊗ s'))) ∷ (d' ⊗ d' ≼ r' ⊗ n') ∷ [])
    (t ⊗ t ⊕ a' ⊗ a' ⊗ q') (n' ⊗ (r' ⊗ (all ⊗ all)))
    (square a' ⊠ given 5 ⊞ given 3 ⊠ given 1 ⊠ given 4 ⊠ (natural 2 ⊠ given 2 ⊠ given 0 ⊞ given 3 ⊠ given 1 ⊠ given 4) ⊠ given 6) refl
    (hs, (hk, (ha, (hb, (hn, (h, (i, tt)))))))

plane_near : (s d r n q : ℤ) → pos 0 <ℤ s → pos 0 ≤ℤ q → (s *ℤ d *ℤ (s *ℤ d) +ℤ q) ≤ℤ (n *ℤ (r *ℤ (s *ℤ s))) → (d *ℤ d) ≤ℤ (r *ℤ n)
plane_near s d r n q p hq h =
    cancel-at_most (s *ℤ s) (d *ℤ d) (r *ℤ n) (square-Positive s p)
    (at_most (s ∷ d ∷ r ∷ n ∷ q ∷ []) ((zero_ ≼ at_ 4) ∷ (at_ 0 ⊗ at_ 1 ⊗ (at_ 0 ⊗ at_ 1) ⊕ at_ 4 ≼ at_ 3 ⊗ (at_ 2 ⊗ (at_ 0 ⊗ at_ 0))) ∷ [])
    (at_ 0 ⊗ at_ 0 ⊗ (at_ 1 ⊗ at_ 1)) (at_ 0 ⊗ at_ 0 ⊗ (at_ 2 ⊗ at_ 3)) (given 0 ⊞ given 1) refl (hq, (h, tt)))

-- what a near weighted_gap point says of its plane
weighted_near : (g m : Vector) (s d r : ℤ) → dot m g ≡ s *ℤ d → dot g g ≤ℤ (r *ℤ (s *ℤ s))
    → (s *ℤ d *ℤ (s *ℤ d) +ℤ dot (cross g m) (cross g m)) ≤ℤ (dot m m *ℤ (r *ℤ (s *ℤ s)))
weighted_near g m s d r e c =
    subst (λ (l : ℤ). l ≤ℤ (dot m m *ℤ (r *ℤ (s *ℤ s)))) (lagrange g m ∙ ap (λ (t : ℤ). t *ℤ t +ℤ dot (cross g m) (cross g m)) e) (times_non_negative (dot m m) _ _ (length-NonNegative m) c)

moved_near : (g m : Vector) (s d k a b r : ℤ) → dot m g ≡ s *ℤ d → dot g g ≤ℤ (r *ℤ (s *ℤ s)) → pos 0 <ℤ s → pos 0 <ℤ k → pos 0 <ℤ a → pos 0 ≤ℤ b → pos 0 <ℤ dot m m
    → dot (sum_of_two a b g (scaled (k *ℤ d) m)) (sum_of_two a b g (scaled (k *ℤ d) m)) ≤ℤ (r *ℤ ((a *ℤ s +ℤ b *ℤ (k *ℤ dot m m)) *ℤ (a *ℤ s +ℤ b *ℤ (k *ℤ dot m m))))
moved_near g m s d k a b r e c hs hk ha hb hn =
    let q = dot (cross g m) (cross g m) in
    let n = dot m m in
    let f = weighted_near g m s d r e c in
    let i = plane_near s d r n q hs (length-NonNegative (cross g m)) f in
    cancel-at_most n _ _ hn
    (subst (λ (l : ℤ). l ≤ℤ (n *ℤ (r *ℤ ((a *ℤ s +ℤ b *ℤ (k *ℤ n)) *ℤ (a *ℤ s +ℤ b *ℤ (k *ℤ n))))))
    (sym (moved-lagrange g m a b (k *ℤ d) ∙ ap (λ (t : ℤ). (a *ℤ t +ℤ b *ℤ (k *ℤ d) *ℤ n) *ℤ (a *ℤ t +ℤ b *ℤ (k *ℤ d) *ℤ n) +ℤ a *ℤ a *ℤ q) e))
    (plane_at_most s d k a b r n q (omega (arith, linear, hs)) (omega (arith, linear, hk)) (omega (arith, linear, ha)) hb (length-NonNegative m) f i))

-- ---- the weights of a near point can be moved
moved_sum : (u v w f g h a b : ℤ) (x y z : Vector) → sum_of_three (a *ℤ u +ℤ b *ℤ f) (a *ℤ v +ℤ b *ℤ g) (a *ℤ w +ℤ b *ℤ h) x y z ≡ sum_of_two a b (sum_of_three u v w x y z) (sum_of_three f g h x y z)
unfolding sum_of_three sum_of_two
moved_sum u v w f g h a b x y z =
    let at : (i j k : ℤ) → (a *ℤ u +ℤ b *ℤ f) *ℤ i +ℤ (a *ℤ v +ℤ b *ℤ g) *ℤ j +ℤ (a *ℤ w +ℤ b *ℤ h) *ℤ k ≡ a *ℤ (u *ℤ i +ℤ v *ℤ j +ℤ w *ℤ k) +ℤ b *ℤ (f *ℤ i +ℤ g *ℤ j +ℤ h *ℤ k) =
    λ i j k. ring (u ∷ v ∷ w ∷ f ∷ g ∷ h ∷ a ∷ b ∷ i ∷ j ∷ k ∷ [])
    ((at_ 6 ⊗ at_ 0 ⊕ at_ 7 ⊗ at_ 3) ⊗ at_ 8 ⊕ (at_ 6 ⊗ at_ 1 ⊕ at_ 7 ⊗ at_ 4) ⊗ at_ 9 ⊕ (at_ 6 ⊗ at_ 2 ⊕ at_ 7 ⊗ at_ 5) ⊗ at_ 10)
    (at_ 6 ⊗ (at_ 0 ⊗ at_ 8 ⊕ at_ 1 ⊗ at_ 9 ⊕ at_ 2 ⊗ at_ 10) ⊕ at_ 7 ⊗ (at_ 3 ⊗ at_ 8 ⊕ at_ 4 ⊗ at_ 9 ⊕ at_ 5 ⊗ at_ 10)) refl in
    λ i. record { x = at x.x y.x z.x i; y = at x.y y.y z.y i; z = at x.z y.z z.z i }

moved_weights : (u v w f g h a b t : ℤ) → f +ℤ g +ℤ h ≡ t → a *ℤ u +ℤ b *ℤ f +ℤ (a *ℤ v +ℤ b *ℤ g) +ℤ (a *ℤ w +ℤ b *ℤ h) ≡ a *ℤ (u +ℤ v +ℤ w) +ℤ b *ℤ t
moved_weights u v w f g h a b t e =
    ring (u ∷ v ∷ w ∷ f ∷ g ∷ h ∷ a ∷ b ∷ []) (at_ 6 ⊗ at_ 0 ⊕ at_ 7 ⊗ at_ 3 ⊕ (at_ 6 ⊗ at_ 1 ⊕ at_ 7 ⊗ at_ 4) ⊕ (at_ 6 ⊗ at_ 2 ⊕ at_ 7 ⊗ at_ 5)) (at_ 6 ⊗ (at_ 0 ⊕ at_ 1 ⊕ at_ 2) ⊕ at_ 7 ⊗ (at_ 3 ⊕ at_ 4 ⊕ at_ 5)) refl
    ∙ ap (λ (n : ℤ). a *ℤ (u +ℤ v +ℤ w) +ℤ b *ℤ n) e

-- what is left to show of a direction with the sum t and the way q
pub moved_close : (x y z q : Vector) (r u v w f g h t a b : ℤ) → f +ℤ g +ℤ h ≡ t → sum_of_three f g h x y z ≡ q
    → dot (sum_of_two a b (sum_of_three u v w x y z) q) (sum_of_two a b (sum_of_three u v w x y z) q) ≤ℤ (r *ℤ ((a *ℤ (u +ℤ v +ℤ w) +ℤ b *ℤ t) *ℤ (a *ℤ (u +ℤ v +ℤ w) +ℤ b *ℤ t)))
    → dot (sum_of_three (a *ℤ u +ℤ b *ℤ f) (a *ℤ v +ℤ b *ℤ g) (a *ℤ w +ℤ b *ℤ h) x y z) (sum_of_three (a *ℤ u +ℤ b *ℤ f) (a *ℤ v +ℤ b *ℤ g) (a *ℤ w +ℤ b *ℤ h) x y z) ≤ℤ (r *ℤ ((a *ℤ u +ℤ b *ℤ f +ℤ (a *ℤ v +ℤ b *ℤ g) +ℤ (a *ℤ w +ℤ b *ℤ h)) *ℤ (a *ℤ u +ℤ b *ℤ f +ℤ (a *ℤ v +ℤ b *ℤ g) +ℤ (a *ℤ w +ℤ b *ℤ h))))
moved_close x y z q r u v w f g h t a b e l c =
    let s = sym (moved_weights u v w f g h a b t e) in
    let p = sym (moved_sum u v w f g h a b x y z ∙ ap (λ (n : Vector). sum_of_two a b (sum_of_three u v w x y z) n) l) in
    subst (λ (n : Vector). dot n n ≤ℤ (r *ℤ ((a *ℤ u +ℤ b *ℤ f +ℤ (a *ℤ v +ℤ b *ℤ g) +ℤ (a *ℤ w +ℤ b *ℤ h)) *ℤ (a *ℤ u +ℤ b *ℤ f +ℤ (a *ℤ v +ℤ b *ℤ g) +ℤ (a *ℤ w +ℤ b *ℤ h))))) p
    (subst (λ (n : ℤ). dot (sum_of_two a b (sum_of_three u v w x y z) q) (sum_of_two a b (sum_of_three u v w x y z) q) ≤ℤ (r *ℤ (n *ℤ n))) s c)

-- towards the foot
plane-CanMove : (x y z m : Vector) (k r : ℤ) → pos 0 <ℤ k → cross (minus y x) (minus z x) ≡ scaled k m → pos 0 <ℤ dot m m → (n : NearTriangle x y z r)
    → CanMove x y z r n.u n.v n.w (dot m (cross y z)) (dot m (cross z x)) (dot m (cross x y))
plane-CanMove x y z m k r p e l n = record {
  u_in = n.u_in;
  v_in = n.v_in;
  w_in = n.w_in;
  some = n.some;
  sum_in = subst (λ (s : ℤ). pos 0 ≤ℤ s) (sym (sides_are x y z m k e)) (omega (arith, linear, product-Positive k (dot m m) p l));
  close = λ a b ha hb. moved_close x y z (scaled (k *ℤ dot m x) m) r n.u n.v n.w _ _ _ (k *ℤ dot m m) a b (sides_are x y z m k e) (foot_is x y z m k e)
      (moved_near (sum_of_three n.u n.v n.w x y z) m (n.u +ℤ n.v +ℤ n.w) (dot m x) k a b r (product_is x y z m k n.u n.v n.w p e) n.close n.some p ha hb l);
}

-- the plane's distance is at most that of a weighted_gap point
plane_close : (x y z m : Vector) (k r : ℤ) → pos 0 <ℤ k → cross (minus y x) (minus z x) ≡ scaled k m → (n : NearTriangle x y z r) → (dot m x *ℤ dot m x) ≤ℤ (r *ℤ dot m m)
plane_close x y z m k r p e n =
    let g = sum_of_three n.u n.v n.w x y z in
    plane_near (n.u +ℤ n.v +ℤ n.w) (dot m x) r (dot m m) (dot (cross g m) (cross g m)) n.some (length-NonNegative (cross g m))
    (weighted_near g m (n.u +ℤ n.v +ℤ n.w) (dot m x) r (product_is x y z m k n.u n.v n.w p e) n.close)

-- a triangle with a plane
pub sharp_near : (x y z m : Vector) (k r : ℤ) → pos 0 <ℤ k → cross (minus y x) (minus z x) ≡ scaled k m → pos 0 <ℤ dot m m → NearTriangle x y z r → NearEdge x y z r ⊎ NearPlane x y z m r
sharp_near x y z m k r p e l n =
    let c = plane-CanMove x y z m k r p e l n in
    by_lt_z (dot m (cross y z)) (pos 0) (λ q. inl (first_lower x y z r n.u n.v n.w _ _ _ c q))
    (λ i. by_lt_z (dot m (cross z x)) (pos 0) (λ q. inl (second_lower x y z r n.u n.v n.w _ _ _ c q))
    (λ j. by_lt_z (dot m (cross x y)) (pos 0) (λ q. inl (third_lower x y z r n.u n.v n.w _ _ _ c q))
    (λ o. inr (record { some = l; x_in = i; y_in = j; z_in = o; close = plane_close x y z m k r p e n }))))
