-- Weights are moved in one direction until the first of them is 0.
use Rattle.std.proofs.Common.{◌≡◌, ℕ, [], ◌∷◌, ℤ, pos, ◌+ℤ◌, ◌-ℤ◌, ◌*ℤ◌, ◌≤ℤ◌, ◌<ℤ◌, refl, ◌⊎◌, inl, inr, arith, subst}
use Rattle.std.proofs.lemmas.Int.{by_lt_z}
use Rattle.int_algebra.proofs.Laws.{linear}
use Rattle.int_algebra.proofs.Ring.{constant, variable, ◌⊕◌, ◌⊖◌, ◌⊗◌, ring, ring_from, ◌≈◌}
use Rattle.int_algebra.proofs.Orders.{at_most, below, one_more, natural, given, ◌⊞◌, ◌⊠◌, ◌≼◌, cancel-at_most}
use Rattle.grid.specs.Vectors.{Vector, dot, sum_of_two, sum_of_three}
use Rattle.tri_distance.specs.Parts.{NearSegment}
use lib.Signed.{clash_ℤ}

-- the weights u, v and w can be moved by f, g and h, and stay near
pub record CanMove (x y z : Vector) (r u v w f g h : ℤ) : Type 0 where
  pub u_in : pos 0 ≤ℤ u
  pub v_in : pos 0 ≤ℤ v
  pub w_in : pos 0 ≤ℤ w
  pub some : pos 0 <ℤ (u +ℤ v +ℤ w)
  pub sum_in : pos 0 ≤ℤ (f +ℤ g +ℤ h)
  pub close : (a b : ℤ) → pos 0 <ℤ a → pos 0 ≤ℤ b
      → dot (sum_of_three (a *ℤ u +ℤ b *ℤ f) (a *ℤ v +ℤ b *ℤ g) (a *ℤ w +ℤ b *ℤ h) x y z) (sum_of_three (a *ℤ u +ℤ b *ℤ f) (a *ℤ v +ℤ b *ℤ g) (a *ℤ w +ℤ b *ℤ h) x y z) ≤ℤ (r *ℤ ((a *ℤ u +ℤ b *ℤ f +ℤ (a *ℤ v +ℤ b *ℤ g) +ℤ (a *ℤ w +ℤ b *ℤ h)) *ℤ (a *ℤ u +ℤ b *ℤ f +ℤ (a *ℤ v +ℤ b *ℤ g) +ℤ (a *ℤ w +ℤ b *ℤ h))))

-- some edge is near
abbrev pub NearEdge : Vector → Vector → Vector → ℤ → Type 0
NearEdge x y z r = NearSegment x y r ⊎ (NearSegment y z r ⊎ NearSegment z x r)

pub turned-NearEdge : (x y z : Vector) (r : ℤ) → NearEdge y z x r → NearEdge x y z r
turned-NearEdge x y z r (inl n) = inr (inl n)
turned-NearEdge x y z r (inr (inl n)) = inr (inr n)
turned-NearEdge x y z r (inr (inr n)) = inl n

sum_of_three-turned : (u v w : ℤ) (x y z : Vector) → sum_of_three u v w x y z ≡ sum_of_three v w u y z x
unfolding sum_of_three
sum_of_three-turned u v w x y z =
    let at : (a b c : ℤ) → u *ℤ a +ℤ v *ℤ b +ℤ w *ℤ c ≡ v *ℤ b +ℤ w *ℤ c +ℤ u *ℤ a = λ a b c. omega (arith, linear) in
    λ i. record { x = at x.x y.x z.x i; y = at x.y y.y z.y i; z = at x.z y.z z.z i }

pub turned : (x y z : Vector) (r u v w f g h : ℤ) → CanMove x y z r u v w f g h → CanMove y z x r v w u g h f
turned x y z r u v w f g h m = record {
  u_in = m.v_in;
  v_in = m.w_in;
  w_in = m.u_in;
  some = omega (arith, linear, m.some);
  sum_in = omega (arith, linear, m.sum_in);
  close = λ a b p q. by (a *ℤ u +ℤ b *ℤ f) (a *ℤ v +ℤ b *ℤ g) (a *ℤ w +ℤ b *ℤ h) (m.close a b p q);
}
  where
    by : (i j k : ℤ) → dot (sum_of_three i j k x y z) (sum_of_three i j k x y z) ≤ℤ (r *ℤ ((i +ℤ j +ℤ k) *ℤ (i +ℤ j +ℤ k))) → dot (sum_of_three j k i y z x) (sum_of_three j k i y z x) ≤ℤ (r *ℤ ((j +ℤ k +ℤ i) *ℤ (j +ℤ k +ℤ i)))
    by i j k c =
        let e : i +ℤ j +ℤ k ≡ j +ℤ k +ℤ i = omega (arith, linear) in
        subst (λ (s : ℤ). dot (sum_of_three j k i y z x) (sum_of_three j k i y z x) ≤ℤ (r *ℤ (s *ℤ s))) e
        (subst (λ (q : Vector). dot q q ≤ℤ (r *ℤ ((i +ℤ j +ℤ k) *ℤ (i +ℤ j +ℤ k)))) (sum_of_three-turned i j k x y z) c)

sum_of_three-none : (u v w : ℤ) (x y z : Vector) → u ≡ pos 0 → sum_of_three u v w x y z ≡ sum_of_two v w y z
unfolding sum_of_three sum_of_two
sum_of_three-none u v w x y z e =
    let k = λ (i : ℕ). variable i in
    let at : (a b c : ℤ) → u *ℤ a +ℤ v *ℤ b +ℤ w *ℤ c ≡ v *ℤ b +ℤ w *ℤ c =
    λ a b c. ring_from (u ∷ v ∷ w ∷ a ∷ b ∷ c ∷ []) ((k 0 ≈ constant (pos 0)) ∷ []) (k 3 ∷ []) (k 0 ⊗ k 3 ⊕ k 1 ⊗ k 4 ⊕ k 2 ⊗ k 5) (k 1 ⊗ k 4 ⊕ k 2 ⊗ k 5) refl (e, tt) in
    λ i. record { x = at x.x y.x z.x i; y = at x.y y.y z.y i; z = at x.z y.z z.z i }

-- a weight is 0
none_first : (x y z : Vector) (r u v w : ℤ) → u ≡ pos 0 → pos 0 ≤ℤ v → pos 0 ≤ℤ w → pos 0 <ℤ (u +ℤ v +ℤ w)
    → dot (sum_of_three u v w x y z) (sum_of_three u v w x y z) ≤ℤ (r *ℤ ((u +ℤ v +ℤ w) *ℤ (u +ℤ v +ℤ w))) → NearSegment y z r
none_first x y z r u v w e p q some close = record {
  v = v;
  w = w;
  v_in = p;
  w_in = q;
  some = subst (λ (s : ℤ). pos 0 <ℤ s) sums some;
  close = subst (λ (s : ℤ). dot (sum_of_two v w y z) (sum_of_two v w y z) ≤ℤ (r *ℤ (s *ℤ s))) sums (subst (λ (q : Vector). dot q q ≤ℤ (r *ℤ ((u +ℤ v +ℤ w) *ℤ (u +ℤ v +ℤ w)))) (sum_of_three-none u v w x y z e) close);
}
  where
    sums : u +ℤ v +ℤ w ≡ v +ℤ w
    sums = omega (arith, linear)

-- the first weight is 0 before the others
first_out : (x y z : Vector) (r u v w f g h : ℤ) → CanMove x y z r u v w f g h → f <ℤ pos 0
    → pos 0 ≤ℤ ((pos 0 -ℤ f) *ℤ v +ℤ u *ℤ g) → pos 0 ≤ℤ ((pos 0 -ℤ f) *ℤ w +ℤ u *ℤ h) → NearSegment y z r
first_out x y z r u v w f g h m l p q =
    let a = pos 0 -ℤ f in
    let l' : pos 0 <ℤ a = omega (arith, linear) in
    none_first x y z r (a *ℤ u +ℤ u *ℤ f) (a *ℤ v +ℤ u *ℤ g) (a *ℤ w +ℤ u *ℤ h)
    (ring (u ∷ f ∷ []) ((constant (pos 0) ⊖ variable 1) ⊗ variable 0 ⊕ variable 0 ⊗ variable 1) (constant (pos 0)) refl)
    p q (positive a l') (m.close a u l' m.u_in)
  where
    positive : (a : ℤ) → pos 0 <ℤ a → pos 0 <ℤ (a *ℤ u +ℤ u *ℤ f +ℤ (a *ℤ v +ℤ u *ℤ g) +ℤ (a *ℤ w +ℤ u *ℤ h))
    positive a l' =
        let k = λ (i : ℕ). variable i in
        let o = constant (pos 0) in
        let one = constant (pos 1) in
        below (a ∷ u ∷ v ∷ w ∷ f ∷ g ∷ h ∷ [])
        ((one ≼ k 0) ∷ (o ≼ k 1) ∷ (one ≼ k 1 ⊕ k 2 ⊕ k 3) ∷ (o ≼ k 4 ⊕ k 5 ⊕ k 6) ∷ [])
        o (k 0 ⊗ k 1 ⊕ k 1 ⊗ k 4 ⊕ (k 0 ⊗ k 2 ⊕ k 1 ⊗ k 5) ⊕ (k 0 ⊗ k 3 ⊕ k 1 ⊗ k 6))
        ((given 0 ⊞ natural 1) ⊠ given 2 ⊞ given 0 ⊞ given 1 ⊠ given 3) refl
        (one_more (pos 0) a l', (m.u_in, (one_more (pos 0) _ m.some, (m.sum_in, tt))))

-- where the weight u is not yet 0 when v is, g is negative
before-Negative : (f v u g : ℤ) → f <ℤ pos 0 → pos 0 ≤ℤ v → pos 0 ≤ℤ u → ((pos 0 -ℤ f) *ℤ v +ℤ u *ℤ g) <ℤ pos 0 → g <ℤ pos 0
before-Negative f v u g l p q h =
    let k = λ (i : ℕ). variable i in
    let o = constant (pos 0) in
    by_lt_z g (pos 0) (λ m. m)
    (λ m. clash_ℤ h (at_most (f ∷ v ∷ u ∷ g ∷ []) ((k 0 ≼ o) ∷ (o ≼ k 1) ∷ (o ≼ k 2) ∷ (o ≼ k 3) ∷ []) o ((o ⊖ k 0) ⊗ k 1 ⊕ k 2 ⊗ k 3) (given 0 ⊠ given 1 ⊞ given 2 ⊠ given 3) refl (omega (arith, linear, l), (p, (q, (m, tt))))))

other_side : (f v u g : ℤ) → ((pos 0 -ℤ f) *ℤ v +ℤ u *ℤ g) <ℤ pos 0 → pos 0 ≤ℤ ((pos 0 -ℤ g) *ℤ u +ℤ v *ℤ f)
other_side f v u g h =
    let k = λ (i : ℕ). variable i in
    let o = constant (pos 0) in
    let one = constant (pos 1) in
    at_most (f ∷ v ∷ u ∷ g ∷ []) (((o ⊖ k 0) ⊗ k 1 ⊕ k 2 ⊗ k 3 ⊕ one ≼ o) ∷ []) o ((o ⊖ k 3) ⊗ k 2 ⊕ k 1 ⊗ k 0) (given 0 ⊞ natural 1) refl (one_more _ _ h, tt)

-- u is 0 no later than v, and w before u: so w is 0 before v
chain_at_most : (u v w f g h : ℤ) → f <ℤ pos 0 → h <ℤ pos 0 → pos 0 ≤ℤ w → pos 0 ≤ℤ v → pos 0 ≤ℤ ((pos 0 -ℤ f) *ℤ v +ℤ u *ℤ g) → ((pos 0 -ℤ f) *ℤ w +ℤ u *ℤ h) <ℤ pos 0
    → pos 0 ≤ℤ ((pos 0 -ℤ h) *ℤ v +ℤ w *ℤ g)
chain_at_most u v w f g h l m i j p q =
    let k = λ (i : ℕ). variable i in
    let o = constant (pos 0) in
    let one = constant (pos 1) in
    by_lt_z g (pos 0)
    (λ n. cancel-at_most (pos 0 -ℤ f) (pos 0) ((pos 0 -ℤ h) *ℤ v +ℤ w *ℤ g) (omega (arith, linear, l))
    (at_most (u ∷ v ∷ w ∷ f ∷ g ∷ h ∷ [])
    ((k 4 ≼ o) ∷ (k 5 ≼ o) ∷ (o ≼ (o ⊖ k 3) ⊗ k 1 ⊕ k 0 ⊗ k 4) ∷ ((o ⊖ k 3) ⊗ k 2 ⊕ k 0 ⊗ k 5 ≼ o) ∷ [])
    ((o ⊖ k 3) ⊗ o) ((o ⊖ k 3) ⊗ ((o ⊖ k 5) ⊗ k 1 ⊕ k 2 ⊗ k 4))
    (given 1 ⊠ given 2 ⊞ given 0 ⊠ given 3) refl (omega (arith, linear, n), (omega (arith, linear, m), (p, (omega (arith, linear, q), tt))))))
    (λ n. at_most (v ∷ w ∷ g ∷ h ∷ []) ((o ≼ k 0) ∷ (o ≼ k 1) ∷ (o ≼ k 2) ∷ (k 3 ≼ o) ∷ []) o ((o ⊖ k 3) ⊗ k 0 ⊕ k 1 ⊗ k 2) (given 3 ⊠ given 0 ⊞ given 1 ⊠ given 2) refl (j, (i, (n, (omega (arith, linear, m), tt)))))

-- v is 0 before u, and w before v: so w is 0 before u
chain_below : (u v w f g h : ℤ) → f <ℤ pos 0 → g <ℤ pos 0 → h <ℤ pos 0 → ((pos 0 -ℤ f) *ℤ v +ℤ u *ℤ g) <ℤ pos 0 → ((pos 0 -ℤ g) *ℤ w +ℤ v *ℤ h) <ℤ pos 0
    → pos 0 ≤ℤ ((pos 0 -ℤ h) *ℤ u +ℤ w *ℤ f)
chain_below u v w f g h l m n p q =
    let k = λ (i : ℕ). variable i in
    let o = constant (pos 0) in
    cancel-at_most (pos 0 -ℤ g) (pos 0) ((pos 0 -ℤ h) *ℤ u +ℤ w *ℤ f) (omega (arith, linear, m))
    (at_most (u ∷ v ∷ w ∷ f ∷ g ∷ h ∷ [])
    ((k 3 ≼ o) ∷ (k 5 ≼ o) ∷ ((o ⊖ k 3) ⊗ k 1 ⊕ k 0 ⊗ k 4 ≼ o) ∷ ((o ⊖ k 4) ⊗ k 2 ⊕ k 1 ⊗ k 5 ≼ o) ∷ [])
    ((o ⊖ k 4) ⊗ o) ((o ⊖ k 4) ⊗ ((o ⊖ k 5) ⊗ k 0 ⊕ k 2 ⊗ k 3))
    (given 1 ⊠ given 2 ⊞ given 0 ⊠ given 3) refl (omega (arith, linear, l), (omega (arith, linear, n), (omega (arith, linear, p), (omega (arith, linear, q), tt)))))

-- the second weight is 0 before the others, and the third
second_out : (x y z : Vector) (r u v w f g h : ℤ) → CanMove x y z r u v w f g h → g <ℤ pos 0
    → pos 0 ≤ℤ ((pos 0 -ℤ g) *ℤ w +ℤ v *ℤ h) → pos 0 ≤ℤ ((pos 0 -ℤ g) *ℤ u +ℤ v *ℤ f) → NearSegment z x r
second_out x y z r u v w f g h m = first_out y z x r v w u g h f (turned x y z r u v w f g h m)

third_out : (x y z : Vector) (r u v w f g h : ℤ) → CanMove x y z r u v w f g h → h <ℤ pos 0
    → pos 0 ≤ℤ ((pos 0 -ℤ h) *ℤ u +ℤ w *ℤ f) → pos 0 ≤ℤ ((pos 0 -ℤ h) *ℤ v +ℤ w *ℤ g) → NearSegment x y r
third_out x y z r u v w f g h m = second_out y z x r v w u g h f (turned x y z r u v w f g h m)

pub first_lower : (x y z : Vector) (r u v w f g h : ℤ) → CanMove x y z r u v w f g h → f <ℤ pos 0 → NearEdge x y z r
first_lower x y z r u v w f g h m l =
    by_lt_z ((pos 0 -ℤ f) *ℤ v +ℤ u *ℤ g) (pos 0)
    (λ p.
    let l_g = before-Negative f v u g l m.v_in m.u_in p in
    by_lt_z ((pos 0 -ℤ g) *ℤ w +ℤ v *ℤ h) (pos 0)
    (λ q.
    let l_h = before-Negative g w v h l_g m.w_in m.v_in q in
    inl (third_out x y z r u v w f g h m l_h (chain_below u v w f g h l l_g l_h p q) (other_side g w v h q)))
    (λ q. inr (inr (second_out x y z r u v w f g h m l_g q (other_side f v u g p)))))
    (λ p.
    by_lt_z ((pos 0 -ℤ f) *ℤ w +ℤ u *ℤ h) (pos 0)
    (λ q.
    let l_h = before-Negative f w u h l m.w_in m.u_in q in
    inl (third_out x y z r u v w f g h m l_h (other_side f w u h q) (chain_at_most u v w f g h l l_h m.w_in m.v_in p q)))
    (λ q. inr (inl (first_out x y z r u v w f g h m l p q))))

pub second_lower : (x y z : Vector) (r u v w f g h : ℤ) → CanMove x y z r u v w f g h → g <ℤ pos 0 → NearEdge x y z r
second_lower x y z r u v w f g h m l =
    turned-NearEdge x y z r (first_lower y z x r v w u g h f (turned x y z r u v w f g h m) l)

pub third_lower : (x y z : Vector) (r u v w f g h : ℤ) → CanMove x y z r u v w f g h → h <ℤ pos 0 → NearEdge x y z r
third_lower x y z r u v w f g h m l =
    turned-NearEdge x y z r (second_lower y z x r v w u g h f (turned x y z r u v w f g h m) l)
