-- Where three points are near one triangle, each of their weighted means is.
use Rattle.std.proofs.Common.{◌≡◌, ℕ, ◌+◌, ◌*◌, ◌^◌, ◌<◌, [], ◌∷◌, ℤ, pos, ◌+ℤ◌, ◌*ℤ◌, ◌≤ℤ◌, ◌<ℤ◌, refl, arith, subst, sym, ◌∙◌, mul-pos}
use Rattle.int_algebra.proofs.Laws.{linear}
use Rattle.int_algebra.proofs.Ring.{constant, variable, ◌⊕◌, ◌⊖◌, ◌⊗◌, ring, of_naturals}
use Rattle.int_algebra.proofs.Orders.{at_most, natural, square, given, ◌⊞◌, ◌⊠◌, ◌≼◌, cancel-at_most, natural-NonNegative}
use Rattle.int_algebra.proofs.Corners.{less as less_, dot as dot_}
use Rattle.grid.specs.declared.shapes.Point.{Point}
use Rattle.grid.specs.Vectors.{Vector, dot, sum_of_three}
use Rattle.grid.specs.Boxes.{corner_of}
use Rattle.grid.proofs.ForCallers.{coordinates_then, scaled_, plus_, length_, squares_, x_, y_, z_, at_, zero_, weighted_gap, sq_gap-weighted_gap, gap_of_near, square_is, squares_are, product-Positive}
use Rattle.mesh_types.specs.Hull.{weighted_sum, HullLaw}

-- the product of two vectors is at most that of their bounds
doubled : (x y : Vector) (r a b : ℤ) → dot x x ≤ℤ (r *ℤ (a *ℤ a)) → dot y y ≤ℤ (r *ℤ (b *ℤ b)) → (pos 2 *ℤ (a *ℤ b) *ℤ dot x y) ≤ℤ (pos 2 *ℤ (a *ℤ b) *ℤ (r *ℤ (a *ℤ b)))
unfolding dot
doubled x y r a b h i =
    let r' = at_ 6 in
    let a' = at_ 7 in
    let b' = at_ 8 in
    let two = constant (pos 2) ⊗ (a' ⊗ b') in
    at_most (coordinates_then (x ∷ y ∷ []) (r ∷ a ∷ b ∷ [])) ((length_ x_ ≼ r' ⊗ (a' ⊗ a')) ∷ (length_ y_ ≼ r' ⊗ (b' ⊗ b')) ∷ [])
    (two ⊗ dot_ x_ y_) (two ⊗ (r' ⊗ (a' ⊗ b')))
    (square b' ⊠ given 0 ⊞ square a' ⊠ given 1 ⊞ squares_ (less_ (scaled_ b' x_) (scaled_ a' y_))) refl (h, (i, tt))

pair_at_most : (x y : Vector) (r a b : ℤ) → pos 0 <ℤ a → pos 0 <ℤ b → dot x x ≤ℤ (r *ℤ (a *ℤ a)) → dot y y ≤ℤ (r *ℤ (b *ℤ b)) → dot x y ≤ℤ (r *ℤ (a *ℤ b))
pair_at_most x y r a b p q h i =
    cancel-at_most (pos 2 *ℤ (a *ℤ b)) (dot x y) (r *ℤ (a *ℤ b)) (product-Positive (pos 2) (a *ℤ b) (omega (arith, linear)) (product-Positive a b p q)) (doubled x y r a b h i)

sum_at_most_by : (x y z : Vector) (r a b c f g h : ℤ) → pos 0 ≤ℤ f → pos 0 ≤ℤ g → pos 0 ≤ℤ h
    → dot x x ≤ℤ (r *ℤ (a *ℤ a)) → dot y y ≤ℤ (r *ℤ (b *ℤ b)) → dot z z ≤ℤ (r *ℤ (c *ℤ c))
    → dot x y ≤ℤ (r *ℤ (a *ℤ b)) → dot x z ≤ℤ (r *ℤ (a *ℤ c)) → dot y z ≤ℤ (r *ℤ (b *ℤ c))
    → dot (sum_of_three f g h x y z) (sum_of_three f g h x y z) ≤ℤ (r *ℤ ((f *ℤ a +ℤ g *ℤ b +ℤ h *ℤ c) *ℤ (f *ℤ a +ℤ g *ℤ b +ℤ h *ℤ c)))
unfolding dot sum_of_three
sum_at_most_by x y z r a b c f g h pf pg ph i j k l m n =
    let r' = at_ 9 in
    let a' = at_ 10 in
    let b' = at_ 11 in
    let c' = at_ 12 in
    let f' = at_ 13 in
    let g' = at_ 14 in
    let h' = at_ 15 in
    let all = f' ⊗ a' ⊕ g' ⊗ b' ⊕ h' ⊗ c' in
    at_most (coordinates_then (x ∷ y ∷ z ∷ []) (r ∷ a ∷ b ∷ c ∷ f ∷ g ∷ h ∷ []))
    ((zero_ ≼ f') ∷ (zero_ ≼ g') ∷ (zero_ ≼ h') ∷ (length_ x_ ≼ r' ⊗ (a' ⊗ a')) ∷ (length_ y_ ≼ r' ⊗ (b' ⊗ b')) ∷ (length_ z_ ≼ r' ⊗ (c' ⊗ c'))
    ∷ (dot_ x_ y_ ≼ r' ⊗ (a' ⊗ b')) ∷ (dot_ x_ z_ ≼ r' ⊗ (a' ⊗ c')) ∷ (dot_ y_ z_ ≼ r' ⊗ (b' ⊗ c')) ∷ [])
    (length_ (plus_ (plus_ (scaled_ f' x_) (scaled_ g' y_)) (scaled_ h' z_))) (r' ⊗ (all ⊗ all))
    (square f' ⊠ given 3 ⊞ square g' ⊠ given 4 ⊞ square h' ⊠ given 5 ⊞ natural 2 ⊠ given 0 ⊠ given 1 ⊠ given 6 ⊞ natural 2 ⊠ given 0 ⊠ given 2 ⊠ given 7 ⊞ natural 2 ⊠ given 1 ⊠ given 2 ⊠ given 8)
    refl (pf, (pg, (ph, (i, (j, (k, (l, (m, (n, tt)))))))))

-- a sum with weights that are not negative is at most as long as that of the bounds
sum_at_most : (x y z : Vector) (r a b c f g h : ℤ) → pos 0 <ℤ a → pos 0 <ℤ b → pos 0 <ℤ c → pos 0 ≤ℤ f → pos 0 ≤ℤ g → pos 0 ≤ℤ h
    → dot x x ≤ℤ (r *ℤ (a *ℤ a)) → dot y y ≤ℤ (r *ℤ (b *ℤ b)) → dot z z ≤ℤ (r *ℤ (c *ℤ c))
    → dot (sum_of_three f g h x y z) (sum_of_three f g h x y z) ≤ℤ (r *ℤ ((f *ℤ a +ℤ g *ℤ b +ℤ h *ℤ c) *ℤ (f *ℤ a +ℤ g *ℤ b +ℤ h *ℤ c)))
sum_at_most x y z r a b c f g h pa pb pc pf pg ph i j k =
    sum_at_most_by x y z r a b c f g h pf pg ph i j k (pair_at_most x y r a b pa pb i j) (pair_at_most x z r a c pa pc i k) (pair_at_most y z r b c pb pc j k)

-- ---- the mean's gap is a sum of the gaps of the three points
abbrev sum_at : (f g h : ℤ) → (p q r : Point) → Point
sum_at f g h p q r = record { x = f *ℤ p.x +ℤ g *ℤ q.x +ℤ h *ℤ r.x; y = f *ℤ p.y +ℤ g *ℤ q.y +ℤ h *ℤ r.y; z = f *ℤ p.z +ℤ g *ℤ q.z +ℤ h *ℤ r.z }

mean_is : (s₁ s₂ s₃ t u₁ v₁ w₁ u₂ v₂ w₂ u₃ v₃ w₃ f g h : ℤ) (p q r a b c : Point)
    → sum_of_three ((f +ℤ g +ℤ h) *ℤ (f *ℤ (s₂ *ℤ s₃))) ((f +ℤ g +ℤ h) *ℤ (g *ℤ (s₁ *ℤ s₃))) ((f +ℤ g +ℤ h) *ℤ (h *ℤ (s₁ *ℤ s₂))) (weighted_gap s₁ t u₁ v₁ w₁ p a b c) (weighted_gap s₂ t u₂ v₂ w₂ q a b c) (weighted_gap s₃ t u₃ v₃ w₃ r a b c)
    ≡ weighted_gap (s₁ *ℤ s₂ *ℤ s₃ *ℤ (f +ℤ g +ℤ h)) ((f +ℤ g +ℤ h) *ℤ t)
    (f *ℤ (s₂ *ℤ s₃) *ℤ u₁ +ℤ g *ℤ (s₁ *ℤ s₃) *ℤ u₂ +ℤ h *ℤ (s₁ *ℤ s₂) *ℤ u₃)
    (f *ℤ (s₂ *ℤ s₃) *ℤ v₁ +ℤ g *ℤ (s₁ *ℤ s₃) *ℤ v₂ +ℤ h *ℤ (s₁ *ℤ s₂) *ℤ v₃)
    (f *ℤ (s₂ *ℤ s₃) *ℤ w₁ +ℤ g *ℤ (s₁ *ℤ s₃) *ℤ w₂ +ℤ h *ℤ (s₁ *ℤ s₂) *ℤ w₃) (sum_at f g h p q r) a b c
unfolding sum_of_three weighted_gap
mean_is s₁ s₂ s₃ t u₁ v₁ w₁ u₂ v₂ w₂ u₃ v₃ w₃ f g h p q r a b c =
    let x = λ (i : ℕ). variable i in
    let n = x 13 ⊕ x 14 ⊕ x 15 in
    let i₁ = x 13 ⊗ (x 1 ⊗ x 2) in
    let i₂ = x 14 ⊗ (x 0 ⊗ x 2) in
    let i₃ = x 15 ⊗ (x 0 ⊗ x 1) in
    let gap = λ (s u p : ℕ). x s ⊗ x p ⊖ x 3 ⊗ (x u ⊗ x 19 ⊕ x (u + 1) ⊗ x 20 ⊕ x (u + 2) ⊗ x 21) in
    let sum = λ (u : ℕ). i₁ ⊗ x u ⊕ i₂ ⊗ x (u + 3) ⊕ i₃ ⊗ x (u + 6) in
    let at = λ (p q r a b c : ℤ). ring (s₁ ∷ s₂ ∷ s₃ ∷ t ∷ u₁ ∷ v₁ ∷ w₁ ∷ u₂ ∷ v₂ ∷ w₂ ∷ u₃ ∷ v₃ ∷ w₃ ∷ f ∷ g ∷ h ∷ p ∷ q ∷ r ∷ a ∷ b ∷ c ∷ [])
    (n ⊗ i₁ ⊗ gap 0 4 16 ⊕ n ⊗ i₂ ⊗ gap 1 7 17 ⊕ n ⊗ i₃ ⊗ gap 2 10 18)
    (x 0 ⊗ x 1 ⊗ x 2 ⊗ n ⊗ (x 13 ⊗ x 16 ⊕ x 14 ⊗ x 17 ⊕ x 15 ⊗ x 18) ⊖ n ⊗ x 3 ⊗ (sum 4 ⊗ x 19 ⊕ sum 5 ⊗ x 20 ⊕ sum 6 ⊗ x 21)) refl in
    λ i. record { x = at p.x q.x r.x a.x b.x c.x i; y = at p.y q.y r.y a.y b.y c.y i; z = at p.z q.z r.z a.z b.z c.z i }

-- the weights' sum, and the sum of the bounds
weights_sum : (u₁ v₁ w₁ u₂ v₂ w₂ u₃ v₃ w₃ f g h : ℕ)
    → (u₁ + v₁ + w₁) * (u₂ + v₂ + w₂) * (u₃ + v₃ + w₃) * (f + g + h)
    ≡ f * ((u₂ + v₂ + w₂) * (u₃ + v₃ + w₃)) * u₁ + g * ((u₁ + v₁ + w₁) * (u₃ + v₃ + w₃)) * u₂ + h * ((u₁ + v₁ + w₁) * (u₂ + v₂ + w₂)) * u₃
    + (f * ((u₂ + v₂ + w₂) * (u₃ + v₃ + w₃)) * v₁ + g * ((u₁ + v₁ + w₁) * (u₃ + v₃ + w₃)) * v₂ + h * ((u₁ + v₁ + w₁) * (u₂ + v₂ + w₂)) * v₃)
    + (f * ((u₂ + v₂ + w₂) * (u₃ + v₃ + w₃)) * w₁ + g * ((u₁ + v₁ + w₁) * (u₃ + v₃ + w₃)) * w₂ + h * ((u₁ + v₁ + w₁) * (u₂ + v₂ + w₂)) * w₃)
weights_sum u₁ v₁ w₁ u₂ v₂ w₂ u₃ v₃ w₃ f g h =
    let x = λ (i : ℕ). variable i in
    let s₁ = x 0 ⊕ x 1 ⊕ x 2 in
    let s₂ = x 3 ⊕ x 4 ⊕ x 5 in
    let s₃ = x 6 ⊕ x 7 ⊕ x 8 in
    let sum = λ (u : ℕ). x 9 ⊗ (s₂ ⊗ s₃) ⊗ x u ⊕ x 10 ⊗ (s₁ ⊗ s₃) ⊗ x (u + 3) ⊕ x 11 ⊗ (s₁ ⊗ s₂) ⊗ x (u + 6) in
    of_naturals (ring (pos u₁ ∷ pos v₁ ∷ pos w₁ ∷ pos u₂ ∷ pos v₂ ∷ pos w₂ ∷ pos u₃ ∷ pos v₃ ∷ pos w₃ ∷ pos f ∷ pos g ∷ pos h ∷ [])
    (s₁ ⊗ s₂ ⊗ s₃ ⊗ (x 9 ⊕ x 10 ⊕ x 11)) (sum 0 ⊕ sum 1 ⊕ sum 2) refl)

bounds_sum : (e s₁ s₂ s₃ f g h : ℕ)
    → e * e * (((f + g + h) * (f * (s₂ * s₃)) * s₁ + (f + g + h) * (g * (s₁ * s₃)) * s₂ + (f + g + h) * (h * (s₁ * s₂)) * s₃) * ((f + g + h) * (f * (s₂ * s₃)) * s₁ + (f + g + h) * (g * (s₁ * s₃)) * s₂ + (f + g + h) * (h * (s₁ * s₂)) * s₃))
    ≡ (e * (s₁ * s₂ * s₃ * (f + g + h)) * (f + g + h)) ^ 2
bounds_sum e s₁ s₂ s₃ f g h =
    let x = λ (i : ℕ). variable i in
    let n = x 4 ⊕ x 5 ⊕ x 6 in
    let all = n ⊗ (x 4 ⊗ (x 2 ⊗ x 3)) ⊗ x 1 ⊕ n ⊗ (x 5 ⊗ (x 1 ⊗ x 3)) ⊗ x 2 ⊕ n ⊗ (x 6 ⊗ (x 1 ⊗ x 2)) ⊗ x 3 in
    let one = x 0 ⊗ (x 1 ⊗ x 2 ⊗ x 3 ⊗ n) ⊗ n in
    of_naturals (ring (pos e ∷ pos s₁ ∷ pos s₂ ∷ pos s₃ ∷ pos f ∷ pos g ∷ pos h ∷ []) (x 0 ⊗ x 0 ⊗ (all ⊗ all)) (one ⊗ one) refl)
    ∙ sym (square_is (e * (s₁ * s₂ * s₃ * (f + g + h)) * (f + g + h)))

pub hull_law : HullLaw
hull_law p q r k tri e near_all f g h some =
    let n₁ = near_all.a_near in
    let n₂ = near_all.b_near in
    let n₃ = near_all.c_near in
    let a = corner_of tri 0 in
    let b = corner_of tri 1 in
    let c = corner_of tri 2 in
    let s₁ = n₁.u + n₁.v + n₁.w in
    let s₂ = n₂.u + n₂.v + n₂.w in
    let s₃ = n₃.u + n₃.v + n₃.w in
    let n = f + g + h in
    let t = pos (2 ^ k) in
    let far = e * 2 ^ k in
    let w₁ = weighted_gap (pos s₁) t (pos n₁.u) (pos n₁.v) (pos n₁.w) p a b c in
    let w₂ = weighted_gap (pos s₂) t (pos n₂.u) (pos n₂.v) (pos n₂.w) q a b c in
    let w₃ = weighted_gap (pos s₃) t (pos n₃.u) (pos n₃.v) (pos n₃.w) r a b c in
    let u = f * (s₂ * s₃) * n₁.u + g * (s₁ * s₃) * n₂.u + h * (s₁ * s₂) * n₃.u in
    let v = f * (s₂ * s₃) * n₁.v + g * (s₁ * s₃) * n₂.v + h * (s₁ * s₂) * n₃.v in
    let w = f * (s₂ * s₃) * n₁.w + g * (s₁ * s₃) * n₂.w + h * (s₁ * s₂) * n₃.w in
    let sum : s₁ * s₂ * s₃ * n ≡ u + v + w = weights_sum n₁.u n₁.v n₁.w n₂.u n₂.v n₂.w n₃.u n₃.v n₃.w f g h in
    let near : (s : ℕ) (z : Vector) → dot z z ≤ℤ pos ((far * s) ^ 2) → dot z z ≤ℤ (pos (far * far) *ℤ (pos s *ℤ pos s)) = λ s z i. subst (λ (b : ℤ). dot z z ≤ℤ b) (squares_are far s) i in
    let above : (s : ℕ) → 0 < s → pos 0 <ℤ pos s = λ s l. omega (arith, linear, l) in
    let all = sum_at_most w₁ w₂ w₃ (pos (far * far)) (pos s₁) (pos s₂) (pos s₃) (pos (n * (f * (s₂ * s₃)))) (pos (n * (g * (s₁ * s₃)))) (pos (n * (h * (s₁ * s₂))))
    (above s₁ n₁.some) (above s₂ n₂.some) (above s₃ n₃.some) (natural-NonNegative _) (natural-NonNegative _) (natural-NonNegative _) (near s₁ w₁ (gap_of_near p k e a b c n₁)) (near s₂ w₂ (gap_of_near q k e a b c n₂)) (near s₃ w₃ (gap_of_near r k e a b c n₃)) in
    let gap = λ (s : ℕ). weighted_gap (pos s) (pos (n * 2 ^ k)) (pos u) (pos v) (pos w) (weighted_sum f g h p q r) a b c in
    let is = mean_is (pos s₁) (pos s₂) (pos s₃) t (pos n₁.u) (pos n₁.v) (pos n₁.w) (pos n₂.u) (pos n₂.v) (pos n₂.w) (pos n₃.u) (pos n₃.v) (pos n₃.w) (pos f) (pos g) (pos h) p q r a b c in
    let first : dot (gap (s₁ * s₂ * s₃ * n)) (gap (s₁ * s₂ * s₃ * n)) ≤ℤ pos ((far * (s₁ * s₂ * s₃ * n) * n) ^ 2) =
    subst (λ (m : ℕ). dot (gap (s₁ * s₂ * s₃ * n)) (gap (s₁ * s₂ * s₃ * n)) ≤ℤ pos m) (bounds_sum far s₁ s₂ s₃ f g h) (subst (λ (z : Vector). dot z z ≤ℤ (pos (far * far) *ℤ (pos (n * (f * (s₂ * s₃)) * s₁ + n * (g * (s₁ * s₃)) * s₂ + n * (h * (s₁ * s₂)) * s₃) *ℤ pos (n * (f * (s₂ * s₃)) * s₁ + n * (g * (s₁ * s₃)) * s₂ + n * (h * (s₁ * s₂)) * s₃)))) is all) in
    record {
      u = u;
      v = v;
      w = w;
      some = subst (λ (m : ℕ). 0 < m) sum (positive s₁ s₂ s₃ n n₁.some n₂.some n₃.some some);
      close = subst (λ (t : ℤ). t ≤ℤ pos ((far * (u + v + w) * n) ^ 2)) (sym (sq_gap-weighted_gap (pos (u + v + w)) (pos (n * 2 ^ k)) (pos u) (pos v) (pos w) (weighted_sum f g h p q r) a b c))
          (subst (λ (s : ℕ). dot (gap s) (gap s) ≤ℤ pos ((far * s * n) ^ 2)) sum first);
    }
  where
    positive : (i j k l : ℕ) → 0 < i → 0 < j → 0 < k → 0 < l → 0 < i * j * k * l
    positive i j k l p q r s = mul-pos (mul-pos (mul-pos p q) r) s
