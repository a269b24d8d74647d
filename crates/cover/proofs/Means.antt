-- Each mean of a face's corners is one of a piece's corners.
use Rattle.std.proofs.Common.{◌≡◌, ℕ, ◌+◌, ◌*◌, ◌^◌, suc, [], ◌∷◌, ℤ, pos, ◌+ℤ◌, ◌*ℤ◌, ◌≤ℤ◌, refl, arith, ap, subst, sym, ◌∙◌, pow-suc}
use Rattle.int_algebra.proofs.Laws.{linear}
use Rattle.int_algebra.proofs.Ring.{constant, variable, ◌⊕◌, ◌⊖◌, ◌⊗◌, ring, ring_from, ◌≈◌, of_naturals}
use Rattle.int_algebra.proofs.Orders.{cancel-at_most}
use Rattle.grid.specs.declared.shapes.Point.{Point}
use Rattle.grid.specs.declared.shapes.Tri.{Tri}
use Rattle.grid.specs.Boxes.{corner_of}
use Rattle.grid.specs.Near.{sq_gap}
use Rattle.grid.proofs.ForCallers.{square_is}
use Rattle.mesh_types.specs.Hull.{weighted_sum, IsMeanNear}

abbrev pub doubled : Point → Point
doubled p = record { x = pos 2 *ℤ p.x; y = pos 2 *ℤ p.y; z = pos 2 *ℤ p.z }

-- ---- the same mean at twice the scale
sq_gap-doubled : (s t u v w : ℤ) (p a b c : Point) → sq_gap s (pos 2 *ℤ t) u v w (doubled p) a b c ≡ pos 4 *ℤ sq_gap s t u v w p a b c
unfolding sq_gap
sq_gap-doubled s t u v w p a b c =
    let x = λ (i : ℕ). variable i in
    let two = constant (pos 2) in
    let gap = λ (k : ℕ). x 0 ⊗ x (5 + k) ⊖ x 1 ⊗ (x 2 ⊗ x (8 + k) ⊕ x 3 ⊗ x (11 + k) ⊕ x 4 ⊗ x (14 + k)) in
    let twice = λ (k : ℕ). x 0 ⊗ (two ⊗ x (5 + k)) ⊖ two ⊗ x 1 ⊗ (x 2 ⊗ x (8 + k) ⊕ x 3 ⊗ x (11 + k) ⊕ x 4 ⊗ x (14 + k)) in
    ring (s ∷ t ∷ u ∷ v ∷ w ∷ p.x ∷ p.y ∷ p.z ∷ a.x ∷ a.y ∷ a.z ∷ b.x ∷ b.y ∷ b.z ∷ c.x ∷ c.y ∷ c.z ∷ [])
    (twice 0 ⊗ twice 0 ⊕ twice 1 ⊗ twice 1 ⊕ twice 2 ⊗ twice 2)
    (constant (pos 4) ⊗ (gap 0 ⊗ gap 0 ⊕ gap 1 ⊗ gap 1 ⊕ gap 2 ⊗ gap 2)) refl

power_next : (k : ℕ) → 2 ^ (k + 1) ≡ 2 * 2 ^ k
power_next k =
    let next : k + 1 ≡ suc k = omega arith in
    let double : 2 ^ suc k ≡ 2 * 2 ^ k = omega (arith, pow-suc 2 k) in
    ap (λ (n : ℕ). 2 ^ n) next ∙ double

bound_next : (e m s n : ℕ) → (e * (2 * m) * s * n) ^ 2 ≡ 4 * (e * m * s * n) ^ 2
bound_next e m s n =
    let x = λ (i : ℕ). variable i in
    let one = x 0 ⊗ (constant (pos 2) ⊗ x 1) ⊗ x 2 ⊗ x 3 in
    let other = x 0 ⊗ x 1 ⊗ x 2 ⊗ x 3 in
    square_is (e * (2 * m) * s * n)
    ∙ of_naturals (ring (pos e ∷ pos m ∷ pos s ∷ pos n ∷ []) (one ⊗ one) (constant (pos 4) ⊗ (other ⊗ other)) refl)
    ∙ ap (λ (q : ℕ). 4 * q) (sym (square_is (e * m * s * n)))

scale_next : (n m : ℕ) → pos (n * (2 * m)) ≡ pos 2 *ℤ pos (n * m)
scale_next n m = ring (pos n ∷ pos m ∷ []) (variable 0 ⊗ (constant (pos 2) ⊗ variable 1)) (constant (pos 2) ⊗ (variable 0 ⊗ variable 1)) refl

-- the weights f, g, h of p, q, r at the scale 2 ^ (k + 1) give the mean that i, j, l of a, b, c give at 2 ^ k
pub mean_at_piece : (p q r a b c : Point) (f g h i j l k : ℕ) (tri : Tri) (e : ℕ) → f + g + h ≡ i + j + l → weighted_sum f g h p q r ≡ doubled (weighted_sum i j l a b c)
    → IsMeanNear p q r f g h (k + 1) tri e → IsMeanNear a b c i j l k tri e
mean_at_piece p q r a b c f g h i j l k tri e sum same n =
    let s = n.u + n.v + n.w in
    let t = i + j + l in
    let gap = λ (z : ℤ) (d : Point). sq_gap (pos s) z (pos n.u) (pos n.v) (pos n.w) d (corner_of tri 0) (corner_of tri 1) (corner_of tri 2) in
    let here : gap (pos ((f + g + h) * 2 ^ (k + 1))) (weighted_sum f g h p q r) ≡ pos 4 *ℤ gap (pos (t * 2 ^ k)) (weighted_sum i j l a b c) =
    (λ o. gap (pos (sum o * power_next k o)) (same o)) ∙ ap (λ (z : ℤ). gap z (doubled (weighted_sum i j l a b c))) (scale_next t (2 ^ k)) ∙ sq_gap-doubled (pos s) (pos (t * 2 ^ k)) (pos n.u) (pos n.v) (pos n.w) (weighted_sum i j l a b c) (corner_of tri 0) (corner_of tri 1) (corner_of tri 2) in
    let bound : (e * 2 ^ (k + 1) * s * (f + g + h)) ^ 2 ≡ 4 * (e * 2 ^ k * s * t) ^ 2 = (λ o. (e * power_next k o * s * sum o) ^ 2) ∙ bound_next e (2 ^ k) s t in
    let close : (pos 4 *ℤ gap (pos (t * 2 ^ k)) (weighted_sum i j l a b c)) ≤ℤ (pos 4 *ℤ pos ((e * 2 ^ k * s * t) ^ 2)) =
    subst (λ (z : ℤ). z ≤ℤ (pos 4 *ℤ pos ((e * 2 ^ k * s * t) ^ 2))) here (subst (λ (m : ℕ). gap (pos ((f + g + h) * 2 ^ (k + 1))) (weighted_sum f g h p q r) ≤ℤ pos m) bound n.close) in
    record {
      u = n.u;
      v = n.v;
      w = n.w;
      some = n.some;
      close = cancel-at_most (pos 4) _ _ (omega (arith, linear)) close;
    }

-- ---- the weights at a piece
-- at the corner a, whose weight is the largest
pub weights_first : (d g h i : ℤ) (a b c : ℤ) → d +ℤ h +ℤ i ≡ g → d *ℤ (a +ℤ a) +ℤ pos 2 *ℤ h *ℤ (a +ℤ b) +ℤ pos 2 *ℤ i *ℤ (a +ℤ c) ≡ pos 2 *ℤ (g *ℤ a +ℤ h *ℤ b +ℤ i *ℤ c)
weights_first d g h i a b c e =
    let x = λ (n : ℕ). variable n in
    let two = constant (pos 2) in
    ring_from (d ∷ g ∷ h ∷ i ∷ a ∷ b ∷ c ∷ []) ((x 0 ⊕ x 2 ⊕ x 3 ≈ x 1) ∷ []) ((two ⊗ x 4) ∷ [])
    (x 0 ⊗ (x 4 ⊕ x 4) ⊕ two ⊗ x 2 ⊗ (x 4 ⊕ x 5) ⊕ two ⊗ x 3 ⊗ (x 4 ⊕ x 6)) (two ⊗ (x 1 ⊗ x 4 ⊕ x 2 ⊗ x 5 ⊕ x 3 ⊗ x 6)) refl (e, tt)

pub weights_second : (d g h i : ℤ) (a b c : ℤ) → d +ℤ g +ℤ i ≡ h → pos 2 *ℤ g *ℤ (a +ℤ b) +ℤ d *ℤ (b +ℤ b) +ℤ pos 2 *ℤ i *ℤ (b +ℤ c) ≡ pos 2 *ℤ (g *ℤ a +ℤ h *ℤ b +ℤ i *ℤ c)
weights_second d g h i a b c e =
    let x = λ (n : ℕ). variable n in
    let two = constant (pos 2) in
    ring_from (d ∷ g ∷ h ∷ i ∷ a ∷ b ∷ c ∷ []) ((x 0 ⊕ x 1 ⊕ x 3 ≈ x 2) ∷ []) ((two ⊗ x 5) ∷ [])
    (two ⊗ x 1 ⊗ (x 4 ⊕ x 5) ⊕ x 0 ⊗ (x 5 ⊕ x 5) ⊕ two ⊗ x 3 ⊗ (x 5 ⊕ x 6)) (two ⊗ (x 1 ⊗ x 4 ⊕ x 2 ⊗ x 5 ⊕ x 3 ⊗ x 6)) refl (e, tt)

pub weights_third : (d g h i : ℤ) (a b c : ℤ) → d +ℤ g +ℤ h ≡ i → pos 2 *ℤ g *ℤ (a +ℤ c) +ℤ pos 2 *ℤ h *ℤ (b +ℤ c) +ℤ d *ℤ (c +ℤ c) ≡ pos 2 *ℤ (g *ℤ a +ℤ h *ℤ b +ℤ i *ℤ c)
weights_third d g h i a b c e =
    let x = λ (n : ℕ). variable n in
    let two = constant (pos 2) in
    ring_from (d ∷ g ∷ h ∷ i ∷ a ∷ b ∷ c ∷ []) ((x 0 ⊕ x 1 ⊕ x 2 ≈ x 3) ∷ []) ((two ⊗ x 6) ∷ [])
    (two ⊗ x 1 ⊗ (x 4 ⊕ x 6) ⊕ two ⊗ x 2 ⊗ (x 5 ⊕ x 6) ⊕ x 0 ⊗ (x 6 ⊕ x 6)) (two ⊗ (x 1 ⊗ x 4 ⊕ x 2 ⊗ x 5 ⊕ x 3 ⊗ x 6)) refl (e, tt)

-- in the middle, where no weight is above the sum of the others
pub weights_middle : (m n o g h i : ℤ) (a b c : ℤ) → m +ℤ i ≡ g +ℤ h → n +ℤ g ≡ h +ℤ i → o +ℤ h ≡ g +ℤ i → m *ℤ (a +ℤ b) +ℤ n *ℤ (b +ℤ c) +ℤ o *ℤ (a +ℤ c) ≡ pos 2 *ℤ (g *ℤ a +ℤ h *ℤ b +ℤ i *ℤ c)
weights_middle m n o g h i a b c d e f =
    let x = λ (j : ℕ). variable j in
    ring_from (m ∷ n ∷ o ∷ g ∷ h ∷ i ∷ a ∷ b ∷ c ∷ []) ((x 0 ⊕ x 5 ≈ x 3 ⊕ x 4) ∷ (x 1 ⊕ x 3 ≈ x 4 ⊕ x 5) ∷ (x 2 ⊕ x 4 ≈ x 3 ⊕ x 5) ∷ []) ((x 6 ⊕ x 7) ∷ (x 7 ⊕ x 8) ∷ (x 6 ⊕ x 8) ∷ [])
    (x 0 ⊗ (x 6 ⊕ x 7) ⊕ x 1 ⊗ (x 7 ⊕ x 8) ⊕ x 2 ⊗ (x 6 ⊕ x 8)) (constant (pos 2) ⊗ (x 3 ⊗ x 6 ⊕ x 4 ⊗ x 7 ⊕ x 5 ⊗ x 8)) refl (d, (e, (f, tt)))
