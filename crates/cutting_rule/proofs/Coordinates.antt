-- One coordinate of a point of the section.
use Rattle.std.proofs.Common.{◌≡◌, ℕ, ◌+◌, ◌≤◌, [], ◌∷◌, ℤ, pos, ◌+ℤ◌, ◌-ℤ◌, ◌*ℤ◌, ◌≤ℤ◌, ◌<ℤ◌, refl, arith}
use Rattle.int_algebra.proofs.Laws.{linear}
use Rattle.int_algebra.proofs.Ring.{Expression, constant, variable, ◌⊕◌, ◌⊖◌, ◌⊗◌}
use Rattle.int_algebra.proofs.Orders.{at_most, natural-NonNegative, given, ◌⊞◌, ◌⊠◌, ◌≼◌, cancel-at_most}
use Rattle.grid.specs.Boxes.{IsUpTo}
use Rattle.grid.specs.Limits.{largest_side}
use Rattle.cutting_rule.specs.Spread.{IsSpread}

half : (q m : ℤ) → (pos 2 *ℤ q) ≤ℤ (pos 2 *ℤ m) → q ≤ℤ m
half q m h = cancel-at_most (pos 2) q m (omega (arith, linear)) h

-- along one axis
pub along : (g k m : ℤ) → (pos 0 -ℤ m) ≤ℤ g → g ≤ℤ m → (pos 0 -ℤ pos 1) ≤ℤ k → k ≤ℤ pos 1 → ((pos 0 -ℤ m) ≤ℤ (g *ℤ k)) × ((g *ℤ k) ≤ℤ m)
along g k m gl gh kl kh =
    let x = variable 0 in
    let y = variable 1 in
    let z = variable 2 in
    let o = constant (pos 0) in
    let one = constant (pos 1) in
    let two = constant (pos 2) in
    let facts = (o ⊖ z ≼ x) ∷ (x ≼ z) ∷ (o ⊖ one ≼ y) ∷ (y ≼ one) ∷ [] in
    let high : (pos 2 *ℤ (g *ℤ k)) ≤ℤ (pos 2 *ℤ m) = at_most (g ∷ k ∷ m ∷ []) facts (two ⊗ (x ⊗ y)) (two ⊗ z) (given 1 ⊠ given 2 ⊞ given 0 ⊠ given 3) refl (gl, (gh, (kl, (kh, tt)))) in
    let low : (pos 2 *ℤ (pos 0 -ℤ m)) ≤ℤ (pos 2 *ℤ (g *ℤ k)) = at_most (g ∷ k ∷ m ∷ []) facts (two ⊗ (o ⊖ z)) (two ⊗ (x ⊗ y)) (given 0 ⊠ given 2 ⊞ given 1 ⊠ given 3) refl (gl, (gh, (kl, (kh, tt)))) in
    (half (pos 0 -ℤ m) (g *ℤ k) low, half (g *ℤ k) m high)

-- ---- one coordinate: e, f and g are the values, which are at least -u, -v and -w, and c, d and i the corners' coordinates
module _ (e f g u v w c d i lo hi p r m : ℤ) (e_in : (pos 0 -ℤ u) ≤ℤ e) (f_in : (pos 0 -ℤ v) ≤ℤ f) (g_in : (pos 0 -ℤ w) ≤ℤ g) (u_in : pos 0 ≤ℤ u) (v_in : pos 0 ≤ℤ v) (w_in : pos 0 ≤ℤ w)
    (c_in : (lo ≤ℤ c) × (c ≤ℤ hi)) (d_in : (lo ≤ℤ d) × (d ≤ℤ hi)) (i_in : (lo ≤ℤ i) × (i ≤ℤ hi))
    (some : pos 0 <ℤ (e +ℤ f +ℤ g)) (mean : (e +ℤ f +ℤ g) *ℤ p +ℤ r ≡ e *ℤ c +ℤ f *ℤ d +ℤ g *ℤ i)
    (r_in : ((pos 0 -ℤ pos 2 *ℤ (e +ℤ f +ℤ g)) ≤ℤ r) × (r ≤ℤ (pos 2 *ℤ (e +ℤ f +ℤ g)))) (wide : ((hi -ℤ lo) *ℤ (u +ℤ v +ℤ w) +ℤ pos 2 *ℤ (e +ℤ f +ℤ g)) ≤ℤ (m *ℤ (e +ℤ f +ℤ g))) where
  abbrev x_at : ℕ → Expression
  x_at n = variable n

  abbrev area_ : Expression
  area_ = x_at 0 ⊕ x_at 1 ⊕ x_at 2

  abbrev mean_ : Expression
  mean_ = x_at 0 ⊗ x_at 6 ⊕ x_at 1 ⊗ x_at 7 ⊕ x_at 2 ⊗ x_at 8

  abbrev point_ : Expression
  point_ = area_ ⊗ x_at 11 ⊕ x_at 12

  coordinate_low : (lo -ℤ m) ≤ℤ p
  coordinate_low =
      let o = constant (pos 0) in
      let two = constant (pos 2) in
      let le : (e *ℤ c +ℤ f *ℤ d +ℤ g *ℤ i) ≤ℤ ((e +ℤ f +ℤ g) *ℤ p +ℤ r) = omega (arith, linear, mean) in
      cancel-at_most (e +ℤ f +ℤ g) (lo -ℤ m) p some
      (at_most (e ∷ f ∷ g ∷ u ∷ v ∷ w ∷ c ∷ d ∷ i ∷ lo ∷ hi ∷ p ∷ r ∷ m ∷ [])
      ((o ⊖ x_at 3 ≼ x_at 0) ∷ (o ⊖ x_at 4 ≼ x_at 1) ∷ (o ⊖ x_at 5 ≼ x_at 2) ∷ (x_at 9 ≼ x_at 6) ∷ (x_at 9 ≼ x_at 7) ∷ (x_at 9 ≼ x_at 8) ∷ (x_at 6 ≼ x_at 10) ∷ (x_at 7 ≼ x_at 10) ∷ (x_at 8 ≼ x_at 10)
      ∷ (o ≼ x_at 3) ∷ (o ≼ x_at 4) ∷ (o ≼ x_at 5) ∷ (mean_ ≼ point_) ∷ (x_at 12 ≼ two ⊗ area_) ∷ ((x_at 10 ⊖ x_at 9) ⊗ (x_at 3 ⊕ x_at 4 ⊕ x_at 5) ⊕ two ⊗ area_ ≼ x_at 13 ⊗ area_) ∷ [])
      (area_ ⊗ (x_at 9 ⊖ x_at 13)) (area_ ⊗ x_at 11)
      (given 12 ⊞ given 13 ⊞ given 14 ⊞ given 0 ⊠ given 3 ⊞ given 1 ⊠ given 4 ⊞ given 2 ⊠ given 5 ⊞ given 9 ⊠ given 6 ⊞ given 10 ⊠ given 7 ⊞ given 11 ⊠ given 8) refl
      (e_in, (f_in, (g_in, (c_in.0, (d_in.0, (i_in.0, (c_in.1, (d_in.1, (i_in.1, (u_in, (v_in, (w_in, (le, (r_in.1, (wide, tt))))))))))))))))

  coordinate_high : p ≤ℤ (hi +ℤ m)
  coordinate_high =
      let o = constant (pos 0) in
      let two = constant (pos 2) in
      let le : ((e +ℤ f +ℤ g) *ℤ p +ℤ r) ≤ℤ (e *ℤ c +ℤ f *ℤ d +ℤ g *ℤ i) = omega (arith, linear, mean) in
      cancel-at_most (e +ℤ f +ℤ g) p (hi +ℤ m) some
      (at_most (e ∷ f ∷ g ∷ u ∷ v ∷ w ∷ c ∷ d ∷ i ∷ lo ∷ hi ∷ p ∷ r ∷ m ∷ [])
      ((o ⊖ x_at 3 ≼ x_at 0) ∷ (o ⊖ x_at 4 ≼ x_at 1) ∷ (o ⊖ x_at 5 ≼ x_at 2) ∷ (x_at 9 ≼ x_at 6) ∷ (x_at 9 ≼ x_at 7) ∷ (x_at 9 ≼ x_at 8) ∷ (x_at 6 ≼ x_at 10) ∷ (x_at 7 ≼ x_at 10) ∷ (x_at 8 ≼ x_at 10)
      ∷ (o ≼ x_at 3) ∷ (o ≼ x_at 4) ∷ (o ≼ x_at 5) ∷ (point_ ≼ mean_) ∷ (o ⊖ two ⊗ area_ ≼ x_at 12) ∷ ((x_at 10 ⊖ x_at 9) ⊗ (x_at 3 ⊕ x_at 4 ⊕ x_at 5) ⊕ two ⊗ area_ ≼ x_at 13 ⊗ area_) ∷ [])
      (area_ ⊗ x_at 11) (area_ ⊗ (x_at 10 ⊕ x_at 13))
      (given 12 ⊞ given 13 ⊞ given 14 ⊞ given 0 ⊠ given 6 ⊞ given 1 ⊠ given 7 ⊞ given 2 ⊠ given 8 ⊞ given 9 ⊠ given 3 ⊞ given 10 ⊠ given 4 ⊞ given 11 ⊠ given 5) refl
      (e_in, (f_in, (g_in, (c_in.0, (d_in.0, (i_in.0, (c_in.1, (d_in.1, (i_in.1, (u_in, (v_in, (w_in, (le, (r_in.0, (wide, tt))))))))))))))))

-- a margin that is enough for some area is enough for a larger one
wide_enough : (x w m a b : ℤ) → (x *ℤ w) ≤ℤ ((m -ℤ pos 2) *ℤ a) → pos 2 ≤ℤ m → a ≤ℤ b → (x *ℤ w +ℤ pos 2 *ℤ b) ≤ℤ (m *ℤ b)
wide_enough x w m a b h two le =
    let v = λ (i : ℕ). variable i in
    let two_ = constant (pos 2) in
    at_most (x ∷ w ∷ m ∷ a ∷ b ∷ []) ((v 0 ⊗ v 1 ≼ (v 2 ⊖ two_) ⊗ v 3) ∷ (two_ ≼ v 2) ∷ (v 3 ≼ v 4) ∷ [])
    (v 0 ⊗ v 1 ⊕ two_ ⊗ v 4) (v 2 ⊗ v 4) (given 0 ⊞ given 1 ⊠ given 2) refl (h, (two, (le, tt)))

pub one_axis : (e f g : ℤ) (u v w area : ℕ) (c d i lo hi l h p r : ℤ) → IsSpread lo hi (u + v + w) area l h → IsUpTo largest_side p → (pos 0 -ℤ pos u) ≤ℤ e → (pos 0 -ℤ pos v) ≤ℤ f → (pos 0 -ℤ pos w) ≤ℤ g
    → ((lo ≤ℤ c) × (c ≤ℤ hi)) → ((lo ≤ℤ d) × (d ≤ℤ hi)) → ((lo ≤ℤ i) × (i ≤ℤ hi)) → pos area ≤ℤ (e +ℤ f +ℤ g) → pos 0 <ℤ (e +ℤ f +ℤ g) → (e +ℤ f +ℤ g) *ℤ p +ℤ r ≡ e *ℤ c +ℤ f *ℤ d +ℤ g *ℤ i
    → ((pos 0 -ℤ pos 2 *ℤ (e +ℤ f +ℤ g)) ≤ℤ r) × (r ≤ℤ (pos 2 *ℤ (e +ℤ f +ℤ g))) → (l ≤ℤ p) × (p ≤ℤ h)
one_axis e f g u v w area c d i lo hi l h p r s p_in e_in f_in g_in c_in d_in i_in le some mean r_in =
    let least : 2 ≤ s.margin = s.least in
    let two : pos 2 ≤ℤ pos s.margin = omega (arith, linear, least) in
    let wide = wide_enough (hi -ℤ lo) (pos u +ℤ pos v +ℤ pos w) (pos s.margin) (pos area) (e +ℤ f +ℤ g) s.enough two le in (
      s.low p p_in.low (coordinate_low e f g (pos u) (pos v) (pos w) c d i lo hi p r (pos s.margin) e_in f_in g_in (natural-NonNegative u) (natural-NonNegative v) (natural-NonNegative w) c_in d_in i_in some mean r_in wide),
      s.high p p_in.high (coordinate_high e f g (pos u) (pos v) (pos w) c d i lo hi p r (pos s.margin) e_in f_in g_in (natural-NonNegative u) (natural-NonNegative v) (natural-NonNegative w) c_in d_in i_in some mean r_in wide),
    )
