-- When a segment is near: by its first end, by its last end, or by the foot between them.
use Rattle.std.proofs.Common.{[], ◌∷◌, ℤ, pos, ◌+ℤ◌, ◌-ℤ◌, ◌*ℤ◌, ◌≤ℤ◌, ◌<ℤ◌, refl, ◌↔◌, arith}
use Rattle.int_algebra.proofs.Laws.{linear}
use Rattle.int_algebra.proofs.Ring.{Expression, variable, ◌⊕◌, ◌⊖◌, ◌⊗◌}
use Rattle.int_algebra.proofs.Orders.{at_most, below, one_more, natural, square, given, ◌⊞◌, ◌⊠◌, ◌≼◌, cancel-at_most, natural-NonNegative}
use Rattle.int_algebra.proofs.Corners.{Corner, less as less_, dot as dot_, cross as cross_}
use Rattle.grid.specs.Vectors.{Vector, dot, cross, minus, sum_of_two}
use Rattle.tri_distance.specs.Parts.{NearSegment}
use Rattle.grid.proofs.ForCallers.{coordinates_then, scaled_, plus_, length_, squares_, x_, y_, zero_, one_}

-- d is x - y, and v, w and r are the variables 6, 7 and 8
abbrev d_ : Corner
d_ = less_ x_ y_

abbrev v_ : Expression
v_ = variable 6

abbrev w_ : Expression
w_ = variable 7

abbrev r_ : Expression
r_ = variable 8

abbrev s_ : Expression
s_ = v_ ⊕ w_

abbrev g_ : Corner
g_ = plus_ (scaled_ v_ x_) (scaled_ w_ y_)

pub square-Positive : (s : ℤ) → pos 0 <ℤ s → pos 0 <ℤ (s *ℤ s)
square-Positive s h =
    below (s ∷ []) ((one_ ≼ variable 0) ∷ []) zero_ (variable 0 ⊗ variable 0) (given 0 ⊠ given 0 ⊞ natural 2 ⊠ given 0) refl (one_more (pos 0) s h, tt)

-- the first end is the nearest
first_scaled : (x y : Vector) (v w r : ℤ) → pos 0 ≤ℤ v → pos 0 ≤ℤ w → dot x (minus x y) ≤ℤ pos 0 → dot (sum_of_two v w x y) (sum_of_two v w x y) ≤ℤ (r *ℤ ((v +ℤ w) *ℤ (v +ℤ w)))
    → (((v +ℤ w) *ℤ (v +ℤ w)) *ℤ dot x x) ≤ℤ (((v +ℤ w) *ℤ (v +ℤ w)) *ℤ r)
unfolding dot minus sum_of_two
first_scaled x y v w r f g h c =
    at_most (coordinates_then (x ∷ y ∷ []) (v ∷ w ∷ r ∷ []))
    ((zero_ ≼ v_) ∷ (zero_ ≼ w_) ∷ (dot_ x_ d_ ≼ zero_) ∷ (length_ g_ ≼ r_ ⊗ (s_ ⊗ s_)) ∷ [])
    (s_ ⊗ s_ ⊗ length_ x_) (s_ ⊗ s_ ⊗ r_)
    (given 3 ⊞ natural 2 ⊠ (given 0 ⊞ given 1) ⊠ given 1 ⊠ given 2 ⊞ given 1 ⊠ given 1 ⊠ squares_ d_) refl (f, (g, (h, (c, tt))))

last_scaled : (x y : Vector) (v w r : ℤ) → pos 0 ≤ℤ v → pos 0 ≤ℤ w → pos 0 ≤ℤ dot y (minus x y) → dot (sum_of_two v w x y) (sum_of_two v w x y) ≤ℤ (r *ℤ ((v +ℤ w) *ℤ (v +ℤ w)))
    → (((v +ℤ w) *ℤ (v +ℤ w)) *ℤ dot y y) ≤ℤ (((v +ℤ w) *ℤ (v +ℤ w)) *ℤ r)
unfolding dot minus sum_of_two
last_scaled x y v w r f g h c =
    at_most (coordinates_then (x ∷ y ∷ []) (v ∷ w ∷ r ∷ []))
    ((zero_ ≼ v_) ∷ (zero_ ≼ w_) ∷ (zero_ ≼ dot_ y_ d_) ∷ (length_ g_ ≼ r_ ⊗ (s_ ⊗ s_)) ∷ [])
    (s_ ⊗ s_ ⊗ length_ y_) (s_ ⊗ s_ ⊗ r_)
    (given 3 ⊞ natural 2 ⊠ (given 0 ⊞ given 1) ⊠ given 0 ⊠ given 2 ⊞ given 0 ⊠ given 0 ⊠ squares_ d_) refl (f, (g, (h, (c, tt))))

middle_scaled : (x y : Vector) (v w r : ℤ) → dot (sum_of_two v w x y) (sum_of_two v w x y) ≤ℤ (r *ℤ ((v +ℤ w) *ℤ (v +ℤ w)))
    → (((v +ℤ w) *ℤ (v +ℤ w)) *ℤ dot (cross x y) (cross x y)) ≤ℤ (((v +ℤ w) *ℤ (v +ℤ w)) *ℤ (r *ℤ dot (minus x y) (minus x y)))
unfolding dot minus sum_of_two
middle_scaled x y v w r c =
    at_most (coordinates_then (x ∷ y ∷ []) (v ∷ w ∷ r ∷ []))
    ((length_ g_ ≼ r_ ⊗ (s_ ⊗ s_)) ∷ [])
    (s_ ⊗ s_ ⊗ length_ (cross_ x_ y_)) (s_ ⊗ s_ ⊗ (r_ ⊗ length_ d_))
    (squares_ d_ ⊠ given 0 ⊞ square (dot_ g_ d_)) refl (c, tt)

-- the weights of the foot between the ends
foot_close : (x y : Vector) (r : ℤ) → dot (cross x y) (cross x y) ≤ℤ (r *ℤ dot (minus x y) (minus x y))
    → dot (sum_of_two (pos 0 -ℤ dot y (minus x y)) (dot x (minus x y)) x y) (sum_of_two (pos 0 -ℤ dot y (minus x y)) (dot x (minus x y)) x y) ≤ℤ (r *ℤ ((pos 0 -ℤ dot y (minus x y) +ℤ dot x (minus x y)) *ℤ (pos 0 -ℤ dot y (minus x y) +ℤ dot x (minus x y))))
unfolding dot minus sum_of_two
foot_close x y r h =
    let f = zero_ ⊖ dot_ y_ d_ in
    let g = dot_ x_ d_ in
    at_most (coordinates_then (x ∷ y ∷ []) (r ∷ [])) ((length_ (cross_ x_ y_) ≼ v_ ⊗ length_ d_) ∷ [])
    (length_ (plus_ (scaled_ f x_) (scaled_ g y_))) (v_ ⊗ ((f ⊕ g) ⊗ (f ⊕ g))) (squares_ d_ ⊠ given 0) refl (h, tt)

by_first : (x y : Vector) (r : ℤ) → dot x x ≤ℤ r → NearSegment x y r
unfolding dot sum_of_two
by_first x y r c = record {
  v = pos 1;
  w = pos 0;
  v_in = natural-NonNegative 1;
  w_in = natural-NonNegative 0;
  some = omega (arith, linear);
  close = at_most (coordinates_then (x ∷ y ∷ []) (r ∷ [])) ((length_ x_ ≼ v_) ∷ []) (length_ (plus_ (scaled_ one_ x_) (scaled_ zero_ y_))) (v_ ⊗ ((one_ ⊕ zero_) ⊗ (one_ ⊕ zero_))) (given 0) refl (c, tt);
}

by_last : (x y : Vector) (r : ℤ) → dot y y ≤ℤ r → NearSegment x y r
unfolding dot sum_of_two
by_last x y r c = record {
  v = pos 0;
  w = pos 1;
  v_in = natural-NonNegative 0;
  w_in = natural-NonNegative 1;
  some = omega (arith, linear);
  close = at_most (coordinates_then (x ∷ y ∷ []) (r ∷ [])) ((length_ y_ ≼ v_) ∷ []) (length_ (plus_ (scaled_ zero_ x_) (scaled_ one_ y_))) (v_ ⊗ ((zero_ ⊕ one_) ⊗ (zero_ ⊕ one_))) (given 0) refl (c, tt);
}

pub first-NearSegment : (x y : Vector) (r : ℤ) → dot x (minus x y) ≤ℤ pos 0 → (dot x x ≤ℤ r) ↔ NearSegment x y r
first-NearSegment x y r h = (by_first x y r, λ n. cancel-at_most _ _ _ (square-Positive _ n.some) (first_scaled x y n.v n.w r n.v_in n.w_in h n.close))

pub last-NearSegment : (x y : Vector) (r : ℤ) → pos 0 ≤ℤ dot y (minus x y) → (dot y y ≤ℤ r) ↔ NearSegment x y r
last-NearSegment x y r h = (by_last x y r, λ n. cancel-at_most _ _ _ (square-Positive _ n.some) (last_scaled x y n.v n.w r n.v_in n.w_in h n.close))

pub middle-NearSegment : (x y : Vector) (r : ℤ) → pos 0 <ℤ dot x (minus x y) → dot y (minus x y) <ℤ pos 0
    → (dot (cross x y) (cross x y) ≤ℤ (r *ℤ dot (minus x y) (minus x y))) ↔ NearSegment x y r
middle-NearSegment x y r h k = (
  λ c. record {
    v = pos 0 -ℤ dot y (minus x y);
    w = dot x (minus x y);
    v_in = omega (arith, linear);
    w_in = omega (arith, linear);
    some = omega (arith, linear);
    close = foot_close x y r c;
  },
  λ n. cancel-at_most _ _ _ (square-Positive _ n.some) (middle_scaled x y n.v n.w r n.close),
)
