-- A triangle whose corners lie on one line: its weights can be moved while the weighted_gap point stays.
use Rattle.std.proofs.Common.{◌≡◌, [], ◌∷◌, ℤ, pos, ◌+ℤ◌, ◌-ℤ◌, ◌*ℤ◌, ◌≤ℤ◌, refl, arith, ap, ◌∙◌}
use Rattle.std.proofs.lemmas.Int.{by_lt_z}
use Rattle.int_algebra.proofs.Laws.{linear}
use Rattle.int_algebra.proofs.Ring.{◌⊕◌, ◌⊖◌, ◌⊗◌, ring_from, ◌≈◌, AllEqual}
use Rattle.int_algebra.proofs.Orders.{at_most, square, given, ◌⊞◌, ◌⊠◌, ◌≼◌}
use Rattle.int_algebra.proofs.Corners.{Corner, less as less_, dot as dot_, cross as cross_}
use Rattle.grid.specs.Vectors.{Vector, dot, cross, minus, sum_of_two, sum_of_three, scaled}
use Rattle.tri_distance.specs.Parts.{NearTriangle}
use Rattle.grid.proofs.ForCallers.{coordinates_then, scaled_, plus_, length_, x_, y_, z_, at_, zero_, one_}
use Rattle.tri_distance.proofs.Segments.{square-Positive}
use Rattle.tri_distance.proofs.Moves.{CanMove, NearEdge, first_lower, second_lower}
use Rattle.tri_distance.proofs.Planes.{moved_close}
use lib.Signed.{clash_ℤ}
use lib.IntN.{*ℤ-zero}

abbrev nought : Vector
nought = record { x = pos 0; y = pos 0; z = pos 0 }

-- ---- what has no length
none_of_square : (a : ℤ) → (a *ℤ a) ≤ℤ pos 0 → a ≡ pos 0
none_of_square a h =
    let not_above : a ≤ℤ pos 0 = by_lt_z (pos 0) a (λ l. clash_ℤ (square-Positive a l) h) (λ l. l) in
    let not_below : pos 0 ≤ℤ a = by_lt_z a (pos 0) (λ l. clash_ℤ (square-Positive (pos 0 -ℤ a) (omega (arith, linear, l))) (at_most (a ∷ []) ((at_ 0 ⊗ at_ 0 ≼ zero_) ∷ []) ((zero_ ⊖ at_ 0) ⊗ (zero_ ⊖ at_ 0)) zero_ (given 0) refl (h, tt))) (λ l. l) in
    omega (arith, linear, not_above, not_below)

none_of_length : (m : Vector) → dot m m ≤ℤ pos 0 → m ≡ nought
unfolding dot
none_of_length m h =
    let all = coordinates_then (m ∷ []) [] in
    let fact = (length_ x_ ≼ zero_) ∷ [] in
    let ex = none_of_square m.x (at_most all fact (x_.x ⊗ x_.x) zero_ (given 0 ⊞ square x_.y ⊞ square x_.z) refl (h, tt)) in
    let ey = none_of_square m.y (at_most all fact (x_.y ⊗ x_.y) zero_ (given 0 ⊞ square x_.x ⊞ square x_.z) refl (h, tt)) in
    let ez = none_of_square m.z (at_most all fact (x_.z ⊗ x_.z) zero_ (given 0 ⊞ square x_.x ⊞ square x_.y) refl (h, tt)) in
    λ i. record { x = ex i; y = ey i; z = ez i }

scaled-nought : (k : ℤ) → scaled k nought ≡ nought
unfolding scaled
scaled-nought k = λ i. record { x = *ℤ-zero k i; y = *ℤ-zero k i; z = *ℤ-zero k i }

-- ---- a direction that leads nowhere
still_close : (g : Vector) (s a b r : ℤ) → dot g g ≤ℤ (r *ℤ (s *ℤ s)) → dot (sum_of_two a b g nought) (sum_of_two a b g nought) ≤ℤ (r *ℤ ((a *ℤ s +ℤ b *ℤ pos 0) *ℤ (a *ℤ s +ℤ b *ℤ pos 0)))
unfolding dot sum_of_two
still_close g s a b r h =
    let s' = at_ 3 in
    let a' = at_ 4 in
    let b' = at_ 5 in
    let r' = at_ 6 in
    let none : Corner = record { x = zero_; y = zero_; z = zero_ } in
    let all = a' ⊗ s' ⊕ b' ⊗ zero_ in
    at_most (coordinates_then (g ∷ []) (s ∷ a ∷ b ∷ r ∷ [])) ((length_ x_ ≼ r' ⊗ (s' ⊗ s')) ∷ [])
    (length_ (plus_ (scaled_ a' x_) (scaled_ b' none))) (r' ⊗ (all ⊗ all)) (square a' ⊠ given 0) refl (h, tt)

still-CanMove : (x y z : Vector) (r f g h : ℤ) → f +ℤ g +ℤ h ≡ pos 0 → sum_of_three f g h x y z ≡ nought → (n : NearTriangle x y z r) → CanMove x y z r n.u n.v n.w f g h
still-CanMove x y z r f g h e l n = record {
  u_in = n.u_in;
  v_in = n.v_in;
  w_in = n.w_in;
  some = n.some;
  sum_in = omega (arith, linear, e);
  close = λ a b ha hb. moved_close x y z nought r n.u n.v n.w f g h (pos 0) a b e l (still_close (sum_of_three n.u n.v n.w x y z) (n.u +ℤ n.v +ℤ n.w) a b r n.close);
}

-- ---- two of the corners are one
one_point : (x y z : Vector) → minus y x ≡ nought → sum_of_three (pos 0 -ℤ pos 1) (pos 1) (pos 0) x y z ≡ nought
unfolding minus sum_of_three
one_point x y z e =
    let at : (a b c : ℤ) → b -ℤ a ≡ pos 0 → (pos 0 -ℤ pos 1) *ℤ a +ℤ pos 1 *ℤ b +ℤ pos 0 *ℤ c ≡ pos 0 =
    λ a b c h. ring_from (a ∷ b ∷ c ∷ []) ((at_ 1 ⊖ at_ 0 ≈ zero_) ∷ []) (one_ ∷ []) ((zero_ ⊖ one_) ⊗ at_ 0 ⊕ one_ ⊗ at_ 1 ⊕ zero_ ⊗ at_ 2) zero_ refl (h, tt) in
    λ i. record { x = at x.x y.x z.x (ap (λ (q : Vector). q.x) e) i; y = at x.y y.y z.y (ap (λ (q : Vector). q.y) e) i; z = at x.z y.z z.z (ap (λ (q : Vector). q.z) e) i }

-- ---- the third corner is on the line of the two others
abbrev d_ : Corner
d_ = less_ y_ x_

abbrev e_ : Corner
e_ = less_ z_ x_

one_line : (x y z : Vector) → cross (minus y x) (minus z x) ≡ nought
    → sum_of_three (dot (minus y x) (minus z x) -ℤ dot (minus y x) (minus y x)) (pos 0 -ℤ dot (minus y x) (minus z x)) (dot (minus y x) (minus y x)) x y z ≡ nought
unfolding minus sum_of_three dot
one_line x y z e =
    let all = coordinates_then (x ∷ y ∷ z ∷ []) [] in
    let n = cross_ d_ e_ in
    let facts = (n.x ≈ zero_) ∷ (n.y ≈ zero_) ∷ (n.z ≈ zero_) ∷ [] in
    let hold : AllEqual all facts = (ap (λ (q : Vector). q.x) e, (ap (λ (q : Vector). q.y) e, (ap (λ (q : Vector). q.z) e, tt))) in
    let f = dot_ d_ e_ ⊖ dot_ d_ d_ in
    let g = zero_ ⊖ dot_ d_ e_ in
    let h = dot_ d_ d_ in
    λ i. record {
      x = ring_from all facts (zero_ ∷ d_.z ∷ (zero_ ⊖ d_.y) ∷ []) (f ⊗ x_.x ⊕ g ⊗ y_.x ⊕ h ⊗ z_.x) zero_ refl hold i;
      y = ring_from all facts ((zero_ ⊖ d_.z) ∷ zero_ ∷ d_.x ∷ []) (f ⊗ x_.y ⊕ g ⊗ y_.y ⊕ h ⊗ z_.y) zero_ refl hold i;
      z = ring_from all facts (d_.y ∷ (zero_ ⊖ d_.x) ∷ zero_ ∷ []) (f ⊗ x_.z ⊕ g ⊗ y_.z ⊕ h ⊗ z_.z) zero_ refl hold i;
    }

pub flat_near : (x y z m : Vector) (k r : ℤ) → cross (minus y x) (minus z x) ≡ scaled k m → dot m m ≤ℤ pos 0 → NearTriangle x y z r → NearEdge x y z r
flat_near x y z m k r e l n =
    let flat : cross (minus y x) (minus z x) ≡ nought = e ∙ ap (scaled k) (none_of_length m l) ∙ scaled-nought k in
    let d = minus y x in
    let dd = dot d d in
    let de = dot d (minus z x) in
    by_lt_z (pos 0) dd
    (λ p.
    let sum : de -ℤ dd +ℤ (pos 0 -ℤ de) +ℤ dd ≡ pos 0 = omega (arith, linear) in
    let c = still-CanMove x y z r (de -ℤ dd) (pos 0 -ℤ de) dd sum (one_line x y z flat) n in
    by_lt_z (pos 0 -ℤ de) (pos 0) (λ q. second_lower x y z r n.u n.v n.w _ _ _ c q) (λ q. first_lower x y z r n.u n.v n.w _ _ _ c (omega (arith, linear, p, q))))
    (λ p. first_lower x y z r n.u n.v n.w (pos 0 -ℤ pos 1) (pos 1) (pos 0) (still-CanMove x y z r (pos 0 -ℤ pos 1) (pos 1) (pos 0) refl (one_point x y z (none_of_length d p)) n) (omega (arith, linear)))
