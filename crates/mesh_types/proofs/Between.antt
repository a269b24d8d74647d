-- The two faces that a split puts between the pieces of a tetrahedron.
use Rattle.std.proofs.Common.{◌≡◌, ◌≢◌, ℕ, ◌<◌, List, [], ◌∷◌, Bool, true, false, ◌&&◌, ◌||◌, eqb, ap, ap₂, refl, sym, subst, ◌∙◌, arith, inl, inr, ℤ, pos, ◌+ℤ◌, ◌≤ℤ◌}
use Rattle.std.proofs.Math.Bool.{and_assoc, and_comm}
use Rattle.std.proofs.lemmas.Bool.{cases_Bool, and_parts, true≢false}
use Rattle.grid.specs.Simplices.{has, replaced, equal3, is_rotation, same_corners}
use Rattle.mesh_types.proofs.Sums.{bit}
use Rattle.grid.proofs.ForCallers.{has_first, has_none, has_none_from, put-same, put-other}
use Rattle.mesh_types.proofs.Pieces.{apart}
use Rattle.mesh_types.proofs.Opened.{IsOfFaces, excess, AreFour, Opened, place_of, opened_of, shut}
use Rattle.mesh_types.proofs.Same.{Turn, still, once, twice, turn_of, rotations, same_corners_at, same_corners_from}
use Rattle.int_algebra.proofs.Laws.{linear}

-- four different corners, all below n
pub record Cornered (n : ℕ) (x : List ℕ) : Type 0 where
  pub a : ℕ
  pub b : ℕ
  pub c : ℕ
  pub d : ℕ
  pub is : x ≡ a ∷ b ∷ c ∷ d ∷ []
  pub different : AreFour a b c d
  pub below : (o : ℕ) → has x o ≡ true → o < n

pub data Change (u v k : ℕ) (x : List ℕ) : Type 0 where
  opened : Opened u v k x → Change u v k x
  untouched : (has x u && has x v) ≡ false → ((f : List ℕ → ℤ) → excess f u v k x ≡ pos 0) → Change u v k x

pub change_of : (n u v k : ℕ) (x : List ℕ) → Cornered n x → u ≢ v → Change u v k x
change_of n u v k x t m =
    let y : List ℕ = t.a ∷ t.b ∷ t.c ∷ t.d ∷ [] in
    subst (Change u v k) (sym t.is) (elim (cases_Bool (has y u && has y v)) [
      | inl h ↦ opened (opened_of u v k t.a t.b t.c t.d t.different m (place_of t.a t.b t.c t.d u (and_parts (has y u) (has y v) h).0) (place_of t.a t.b t.c t.d v (and_parts (has y u) (has y v) h).1))
      | inr h ↦ untouched h (shut u v k t.a t.b t.c t.d h)
    ])

-- whether g is the face p q r
abbrev pub is_face : ℕ → ℕ → ℕ → List ℕ → ℤ
is_face p q r g = bit (is_rotation (p ∷ q ∷ r ∷ []) g)

or_turn : (x y z : Bool) → ((y || z) || x) ≡ ((x || y) || z)
or_turn true true z = refl
or_turn true false true = refl
or_turn true false false = refl
or_turn false true true = refl
or_turn false true false = refl
or_turn false false true = refl
or_turn false false false = refl

or_swap : (x y z : Bool) → ((x || y) || z) ≡ ((x || z) || y)
or_swap true y z = refl
or_swap false true true = refl
or_swap false true false = refl
or_swap false false true = refl
or_swap false false false = refl

equal3-swapped : (p q r a b c : ℕ) → equal3 p r q a c b ≡ equal3 p q r a b c
equal3-swapped p q r a b c =
    and_assoc (eqb p a) (eqb r c) (eqb q b)
    ∙ ap (λ t. eqb p a && t) (and_comm (eqb r c) (eqb q b))
    ∙ sym (and_assoc (eqb p a) (eqb q b) (eqb r c))

pub is_rotation-turned : (p q r a b c : ℕ) → is_rotation (p ∷ q ∷ r ∷ []) (b ∷ c ∷ a ∷ []) ≡ is_rotation (p ∷ q ∷ r ∷ []) (a ∷ b ∷ c ∷ [])
is_rotation-turned p q r a b c = or_turn (equal3 p q r a b c) (equal3 p q r b c a) (equal3 p q r c a b)

pub is_face-turned : (p q r : ℕ) → IsOfFaces (is_face p q r)
is_face-turned p q r = record { turned = λ a b c. ap bit (is_rotation-turned p q r a b c) }

pub is_rotation-reversed : (p q r a b c : ℕ) → is_rotation (p ∷ r ∷ q ∷ []) (a ∷ c ∷ b ∷ []) ≡ is_rotation (p ∷ q ∷ r ∷ []) (a ∷ b ∷ c ∷ [])
is_rotation-reversed p q r a b c =
    ap₂ ◌||◌ (ap₂ ◌||◌ (equal3-swapped p q r a b c) (equal3-swapped p q r c a b)) (equal3-swapped p q r b c a)
    ∙ or_swap (equal3 p q r a b c) (equal3 p q r c a b) (equal3 p q r b c a)

swap2 : (w z u : ℕ) → has (w ∷ z ∷ []) u ≡ false → has (z ∷ w ∷ []) u ≡ false
swap2 w z u h = let p = has_none w (z ∷ []) u h in has_none_from z (w ∷ []) u (has_none z [] u p.1).0 (has_none_from w [] u p.0 refl)

no_excess : (p q r u v k : ℕ) (x : List ℕ) (s : Opened u v k x) → is_rotation (p ∷ q ∷ r ∷ []) (k ∷ s.w ∷ s.z ∷ []) ≡ false → is_rotation (p ∷ q ∷ r ∷ []) (k ∷ s.z ∷ s.w ∷ []) ≡ false → excess (is_face p q r) u v k x ≡ pos 0
no_excess p q r u v k x s g h = s.excess_is (is_face p q r) (is_face-turned p q r) ∙ ap₂ (λ a b. bit a +ℤ bit b) g h

-- a face that has not k, or has an end of the edge, is not between
pub excess-no_k : (p q r u v k : ℕ) (x : List ℕ) → Change u v k x → has (p ∷ q ∷ r ∷ []) k ≡ false → excess (is_face p q r) u v k x ≡ pos 0
excess-no_k p q r u v k x (untouched h e) n = e (is_face p q r)
excess-no_k p q r u v k x (opened s) n = no_excess p q r u v k x s
    (apart is_rotation rotations k (p ∷ q ∷ r ∷ []) (k ∷ s.w ∷ s.z ∷ []) (λ e. true≢false (sym (has_first k (s.w ∷ s.z ∷ [])) ∙ sym e ∙ n)))
    (apart is_rotation rotations k (p ∷ q ∷ r ∷ []) (k ∷ s.z ∷ s.w ∷ []) (λ e. true≢false (sym (has_first k (s.z ∷ s.w ∷ [])) ∙ sym e ∙ n)))

pub excess-has_u : (p q r u v k : ℕ) (x : List ℕ) → Change u v k x → u ≢ k → has (p ∷ q ∷ r ∷ []) u ≡ true → excess (is_face p q r) u v k x ≡ pos 0
excess-has_u p q r u v k x (untouched h e) m n = e (is_face p q r)
excess-has_u p q r u v k x (opened s) m n = no_excess p q r u v k x s
    (apart is_rotation rotations u (p ∷ q ∷ r ∷ []) (k ∷ s.w ∷ s.z ∷ []) (λ e. true≢false (sym n ∙ e ∙ has_none_from k (s.w ∷ s.z ∷ []) u (λ f. m (sym f)) s.no_u)))
    (apart is_rotation rotations u (p ∷ q ∷ r ∷ []) (k ∷ s.z ∷ s.w ∷ []) (λ e. true≢false (sym n ∙ e ∙ has_none_from k (s.z ∷ s.w ∷ []) u (λ f. m (sym f)) (swap2 s.w s.z u s.no_u))))

pub excess-has_v : (p q r u v k : ℕ) (x : List ℕ) → Change u v k x → v ≢ k → has (p ∷ q ∷ r ∷ []) v ≡ true → excess (is_face p q r) u v k x ≡ pos 0
excess-has_v p q r u v k x (untouched h e) m n = e (is_face p q r)
excess-has_v p q r u v k x (opened s) m n = no_excess p q r u v k x s
    (apart is_rotation rotations v (p ∷ q ∷ r ∷ []) (k ∷ s.w ∷ s.z ∷ []) (λ e. true≢false (sym n ∙ e ∙ has_none_from k (s.w ∷ s.z ∷ []) v (λ f. m (sym f)) s.no_v)))
    (apart is_rotation rotations v (p ∷ q ∷ r ∷ []) (k ∷ s.z ∷ s.w ∷ []) (λ e. true≢false (sym n ∙ e ∙ has_none_from k (s.z ∷ s.w ∷ []) v (λ f. m (sym f)) (swap2 s.w s.z v s.no_v))))

-- a face stands between as often as its reverse
pub excess-reversed : (p q r u v k : ℕ) (x : List ℕ) → Change u v k x → excess (is_face p r q) u v k x ≡ excess (is_face p q r) u v k x
excess-reversed p q r u v k x (untouched h e) = e (is_face p r q) ∙ sym (e (is_face p q r))
excess-reversed p q r u v k x (opened s) =
    let f = s.excess_is (is_face p r q) (is_face-turned p r q) in
    let g = s.excess_is (is_face p q r) (is_face-turned p q r) in
    let m = ap bit (is_rotation-reversed p q r k s.z s.w) in
    let n = ap bit (is_rotation-reversed p q r k s.w s.z) in
    f ∙ ap₂ ◌+ℤ◌ m n ∙ swap (is_face p q r (k ∷ s.z ∷ s.w ∷ [])) (is_face p q r (k ∷ s.w ∷ s.z ∷ [])) ∙ sym g
  where
    swap : (a b : ℤ) → a +ℤ b ≡ b +ℤ a
    swap a b = omega (arith, linear)

-- not in both orientations
two_ways : (k w z : ℕ) (y : List ℕ) → w ≢ z → w ≢ k → z ≢ k → Turn y (k ∷ w ∷ z ∷ []) → Turn y (k ∷ z ∷ w ∷ []) → ⊥
two_ways k w z y m n o (still a b c e f) (still a' b' c' e' f') = m (cc)
two_ways k w z y m n o (still a b c e f) (once a' b' c' e' f') = o (cc)
two_ways k w z y m n o (still a b c e f) (twice a' b' c' e' f') = n (cc)
two_ways k w z y m n o (once a b c e f) (still a' b' c' e' f') = n (cc)
two_ways k w z y m n o (once a b c e f) (once a' b' c' e' f') = m (cc)
two_ways k w z y m n o (once a b c e f) (twice a' b' c' e' f') = o (cc)
two_ways k w z y m n o (twice a b c e f) (still a' b' c' e' f') = o (cc)
two_ways k w z y m n o (twice a b c e f) (once a' b' c' e' f') = n (cc)
two_ways k w z y m n o (twice a b c e f) (twice a' b' c' e' f') = m (cc)

-- a tetrahedron with the face between its pieces has the corners u, v and those of the face
corners_of : (y x : List ℕ) (u v k w z : ℕ) → w ≢ k → z ≢ k → is_rotation y (k ∷ w ∷ z ∷ []) ≡ true → same_corners (u ∷ v ∷ w ∷ z ∷ []) x ≡ true → same_corners (u ∷ replaced k v y) x ≡ true
corners_of y x u v k w z m n h g =
    let e : replaced k v (k ∷ w ∷ z ∷ []) ≡ v ∷ w ∷ z ∷ [] = cc (put-same k v, put-other k v w m, put-other k v z n) in
    let r = rotations.moves k v y (k ∷ w ∷ z ∷ []) h in
    same_corners_from (u ∷ replaced k v y) x (λ c.
    ap (λ t. eqb u c || t) (rotations.keeps c _ _ r ∙ ap (λ t. has t c) e) ∙ same_corners_at (u ∷ v ∷ w ∷ z ∷ []) x g c)

swapped_corners : (u v w z : ℕ) (x : List ℕ) → same_corners (u ∷ v ∷ w ∷ z ∷ []) x ≡ true → same_corners (u ∷ v ∷ z ∷ w ∷ []) x ≡ true
swapped_corners u v w z x g = same_corners_from (u ∷ v ∷ z ∷ w ∷ []) x (λ c. swap (eqb u c) (eqb v c) (eqb w c) (eqb z c) ∙ same_corners_at (u ∷ v ∷ w ∷ z ∷ []) x g c)
  where
    swap : (a b c d : Bool) → (a || (b || (d || (c || false)))) ≡ (a || (b || (c || (d || false))))
    swap true b c d = refl
    swap false true c d = refl
    swap false false true true = refl
    swap false false true false = refl
    swap false false false true = refl
    swap false false false false = refl

pub bit-at_least : (b : Bool) → pos 0 ≤ℤ bit b
bit-at_least true = omega (arith, linear)
bit-at_least false = omega (arith, linear)

pub excess-at_most : (p q r u v k : ℕ) (x : List ℕ) → Change u v k x → has x k ≡ false → excess (is_face p q r) u v k x ≤ℤ bit (same_corners (u ∷ replaced k v (p ∷ q ∷ r ∷ [])) x)
excess-at_most p q r u v k x (untouched h e) o = subst (λ t. t ≤ℤ bit (same_corners (u ∷ replaced k v (p ∷ q ∷ r ∷ [])) x)) (sym (e (is_face p q r))) (bit-at_least _)
excess-at_most p q r u v k x (opened s) o =
    let y : List ℕ = p ∷ q ∷ r ∷ [] in
    let none = has_none v (s.w ∷ s.z ∷ []) k (has_none u (v ∷ s.w ∷ s.z ∷ []) k (same_corners_at (u ∷ v ∷ s.w ∷ s.z ∷ []) x s.corners_are k ∙ o)).1 in
    let wk = (has_none s.w (s.z ∷ []) k none.1).0 in
    let zk = (has_none s.z [] k (has_none s.w (s.z ∷ []) k none.1).1).0 in
    subst (λ t. t ≤ℤ bit (same_corners (u ∷ replaced k v y) x)) (sym (s.excess_is (is_face p q r) (is_face-turned p q r)))
    (cases (is_rotation y (k ∷ s.w ∷ s.z ∷ [])) (is_rotation y (k ∷ s.z ∷ s.w ∷ [])) (same_corners (u ∷ replaced k v y) x)
    (λ g h. two_ways k s.w s.z y s.wz wk zk (turn_of _ _ g) (turn_of _ _ h))
    (λ g. corners_of y x u v k s.w s.z wk zk g s.corners_are)
    (λ g. corners_of y x u v k s.z s.w zk wk g (swapped_corners u v s.w s.z x s.corners_are)))
  where
    cases : (a b c : Bool) → (a ≡ true → b ≡ true → ⊥) → (a ≡ true → c ≡ true) → (b ≡ true → c ≡ true) → (bit a +ℤ bit b) ≤ℤ bit c
    cases true true c f g h = absurd (f refl refl)
    cases true false true f g h = omega (arith, linear)
    cases true false false f g h = absurd (true≢false (sym (g refl)))
    cases false true true f g h = omega (arith, linear)
    cases false true false f g h = absurd (true≢false (sym (h refl)))
    cases false false c f g h = bit-at_least c
