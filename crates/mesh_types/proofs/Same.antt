-- The two tests of sameness: a rotation, and the same set of corners.
use Rattle.std.proofs.Common.{◌≡◌, ◌≢◌, ◌⊎◌, ℕ, List, [], ◌∷◌, Bool, true, false, ◌&&◌, ◌||◌, eqb, ap, refl, sym, subst, ◌∙◌, inl, inr}
use Rattle.std.proofs.lemmas.Bool.{eq-eqb, eqb-true, and_parts, and_from, or_cases, or_left, or_right, true≢false}
use Rattle.grid.specs.Simplices.{has, put, replaced, equal3, is_rotation, reversed, has_all, same_corners}
use Rattle.mesh_types.proofs.Pieces.{IsSameness}
use Rattle.grid.proofs.ForCallers.{equal3-refl, same_bools, has_cases, put_cases, has-replaced_new, reversed-reversed}

-- ---- rotations
equal3_parts : (a b c u v w : ℕ) → equal3 a b c u v w ≡ true → (a ≡ u) × (b ≡ v) × (c ≡ w)
equal3_parts a b c u v w h =
    let p = and_parts (eqb a u && eqb b v) (eqb c w) h in
    let q = and_parts (eqb a u) (eqb b v) p.0 in
    (eqb-true a u q.0, eqb-true b v q.1, eqb-true c w p.1)

pub data Turn (y z : List ℕ) : Type 0 where
  still : (a b c : ℕ) → y ≡ a ∷ b ∷ c ∷ [] → z ≡ a ∷ b ∷ c ∷ [] → Turn y z
  once : (a b c : ℕ) → y ≡ a ∷ b ∷ c ∷ [] → z ≡ c ∷ a ∷ b ∷ [] → Turn y z
  twice : (a b c : ℕ) → y ≡ a ∷ b ∷ c ∷ [] → z ≡ b ∷ c ∷ a ∷ [] → Turn y z

list3 : (a b c u v w : ℕ) → (a ≡ u) × (b ≡ v) × (c ≡ w) → u ∷ v ∷ w ∷ [] ≡ a ∷ b ∷ c ∷ []
list3 a b c u v w h = cc (h.0, h.1, h.2)

pub turn_of3 : (a b c u v w : ℕ) → is_rotation (a ∷ b ∷ c ∷ []) (u ∷ v ∷ w ∷ []) ≡ true → Turn (a ∷ b ∷ c ∷ []) (u ∷ v ∷ w ∷ [])
turn_of3 a b c u v w h = elim (or_cases (equal3 a b c u v w || equal3 a b c v w u) (equal3 a b c w u v) h) [
  | inl e ↦ elim (or_cases (equal3 a b c u v w) (equal3 a b c v w u) e) [
    | inl g ↦ still a b c refl (list3 a b c u v w (equal3_parts a b c u v w g))
    | inr g ↦ let p = equal3_parts a b c v w u g in once a b c refl (list3 c a b u v w (p.2, p.0, p.1))
  ]
  | inr g ↦ let p = equal3_parts a b c w u v g in twice a b c refl (list3 b c a u v w (p.1, p.2, p.0))
]

pub turn_of : (y z : List ℕ) → is_rotation y z ≡ true → Turn y z
turn_of (a ∷ b ∷ c ∷ []) (u ∷ v ∷ w ∷ []) h = turn_of3 a b c u v w h
turn_of [] z h = absurd (true≢false (sym h))
turn_of (a ∷ []) z h = absurd (true≢false (sym h))
turn_of (a ∷ b ∷ []) z h = absurd (true≢false (sym h))
turn_of (a ∷ b ∷ c ∷ d ∷ y) z h = absurd (true≢false (sym h))
turn_of (a ∷ b ∷ c ∷ []) [] h = absurd (true≢false (sym h))
turn_of (a ∷ b ∷ c ∷ []) (u ∷ []) h = absurd (true≢false (sym h))
turn_of (a ∷ b ∷ c ∷ []) (u ∷ v ∷ []) h = absurd (true≢false (sym h))
turn_of (a ∷ b ∷ c ∷ []) (u ∷ v ∷ w ∷ x ∷ z) h = absurd (true≢false (sym h))

pub rotation_still : (a b c : ℕ) → is_rotation (a ∷ b ∷ c ∷ []) (a ∷ b ∷ c ∷ []) ≡ true
rotation_still a b c = or_left (equal3 a b c a b c || equal3 a b c b c a) (equal3 a b c c a b) (or_left (equal3 a b c a b c) (equal3 a b c b c a) (equal3-refl a b c))

pub rotation_once : (a b c : ℕ) → is_rotation (a ∷ b ∷ c ∷ []) (c ∷ a ∷ b ∷ []) ≡ true
rotation_once a b c = or_left (equal3 a b c c a b || equal3 a b c a b c) (equal3 a b c b c a) (or_right (equal3 a b c c a b) (equal3 a b c a b c) (equal3-refl a b c))

pub rotation_twice : (a b c : ℕ) → is_rotation (a ∷ b ∷ c ∷ []) (b ∷ c ∷ a ∷ []) ≡ true
rotation_twice a b c = or_right (equal3 a b c b c a || equal3 a b c c a b) (equal3 a b c a b c) (equal3-refl a b c)

pub rotation_from : (y z : List ℕ) → Turn y z → is_rotation y z ≡ true
rotation_from y z (still a b c e f) = rw (e, f) (rotation_still a b c)
rotation_from y z (once a b c e f) = rw (e, f) (rotation_once a b c)
rotation_from y z (twice a b c e f) = rw (e, f) (rotation_twice a b c)

or_turn : (a b c : Bool) → (a || (b || (c || false))) ≡ (c || (a || (b || false)))
or_turn true b true = refl
or_turn true b false = refl
or_turn false true true = refl
or_turn false true false = refl
or_turn false false true = refl
or_turn false false false = refl

rotation_moves : (a b : ℕ) (y z : List ℕ) → Turn y z → Turn (replaced a b y) (replaced a b z)
rotation_moves a b y z (still p q r e f) = still _ _ _ (ap (replaced a b) e) (ap (replaced a b) f)
rotation_moves a b y z (once p q r e f) = once _ _ _ (ap (replaced a b) e) (ap (replaced a b) f)
rotation_moves a b y z (twice p q r e f) = twice _ _ _ (ap (replaced a b) e) (ap (replaced a b) f)

rotation_keeps : (c : ℕ) (y z : List ℕ) → Turn y z → has y c ≡ has z c
rotation_keeps o y z (still a b c e f) = rw (e, f)
rotation_keeps o y z (once a b c e f) = rw (e, f) (or_turn (eqb a o) (eqb b o) (eqb c o))
rotation_keeps o y z (twice a b c e f) = rw (e, f) (or_turn (eqb a o) (eqb b o) (eqb c o) ∙ or_turn (eqb c o) (eqb a o) (eqb b o))

pub rotations : IsSameness is_rotation
rotations = record {
  moves = λ a b x y h. rotation_from _ _ (rotation_moves a b x y (turn_of x y h));
  keeps = λ c x y h. rotation_keeps c x y (turn_of x y h);
}

pub has-reversed : (f : List ℕ) (o : ℕ) → has (reversed f) o ≡ has f o
has-reversed [] o = refl
has-reversed (a ∷ []) o = refl
has-reversed (a ∷ b ∷ []) o = refl
has-reversed (a ∷ b ∷ c ∷ d ∷ f) o = refl
has-reversed (a ∷ b ∷ c ∷ []) o = swap (eqb a o) (eqb b o) (eqb c o)
  where
    swap : (a b c : Bool) → (a || (c || (b || false))) ≡ (a || (b || (c || false)))
    swap true b c = refl
    swap false true true = refl
    swap false true false = refl
    swap false false true = refl
    swap false false false = refl

-- a face that is the reverse of another in some rotation
pub turn_back : (f g : List ℕ) → Turn (reversed f) g → Turn (reversed g) f
turn_back f g (still a b c e h) = still a c b (ap reversed h) (sym (reversed-reversed f) ∙ ap reversed e)
turn_back f g (once a b c e h) = once c b a (ap reversed h) (sym (reversed-reversed f) ∙ ap reversed e)
turn_back f g (twice a b c e h) = twice b a c (ap reversed h) (sym (reversed-reversed f) ∙ ap reversed e)

-- ---- sets of corners
pub has_all_at : (x y : List ℕ) (c : ℕ) → has_all x y ≡ true → has y c ≡ true → has x c ≡ true
has_all_at x [] c h g = absurd (true≢false (sym g))
has_all_at x (a ∷ y) c h g = elim (has_cases a y c g) [
  | inl e ↦ subst (λ o. has x o ≡ true) e (and_parts _ _ h).0
  | inr e ↦ has_all_at x y c (and_parts _ _ h).1 e
]

pub has_all_from : (x y : List ℕ) → ((c : ℕ) → has y c ≡ true → has x c ≡ true) → has_all x y ≡ true
has_all_from x [] h = refl
has_all_from x (a ∷ y) h = and_from _ _ (h a (or_left _ _ (eq-eqb a a refl))) (has_all_from x y (λ c g. h c (or_right _ _ g)))

pub same_corners_at : (x y : List ℕ) → same_corners x y ≡ true → (c : ℕ) → has x c ≡ has y c
same_corners_at x y h c = same_bools _ _ (has_all_at y x c (and_parts _ _ h).1) (has_all_at x y c (and_parts _ _ h).0)

pub same_corners_from : (x y : List ℕ) → ((c : ℕ) → has x c ≡ has y c) → same_corners x y ≡ true
same_corners_from x y h = and_from _ _ (has_all_from x y (λ c g. h c ∙ g)) (has_all_from y x (λ c g. sym (h c) ∙ g))

-- a corner of the replaced is b in place of a, or one that stays
pub has-replaced_cases : (a b : ℕ) (x : List ℕ) (c : ℕ) → has (replaced a b x) c ≡ true → ((c ≡ b) × (has x a ≡ true)) ⊎ ((c ≢ a) × (has x c ≡ true))
has-replaced_cases a b [] c h = absurd (true≢false (sym h))
has-replaced_cases a b (o ∷ x) c h = elim (has_cases (put a b o) (replaced a b x) c h) [
  | inl e ↦ elim (put_cases a b o) [
    | inl g ↦ inl (sym e ∙ g.1, or_left _ _ (eq-eqb o a g.0))
    | inr g ↦ inr ((λ f. g.0 (sym g.1 ∙ e ∙ f)), or_left _ _ (eq-eqb o c (sym g.1 ∙ e)))
  ]
  | inr e ↦ elim (has-replaced_cases a b x c e) [
    | inl g ↦ inl (g.0, or_right _ _ g.1)
    | inr g ↦ inr (g.0, or_right _ _ g.1)
  ]
]

pub has-replaced_stays : (a b : ℕ) (x : List ℕ) (c : ℕ) → c ≢ a → has x c ≡ true → has (replaced a b x) c ≡ true
has-replaced_stays a b [] c n h = absurd (true≢false (sym h))
has-replaced_stays a b (o ∷ x) c n h = elim (has_cases o x c h) [
  | inl e ↦ or_left (eqb (put a b o) c) _ (eq-eqb (put a b o) c (elim (put_cases a b o) [ inl g ↦ absurd (n (sym e ∙ g.0)) | inr g ↦ g.1 ∙ e ]))
  | inr e ↦ or_right _ _ (has-replaced_stays a b x c n e)
]

same_corners_half : (a b : ℕ) (x y : List ℕ) → ((c : ℕ) → has x c ≡ has y c) → (c : ℕ) → has (replaced a b x) c ≡ true → has (replaced a b y) c ≡ true
same_corners_half a b x y h c g = elim (has-replaced_cases a b x c g) [
  | inl e ↦ subst (λ o. has (replaced a b y) o ≡ true) (sym e.0) (has-replaced_new a b y (sym (h a) ∙ e.1))
  | inr e ↦ has-replaced_stays a b y c e.0 (sym (h c) ∙ e.1)
]

pub corner_sets : IsSameness same_corners
corner_sets = record {
  moves = λ a b x y h. same_corners_from _ _ (λ c. same_bools _ _ (same_corners_half a b x y (same_corners_at x y h) c) (same_corners_half a b y x (λ o. sym (same_corners_at x y h o)) c));
  keeps = λ c x y h. same_corners_at x y h c;
}
