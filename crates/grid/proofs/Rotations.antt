-- When two triples of numbers are one oriented face.
use Rattle.std.proofs.Common.{◌≡◌, ℕ, ◌⊎◌, true, List, [], ◌∷◌, ◌&&◌, ◌||◌, nat_eq, refl, ap, sym, ◌∙◌, subst, inl, inr}
use Rattle.std.proofs.lemmas.Bool.{and_parts, and_from, or_cases, or_left, or_right, false≢true, eqb-true, eq-eqb}
use Rattle.grid.specs.Simplices.{has, equal3, is_rotation, reversed}

-- the face is a, b, c or a rotation of it
abbrev pub IsRotation : List ℕ → ℕ → ℕ → ℕ → Type 0
IsRotation f a b c = (f ≡ a ∷ b ∷ c ∷ []) ⊎ ((f ≡ b ∷ c ∷ a ∷ []) ⊎ (f ≡ c ∷ a ∷ b ∷ []))

pub equal3-true : (a b c u v w : ℕ) → equal3 a b c u v w ≡ true → a ∷ b ∷ c ∷ [] ≡ u ∷ v ∷ w ∷ []
equal3-true a b c u v w e =
    let h = and_parts (nat_eq a u && nat_eq b v) (nat_eq c w) e in
    let k = and_parts (nat_eq a u) (nat_eq b v) h.0 in
    let p = eqb-true a u k.0 in
    let q = eqb-true b v k.1 in
    let r = eqb-true c w h.1 in
    cc

pub equal3-refl : (a b c : ℕ) → equal3 a b c a b c ≡ true
equal3-refl a b c = and_from (nat_eq a a && nat_eq b b) (nat_eq c c) (and_from (nat_eq a a) (nat_eq b b) (eq-eqb a a refl) (eq-eqb b b refl)) (eq-eqb c c refl)

pub rotation-from : (f : List ℕ) (a b c : ℕ) → is_rotation f (a ∷ b ∷ c ∷ []) ≡ true → IsRotation f a b c
rotation-from [] a b c e = absurd (false≢true e)
rotation-from (x ∷ []) a b c e = absurd (false≢true e)
rotation-from (x ∷ y ∷ []) a b c e = absurd (false≢true e)
rotation-from (x ∷ y ∷ z ∷ t ∷ ts) a b c e = absurd (false≢true e)
rotation-from (x ∷ y ∷ z ∷ []) a b c e = elim (or_cases (equal3 x y z a b c || equal3 x y z b c a) (equal3 x y z c a b) e) [
  | inl h ↦ elim (or_cases (equal3 x y z a b c) (equal3 x y z b c a) h) [
    | inl k ↦ inl (equal3-true x y z a b c k)
    | inr k ↦ inr (inl (equal3-true x y z b c a k))
  ]
  | inr h ↦ inr (inr (equal3-true x y z c a b h))
]

pub rotation-to : (f : List ℕ) (a b c : ℕ) → IsRotation f a b c → is_rotation f (a ∷ b ∷ c ∷ []) ≡ true
rotation-to f a b c (inl e) = subst (λ g. is_rotation g (a ∷ b ∷ c ∷ []) ≡ true) (sym e) (or_left (equal3 a b c a b c || equal3 a b c b c a) (equal3 a b c c a b) (or_left (equal3 a b c a b c) (equal3 a b c b c a) (equal3-refl a b c)))
rotation-to f a b c (inr (inl e)) = subst (λ g. is_rotation g (a ∷ b ∷ c ∷ []) ≡ true) (sym e) (or_left (equal3 b c a a b c || equal3 b c a b c a) (equal3 b c a c a b) (or_right (equal3 b c a a b c) (equal3 b c a b c a) (equal3-refl b c a)))
rotation-to f a b c (inr (inr e)) = subst (λ g. is_rotation g (a ∷ b ∷ c ∷ []) ≡ true) (sym e) (or_right (equal3 c a b a b c || equal3 c a b b c a) (equal3 c a b c a b) (equal3-refl c a b))

pub rotation-reversed : (f : List ℕ) (a b c : ℕ) → IsRotation f a b c → IsRotation (reversed f) a c b
rotation-reversed f a b c (inl e) = inl (ap reversed e)
rotation-reversed f a b c (inr (inl e)) = inr (inr (ap reversed e))
rotation-reversed f a b c (inr (inr e)) = inr (inl (ap reversed e))

pub rotation-back : (f : List ℕ) (a b c : ℕ) → IsRotation f b c a → IsRotation f a b c
rotation-back f a b c (inl e) = inr (inl e)
rotation-back f a b c (inr (inl e)) = inr (inr e)
rotation-back f a b c (inr (inr e)) = inl e

-- two triples are equal, number by number
pub record Same3 (a b c u v w : ℕ) : Type 0 where
  pub first : a ≡ u
  pub second : b ≡ v
  pub third : c ≡ w

same3 : (a b c u v w : ℕ) → a ∷ b ∷ c ∷ [] ≡ u ∷ v ∷ w ∷ [] → Same3 a b c u v w
same3 a b c u v w e = record { first = cc; second = cc; third = cc }

-- two triples of which one face is a rotation are rotations of each other
pub rotations-same : (f : List ℕ) (a b c u v w : ℕ) → IsRotation f a b c → IsRotation f u v w → Same3 a b c u v w ⊎ (Same3 a b c v w u ⊎ Same3 a b c w u v)
rotations-same f a b c u v w (inl e) (inl k) = inl (same3 a b c u v w (sym e ∙ k))
rotations-same f a b c u v w (inl e) (inr (inl k)) = inr (inl (same3 a b c v w u (sym e ∙ k)))
rotations-same f a b c u v w (inl e) (inr (inr k)) = inr (inr (same3 a b c w u v (sym e ∙ k)))
rotations-same f a b c u v w (inr (inl e)) (inl k) = let s = same3 b c a u v w (sym e ∙ k) in inr (inr (record { first = s.third; second = s.first; third = s.second }))
rotations-same f a b c u v w (inr (inl e)) (inr (inl k)) = let s = same3 b c a v w u (sym e ∙ k) in inl (record { first = s.third; second = s.first; third = s.second })
rotations-same f a b c u v w (inr (inl e)) (inr (inr k)) = let s = same3 b c a w u v (sym e ∙ k) in inr (inl (record { first = s.third; second = s.first; third = s.second }))
rotations-same f a b c u v w (inr (inr e)) (inl k) = let s = same3 c a b u v w (sym e ∙ k) in inr (inl (record { first = s.second; second = s.third; third = s.first }))
rotations-same f a b c u v w (inr (inr e)) (inr (inl k)) = let s = same3 c a b v w u (sym e ∙ k) in inr (inr (record { first = s.second; second = s.third; third = s.first }))
rotations-same f a b c u v w (inr (inr e)) (inr (inr k)) = let s = same3 c a b w u v (sym e ∙ k) in inl (record { first = s.second; second = s.third; third = s.first })

-- ---- the corners of a rotation
pub has3-cases : (a b c d : ℕ) → has (a ∷ b ∷ c ∷ []) d ≡ true → (a ≡ d) ⊎ ((b ≡ d) ⊎ (c ≡ d))
has3-cases a b c d e = elim (or_cases (nat_eq a d) (has (b ∷ c ∷ []) d) e) [
  | inl h ↦ inl (eqb-true a d h)
  | inr h ↦ elim (or_cases (nat_eq b d) (has (c ∷ []) d) h) [
    | inl k ↦ inr (inl (eqb-true b d k))
    | inr k ↦ elim (or_cases (nat_eq c d) (has [] d) k) [ inl l ↦ inr (inr (eqb-true c d l)) | inr l ↦ absurd (false≢true l) ]
  ]
]

-- a corner of a rotation of a, b, c is one of these
pub rotation-corner : (f : List ℕ) (a b c d : ℕ) → IsRotation f a b c → has f d ≡ true → (a ≡ d) ⊎ ((b ≡ d) ⊎ (c ≡ d))
rotation-corner f a b c d (inl e) h = has3-cases a b c d (ap (λ g. has g d) (sym e) ∙ h)
rotation-corner f a b c d (inr (inl e)) h = elim (has3-cases b c a d (ap (λ g. has g d) (sym e) ∙ h)) [ inl k ↦ inr (inl k) | inr (inl k) ↦ inr (inr k) | inr (inr k) ↦ inl k ]
rotation-corner f a b c d (inr (inr e)) h = elim (has3-cases c a b d (ap (λ g. has g d) (sym e) ∙ h)) [ inl k ↦ inr (inr k) | inr (inl k) ↦ inl k | inr (inr k) ↦ inr (inl k) ]

pub reversed-reversed : (f : List ℕ) → reversed (reversed f) ≡ f
reversed-reversed [] = refl
reversed-reversed (a ∷ []) = refl
reversed-reversed (a ∷ b ∷ []) = refl
reversed-reversed (a ∷ b ∷ c ∷ []) = refl
reversed-reversed (a ∷ b ∷ c ∷ d ∷ f) = refl
