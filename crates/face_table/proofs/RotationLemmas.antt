-- Rotation is an equivalence, and keeps how often a face occurs.
use Rattle.std.proofs.Common.{◌≡◌, ℕ, ◌+◌, true, cond, List, [], ◌∷◌, ◌++◌, ap, sym, ◌∙◌, subst, inl, inr, nat_eq, refl, arith}
use Rattle.std.specs.Cmp.{both_ways}
use Rattle.std.proofs.lemmas.Bool.{false≢true, or_left, or_right, eq-eqb}
use Rattle.std.proofs.lemmas.List.Sums.{sum_by-append}
use Rattle.grid.specs.Simplices.{has, is_rotation, reversed}
use Rattle.grid.proofs.ForCallers.{count_by-cons, count_by-same, IsRotation, rotation-from, rotation-to, rotation-back, rotation-reversed, rotation-corner}
use Rattle.face_table.specs.Occurrences.{occurrences}

-- ---- corners
pub has3-first : (a b c : ℕ) → has (a ∷ b ∷ c ∷ []) a ≡ true
has3-first a b c = or_left (nat_eq a a) (has (b ∷ c ∷ []) a) (eq-eqb a a refl)

pub has3-second : (a b c : ℕ) → has (a ∷ b ∷ c ∷ []) b ≡ true
has3-second a b c = or_right (nat_eq a b) (has (b ∷ c ∷ []) b) (or_left (nat_eq b b) (has (c ∷ []) b) (eq-eqb b b refl))

pub has3-third : (a b c : ℕ) → has (a ∷ b ∷ c ∷ []) c ≡ true
has3-third a b c = or_right (nat_eq a c) (has (b ∷ c ∷ []) c) (or_right (nat_eq b c) (has (c ∷ []) c) (or_left (nat_eq c c) (has [] c) (eq-eqb c c refl)))

-- ---- rotations
-- f is a rotation of g, which has three corners
pub record IsRotationOf (f g : List ℕ) : Type 0 where
  pub a : ℕ
  pub b : ℕ
  pub c : ℕ
  pub is : g ≡ a ∷ b ∷ c ∷ []
  pub rotation : IsRotation f a b c

pub rotation-of : (f g : List ℕ) → is_rotation f g ≡ true → IsRotationOf f g
rotation-of f (a ∷ b ∷ c ∷ []) h = record { a = a; b = b; c = c; is = refl; rotation = rotation-from f a b c h }
rotation-of [] g h = absurd (false≢true h)
rotation-of (x ∷ []) g h = absurd (false≢true h)
rotation-of (x ∷ y ∷ []) g h = absurd (false≢true h)
rotation-of (x ∷ y ∷ z ∷ t ∷ f) g h = absurd (false≢true h)
rotation-of (x ∷ y ∷ z ∷ []) [] h = absurd (false≢true h)
rotation-of (x ∷ y ∷ z ∷ []) (a ∷ []) h = absurd (false≢true h)
rotation-of (x ∷ y ∷ z ∷ []) (a ∷ b ∷ []) h = absurd (false≢true h)
rotation-of (x ∷ y ∷ z ∷ []) (a ∷ b ∷ c ∷ d ∷ g) h = absurd (false≢true h)

pub rotation-sym : (f g : List ℕ) → is_rotation f g ≡ true → is_rotation g f ≡ true
rotation-sym f g h =
    let r = rotation-of f g h in
    elim r.rotation [
      | inl e ↦ rotated g f r.a r.b r.c (inl r.is) e
      | inr (inl e) ↦ rotated g f r.b r.c r.a (inr (inr r.is)) e
      | inr (inr e) ↦ rotated g f r.c r.a r.b (inr (inl r.is)) e
    ]
  where
    rotated : (x y : List ℕ) (u v w : ℕ) → IsRotation x u v w → y ≡ u ∷ v ∷ w ∷ [] → is_rotation x y ≡ true
    rotated x y u v w t e = subst (λ z. is_rotation x z ≡ true) (sym e) (rotation-to x u v w t)

pub rotation-trans : (f g h : List ℕ) → is_rotation f g ≡ true → is_rotation g h ≡ true → is_rotation f h ≡ true
rotation-trans f g h p q =
    let r = rotation-of g h q in
    subst (λ z. is_rotation f z ≡ true) (sym r.is) (rotation-to f r.a r.b r.c (elim r.rotation [
      | inl e ↦ from r.a r.b r.c e
      | inr (inl e) ↦ rotation-back f r.a r.b r.c (from r.b r.c r.a e)
      | inr (inr e) ↦ rotation-back f r.a r.b r.c (rotation-back f r.b r.c r.a (from r.c r.a r.b e))
    ]))
  where
    from : (u v w : ℕ) → g ≡ u ∷ v ∷ w ∷ [] → IsRotation f u v w
    from u v w e = rotation-from f u v w (subst (λ z. is_rotation f z ≡ true) e p)

-- rotations are rotations of the same faces
pub rotation-same : (f g h : List ℕ) → is_rotation f g ≡ true → is_rotation f h ≡ is_rotation g h
rotation-same f g h e = both_ways (is_rotation f h) (is_rotation g h) (rotation-trans g f h (rotation-sym f g e)) (rotation-trans f g h e)

pub rotation-same_right : (f g h : List ℕ) → is_rotation g h ≡ true → is_rotation f g ≡ is_rotation f h
rotation-same_right f g h e = both_ways (is_rotation f g) (is_rotation f h) (λ p. rotation-trans f g h p e) (λ p. rotation-trans f h g p (rotation-sym g h e))

-- the reverses of rotations are rotations
pub reversed-both : (f g : List ℕ) → is_rotation f g ≡ true → is_rotation (reversed f) (reversed g) ≡ true
reversed-both f g h =
    let r = rotation-of f g h in
    subst (λ z. is_rotation (reversed f) z ≡ true) (ap reversed (sym r.is)) (rotation-to (reversed f) r.a r.c r.b (rotation-reversed f r.a r.b r.c r.rotation))

-- and rotations have the same corners
pub has-rotation : (f g : List ℕ) (d : ℕ) → is_rotation f g ≡ true → has f d ≡ true → has g d ≡ true
has-rotation f g d h there =
    let r = rotation-of f g h in
    ap (λ z. has z d) r.is ∙ elim (rotation-corner f r.a r.b r.c d r.rotation there) [
      | inl e ↦ subst (λ x. has (r.a ∷ r.b ∷ r.c ∷ []) x ≡ true) e (has3-first r.a r.b r.c)
      | inr (inl e) ↦ subst (λ x. has (r.a ∷ r.b ∷ r.c ∷ []) x ≡ true) e (has3-second r.a r.b r.c)
      | inr (inr e) ↦ subst (λ x. has (r.a ∷ r.b ∷ r.c ∷ []) x ≡ true) e (has3-third r.a r.b r.c)
    ]

-- ---- occurrences
pub occurrences-rotation : (f g : List ℕ) (faces : List (List ℕ)) → is_rotation f g ≡ true → occurrences f faces ≡ occurrences g faces
occurrences-rotation f g faces e = count_by-same (λ h. is_rotation f h) (λ h. is_rotation g h) faces (λ h. rotation-same f g h e)

pub occurrences-append : (f : List ℕ) (faces others : List (List ℕ)) → occurrences f (faces ++ others) ≡ occurrences f faces + occurrences f others
occurrences-append f faces others = sum_by-append (λ g. cond (is_rotation f g) 1 0) faces others

pub occurrences-push : (f : List ℕ) (faces : List (List ℕ)) (g : List ℕ) → occurrences f (faces ++ g ∷ []) ≡ occurrences f faces + cond (is_rotation f g) 1 0
occurrences-push f faces g = omega (arith, occurrences-append f faces (g ∷ []), count_by-cons (λ h. is_rotation f h) g [])
