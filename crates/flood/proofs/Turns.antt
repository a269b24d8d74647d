-- Oriented faces: rotations, reverses and the same corners in rising order.
use Rattle.std.proofs.Common.{◌≡◌, ℕ, ◌⊎◌, true, false, cond, List, [], ◌∷◌, nat_lt, refl, sym, ap, ◌∙◌, subst, inl, inr, arith}
use Rattle.std.proofs.lemmas.Bool.{false≢true}
use Rattle.std.proofs.lemmas.Bool.Decides.{nat_tests}
use Rattle.grid.specs.Simplices.{insert_number, is_rotation, reversed, rising}
use Rattle.grid.proofs.ForCallers.{IsRotation, rotation-from, rotation-to, rotation-back, rotation-reversed, reversed-reversed}

-- what holds of any two triples of which one is a rotation of the other
on_triples : (P : List ℕ → List ℕ → Type 0) → ((a b c u v w : ℕ) → IsRotation (a ∷ b ∷ c ∷ []) u v w → P (a ∷ b ∷ c ∷ []) (u ∷ v ∷ w ∷ [])) → (f g : List ℕ) → is_rotation f g ≡ true → P f g
on_triples P h [] g e = absurd (false≢true e)
on_triples P h (a ∷ []) g e = absurd (false≢true e)
on_triples P h (a ∷ b ∷ []) g e = absurd (false≢true e)
on_triples P h (a ∷ b ∷ c ∷ d ∷ f) g e = absurd (false≢true e)
on_triples P h (a ∷ b ∷ c ∷ []) [] e = absurd (false≢true e)
on_triples P h (a ∷ b ∷ c ∷ []) (u ∷ []) e = absurd (false≢true e)
on_triples P h (a ∷ b ∷ c ∷ []) (u ∷ v ∷ []) e = absurd (false≢true e)
on_triples P h (a ∷ b ∷ c ∷ []) (u ∷ v ∷ w ∷ x ∷ g) e = absurd (false≢true e)
on_triples P h (a ∷ b ∷ c ∷ []) (u ∷ v ∷ w ∷ []) e = h a b c u v w (rotation-from (a ∷ b ∷ c ∷ []) u v w e)

-- a record, so that antt finds f and g
pub record Turns (f g : List ℕ) : Type 0 where
  pub is : is_rotation f g ≡ true

turns : (f : List ℕ) (u v w : ℕ) → IsRotation f u v w → Turns f (u ∷ v ∷ w ∷ [])
turns f u v w r = record { is = rotation-to f u v w r }

back : (a b c u v w : ℕ) → IsRotation (a ∷ b ∷ c ∷ []) u v w → IsRotation (u ∷ v ∷ w ∷ []) a b c
back a b c u v w (inl e) = inl (sym e)
back a b c u v w (inr (inl e)) = inr (inr cc)
back a b c u v w (inr (inr e)) = inr (inl cc)

pub Turns-sym : (f g : List ℕ) → Turns f g → Turns g f
Turns-sym f g t = on_triples (λ x y. Turns y x) (λ a b c u v w r. turns (u ∷ v ∷ w ∷ []) a b c (back a b c u v w r)) f g t.is

along : (f : List ℕ) (a b c u v w : ℕ) → IsRotation (a ∷ b ∷ c ∷ []) u v w → Turns f (a ∷ b ∷ c ∷ []) → Turns f (u ∷ v ∷ w ∷ [])
along f a b c u v w (inl e) t = subst (Turns f) e t
along f a b c u v w (inr (inl e)) t =
    let s : Turns f (v ∷ w ∷ u ∷ []) = subst (Turns f) e t in
    turns f u v w (rotation-back f u v w (rotation-from f v w u s.is))
along f a b c u v w (inr (inr e)) t =
    let s : Turns f (w ∷ u ∷ v ∷ []) = subst (Turns f) e t in
    turns f u v w (rotation-back f u v w (rotation-back f v w u (rotation-from f w u v s.is)))

pub Turns-trans : (f g h : List ℕ) → Turns f g → Turns g h → Turns f h
Turns-trans f g h s t = on_triples (λ x y. Turns f x → Turns f y) (λ a b c u v w r. along f a b c u v w r) g h t.is s

pub Turns-reversed : (f g : List ℕ) → Turns f g → Turns (reversed f) (reversed g)
Turns-reversed f g t = on_triples (λ x y. Turns (reversed x) (reversed y)) (λ a b c u v w r. turns (a ∷ c ∷ b ∷ []) u w v (rotation-reversed (a ∷ b ∷ c ∷ []) u v w r)) f g t.is

-- the reverse of a rotation
pub Turns-over : (f g : List ℕ) → Turns f (reversed g) → Turns (reversed f) g
Turns-over f g t = subst (Turns (reversed f)) (reversed-reversed g) (Turns-reversed f (reversed g) t)

-- ---- the corners in rising order
insert_both : (a b : ℕ) → insert_number a (b ∷ []) ≡ insert_number b (a ∷ [])
insert_both a b = grind (arith, nat_tests)

insert-insert : (a b c : ℕ) → insert_number a (insert_number b (c ∷ [])) ≡ insert_number b (insert_number a (c ∷ []))
insert-insert a b c = grind (arith, nat_tests)

first_two : (a b c : ℕ) → rising (a ∷ b ∷ c ∷ []) ≡ rising (b ∷ a ∷ c ∷ [])
first_two a b c = insert-insert a b c

last_two : (a b c : ℕ) → rising (a ∷ b ∷ c ∷ []) ≡ rising (a ∷ c ∷ b ∷ [])
last_two a b c = ap (insert_number a) (insert_both b c)

rotated : (a b c : ℕ) → rising (a ∷ b ∷ c ∷ []) ≡ rising (b ∷ c ∷ a ∷ [])
rotated a b c = first_two a b c ∙ last_two b a c

rising-rotation : (a b c u v w : ℕ) → IsRotation (a ∷ b ∷ c ∷ []) u v w → rising (a ∷ b ∷ c ∷ []) ≡ rising (u ∷ v ∷ w ∷ [])
rising-rotation a b c u v w (inl e) = ap rising e
rising-rotation a b c u v w (inr (inl e)) = ap rising e ∙ sym (rotated u v w)
rising-rotation a b c u v w (inr (inr e)) = ap rising e ∙ rotated w u v

pub rising-Turns : (f g : List ℕ) → Turns f g → rising f ≡ rising g
rising-Turns f g t = on_triples (λ x y. rising x ≡ rising y) rising-rotation f g t.is

-- a triple
pub record IsTriple (f : List ℕ) : Type 0 where
  pub a : ℕ
  pub b : ℕ
  pub c : ℕ
  pub is : f ≡ a ∷ b ∷ c ∷ []

pub rising-reversed : (f : List ℕ) → IsTriple f → rising (reversed f) ≡ rising f
rising-reversed f t = subst (λ x. rising (reversed x) ≡ rising x) (sym t.is) (last_two t.a t.c t.b)

-- one of two triples is a rotation of the other or of its reverse
abbrev pub AreMates : List ℕ → List ℕ → Type 0
AreMates f g = Turns f g ⊎ Turns f (reversed g)

in_place : (a b c : ℕ) → AreMates (a ∷ b ∷ c ∷ []) (rising (a ∷ b ∷ c ∷ []))
in_place a b c =
    let T : List ℕ → Type 0 = AreMates (a ∷ b ∷ c ∷ []) in
    elim (nat_lt c b) as (λ t. T (insert_number a (cond t (c ∷ b ∷ []) (b ∷ c ∷ [])))) [
      | true ↦ elim (nat_lt c a) as (λ t. T (cond t (c ∷ cond (nat_lt b a) (b ∷ a ∷ []) (a ∷ b ∷ [])) (a ∷ c ∷ b ∷ []))) [
        | true ↦ elim (nat_lt b a) as (λ t. T (c ∷ cond t (b ∷ a ∷ []) (a ∷ b ∷ []))) [
          | true ↦ inr (turns (a ∷ b ∷ c ∷ []) c a b (inr (inl refl)))
          | false ↦ inl (turns (a ∷ b ∷ c ∷ []) c a b (inr (inl refl)))
        ]
        | false ↦ inr (turns (a ∷ b ∷ c ∷ []) a b c (inl refl))
      ]
      | false ↦ elim (nat_lt b a) as (λ t. T (cond t (b ∷ cond (nat_lt c a) (c ∷ a ∷ []) (a ∷ c ∷ [])) (a ∷ b ∷ c ∷ []))) [
        | true ↦ elim (nat_lt c a) as (λ t. T (b ∷ cond t (c ∷ a ∷ []) (a ∷ c ∷ []))) [
          | true ↦ inl (turns (a ∷ b ∷ c ∷ []) b c a (inr (inr refl)))
          | false ↦ inr (turns (a ∷ b ∷ c ∷ []) b c a (inr (inr refl)))
        ]
        | false ↦ inl (turns (a ∷ b ∷ c ∷ []) a b c (inl refl))
      ]
    ]

mates_at : (f g r : List ℕ) → AreMates f r → AreMates g r → AreMates f g
mates_at f g r (inl s) (inl t) = inl (Turns-trans f r g s (Turns-sym g r t))
mates_at f g r (inl s) (inr t) = inr (Turns-trans f r (reversed g) s (Turns-sym (reversed g) r (Turns-over g r t)))
mates_at f g r (inr s) (inl t) = inr (Turns-trans f (reversed r) (reversed g) s (Turns-sym (reversed g) (reversed r) (Turns-reversed g r t)))
mates_at f g r (inr s) (inr t) = inl (Turns-trans f (reversed r) g s (Turns-sym g (reversed r) t))

-- triples with the same corners
pub mates_from : (f g : List ℕ) → IsTriple f → IsTriple g → rising f ≡ rising g → AreMates f g
mates_from f g s t e =
    let P : List ℕ → Type 0 = λ x. AreMates x (rising x) in
    let at_f = subst P (sym s.is) (in_place s.a s.b s.c) in
    let at_g = subst P (sym t.is) (in_place t.a t.b t.c) in
    let Q : List ℕ → Type 0 = AreMates f in
    mates_at f g (rising g) (subst Q e at_f) at_g
