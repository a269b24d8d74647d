-- What replacing a corner does.
use Rattle.std.proofs.Common.{◌≡◌, ◌≢◌, ◌⊎◌, ℕ, List, [], ◌∷◌, Bool, true, false, ◌||◌, eqb, ap, ap₂, refl, sym, ◌∙◌, inl, inr}
use Rattle.std.proofs.lemmas.Bool.{cases_eq, eqb-true, eqb-false, eq-eqb, ne_eqb, or_cases, or_left, or_right, or_parts, or_from, cond-true, cond-false, true≢false}
use Rattle.grid.specs.Simplices.{has, put, replaced}

pub put-same : (u k : ℕ) → put u k u ≡ k
put-same u k = cond-true _ _ _ (eq-eqb u u refl)

pub put-other : (u k c : ℕ) → c ≢ u → put u k c ≡ c
put-other u k c h = cond-false _ _ _ (ne_eqb c u h)

pub put_cases : (u k c : ℕ) → ((c ≡ u) × (put u k c ≡ k)) ⊎ ((c ≢ u) × (put u k c ≡ c))
put_cases u k c = elim (cases_eq c u) [
  | inl e ↦ inl (e, ap (put u k) e ∙ put-same u k)
  | inr e ↦ inr (e, put-other u k c e)
]

pub put-back : (u k c : ℕ) → c ≢ k → put k u (put u k c) ≡ c
put-back u k c h = elim (put_cases u k c) [
  | inl e ↦ ap (put k u) e.1 ∙ put-same k u ∙ sym e.0
  | inr e ↦ ap (put k u) e.1 ∙ put-other k u c h
]

pub put-not_old : (u k c : ℕ) → u ≢ k → put u k c ≢ u
put-not_old u k c n h = elim (put_cases u k c) [ inl e ↦ n (sym h ∙ e.1) | inr e ↦ e.0 (sym e.1 ∙ h) ]

pub same_bools : (p q : Bool) → (p ≡ true → q ≡ true) → (q ≡ true → p ≡ true) → p ≡ q
same_bools true q f g = sym (f refl)
same_bools false true f g = g refl
same_bools false false f g = refl

pub put-test : (u k c a : ℕ) → c ≢ u → c ≢ k → eqb (put u k a) c ≡ eqb a c
put-test u k c a m n = same_bools _ _
    (λ h. eq-eqb a c (elim (put_cases u k a) [
      | inl e ↦ absurd (n (sym (eqb-true _ _ h) ∙ e.1))
      | inr e ↦ sym e.1 ∙ eqb-true _ _ h
    ]))
    (λ h. eq-eqb _ _ (ap (put u k) (eqb-true a c h) ∙ put-other u k c m))

-- a list has a corner where its first is that corner or the rest has it
pub has_first : (c : ℕ) (x : List ℕ) → has (c ∷ x) c ≡ true
has_first c x = or_left _ _ (eq-eqb c c refl)

pub has_cases : (a : ℕ) (x : List ℕ) (c : ℕ) → has (a ∷ x) c ≡ true → (a ≡ c) ⊎ (has x c ≡ true)
has_cases a x c h = elim (or_cases _ _ h) [ inl e ↦ inl (eqb-true a c e) | inr e ↦ inr e ]

pub has_none : (a : ℕ) (x : List ℕ) (c : ℕ) → has (a ∷ x) c ≡ false → (a ≢ c) × (has x c ≡ false)
has_none a x c h = (eqb-false a c (or_parts _ _ h).0, (or_parts _ _ h).1)

pub has_none_from : (a : ℕ) (x : List ℕ) (c : ℕ) → a ≢ c → has x c ≡ false → has (a ∷ x) c ≡ false
has_none_from a x c g h = or_from _ _ (ne_eqb a c g) h

pub has-replaced_new : (u k : ℕ) (x : List ℕ) → has x u ≡ true → has (replaced u k x) k ≡ true
has-replaced_new u k [] h = absurd (true≢false (sym h))
has-replaced_new u k (a ∷ x) h = elim (has_cases a x u h) [
  | inl e ↦ or_left _ _ (eq-eqb _ _ (ap (put u k) e ∙ put-same u k))
  | inr e ↦ or_right _ _ (has-replaced_new u k x e)
]

pub has-replaced_old : (u k : ℕ) (x : List ℕ) → u ≢ k → has (replaced u k x) u ≡ false
has-replaced_old u k [] n = refl
has-replaced_old u k (a ∷ x) n = has_none_from _ _ u (put-not_old u k a n) (has-replaced_old u k x n)

pub has-replaced_other : (u k c : ℕ) (x : List ℕ) → c ≢ u → c ≢ k → has (replaced u k x) c ≡ has x c
has-replaced_other u k c [] m n = refl
has-replaced_other u k c (a ∷ x) m n = ap₂ ◌||◌ (put-test u k c a m n) (has-replaced_other u k c x m n)

pub replaced-back : (u k : ℕ) (x : List ℕ) → has x k ≡ false → replaced k u (replaced u k x) ≡ x
replaced-back u k [] h = refl
replaced-back u k (a ∷ x) h = ap₂ ◌∷◌ (put-back u k a (has_none a x k h).0) (replaced-back u k x (has_none a x k h).1)
