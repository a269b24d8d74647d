-- How often something occurs among the pieces of a simplex.
use Rattle.std.proofs.Common.{◌≡◌, ◌≢◌, ℕ, List, [], ◌∷◌, Bool, true, false, ◌&&◌, ap, ap₂, refl, sym, subst, ◌∙◌, arith, inl, inr, ℤ, pos, ◌+ℤ◌}
use Rattle.std.proofs.lemmas.Bool.{cases_Bool, and_parts, and_from, and_left, and_right, cond-true, cond-false, false_from_ne_true, true≢false}
use Rattle.grid.specs.Simplices.{has, replaced, sub}
use Rattle.mesh_types.proofs.Sums.{total, bit}
use Rattle.grid.proofs.ForCallers.{same_bools, has-replaced_new, has-replaced_old, has-replaced_other, replaced-back}
use Rattle.int_algebra.proofs.Laws.{linear}

-- a test of sameness that replacing keeps, and whose sides have the same corners
pub record IsSameness (same : List ℕ → List ℕ → Bool) : Type 0 where
  pub moves : (a b : ℕ) (x y : List ℕ) → same x y ≡ true → same (replaced a b x) (replaced a b y) ≡ true
  pub keeps : (c : ℕ) (x y : List ℕ) → same x y ≡ true → has x c ≡ has y c

-- a new point of an edge
pub record IsNew (u v k : ℕ) : Type 0 where
  pub ends_differ : u ≢ v
  pub not_first : u ≢ k
  pub not_second : v ≢ k

-- what y can be a piece of
pub data Kind (u v k : ℕ) (y : List ℕ) : Type 0 where
  kept : has y k ≡ false → (has y u && has y v) ≡ false → Kind u v k y
  gone : has y k ≡ false → (has y u && has y v) ≡ true → Kind u v k y
  at_v : has y k ≡ true → has y u ≡ true → has y v ≡ false → Kind u v k y
  at_u : has y k ≡ true → has y u ≡ false → has y v ≡ true → Kind u v k y
  fresh : has y k ≡ true → has y u ≡ has y v → Kind u v k y

pub kind_of : (u v k : ℕ) (y : List ℕ) → Kind u v k y
kind_of u v k y = by (has y k) (has y u) (has y v) refl refl refl
  where
    by : (a b c : Bool) → has y k ≡ a → has y u ≡ b → has y v ≡ c → Kind u v k y
    by false false c p q r = kept p (and_left _ _ q)
    by false true false p q r = kept p (and_right _ _ r)
    by false true true p q r = gone p (and_from _ _ q r)
    by true true false p q r = at_v p q r
    by true false true p q r = at_u p q r
    by true true true p q r = fresh p (q ∙ sym r)
    by true false false p q r = fresh p (q ∙ sym r)

-- how often y occurs among the pieces of x
abbrev pub occurs : (List ℕ → List ℕ → Bool) → ℕ → ℕ → ℕ → List ℕ → List ℕ → ℤ
occurs same u v k y x = total (λ z. bit (same y z)) (sub u v k x)

pub sub-touched : (u v k : ℕ) (x : List ℕ) → (has x u && has x v) ≡ true → sub u v k x ≡ replaced u k x ∷ replaced v k x ∷ []
sub-touched u v k x h = cond-true _ _ _ h

pub sub-untouched : (u v k : ℕ) (x : List ℕ) → (has x u && has x v) ≡ false → sub u v k x ≡ x ∷ []
sub-untouched u v k x h = cond-false _ _ _ h

occurs-touched : (same : List ℕ → List ℕ → Bool) (u v k : ℕ) (y x : List ℕ) (p q : Bool) → (has x u && has x v) ≡ true → same y (replaced u k x) ≡ p → same y (replaced v k x) ≡ q → occurs same u v k y x ≡ bit p +ℤ bit q
occurs-touched same u v k y x p q h e f = ap (total (λ z. bit (same y z))) (sub-touched u v k x h) ∙ last (bit (same y (replaced u k x))) (bit (same y (replaced v k x))) ∙ ap₂ (λ a b. bit a +ℤ bit b) e f
  where
    last : (a b : ℤ) → a +ℤ (b +ℤ pos 0) ≡ a +ℤ b
    last a b = omega (arith, linear)

occurs-untouched : (same : List ℕ → List ℕ → Bool) (u v k : ℕ) (y x : List ℕ) → (has x u && has x v) ≡ false → occurs same u v k y x ≡ bit (same y x)
occurs-untouched same u v k y x h = ap (total (λ z. bit (same y z))) (sub-untouched u v k x h) ∙ last (bit (same y x))
  where
    last : (a : ℤ) → a +ℤ pos 0 ≡ a
    last a = omega (arith, linear)

pub apart : (same : List ℕ → List ℕ → Bool) → IsSameness same → (c : ℕ) (y z : List ℕ) → has y c ≢ has z c → same y z ≡ false
apart same s c y z n = false_from_ne_true _ (λ h. n (s.keeps c y z h))

differ : (a b : Bool) → a ≡ true → b ≡ false → a ≢ b
differ a b p q e = true≢false (sym p ∙ e ∙ q)

differ' : (a b : Bool) → a ≡ false → b ≡ true → a ≢ b
differ' a b p q e = true≢false (sym q ∙ sym e ∙ p)

pub occurs-kept : (same : List ℕ → List ℕ → Bool) → IsSameness same → (u v k : ℕ) → IsNew u v k → (y x : List ℕ) → has x k ≡ false → has y k ≡ false → (has y u && has y v) ≡ false → occurs same u v k y x ≡ bit (same y x)
occurs-kept same s u v k new y x o p q = elim (cases_Bool (has x u && has x v)) [
  | inl h ↦ occurs-touched same u v k y x false false h
      (apart same s k y _ (differ' _ _ p (has-replaced_new u k x (and_parts _ _ h).0)))
      (apart same s k y _ (differ' _ _ p (has-replaced_new v k x (and_parts _ _ h).1)))
      ∙ ap bit (sym (false_from_ne_true _ (λ e. true≢false (sym h ∙ ap₂ ◌&&◌ (sym (s.keeps u y x e)) (sym (s.keeps v y x e)) ∙ q))))
  | inr h ↦ occurs-untouched same u v k y x h
]

pub occurs-gone : (same : List ℕ → List ℕ → Bool) → IsSameness same → (u v k : ℕ) → IsNew u v k → (y x : List ℕ) → has x k ≡ false → has y k ≡ false → (has y u && has y v) ≡ true → occurs same u v k y x ≡ pos 0
occurs-gone same s u v k new y x o p q = elim (cases_Bool (has x u && has x v)) [
  | inl h ↦ occurs-touched same u v k y x false false h
      (apart same s k y _ (differ' _ _ p (has-replaced_new u k x (and_parts _ _ h).0)))
      (apart same s k y _ (differ' _ _ p (has-replaced_new v k x (and_parts _ _ h).1)))
  | inr h ↦ occurs-untouched same u v k y x h
      ∙ ap bit (false_from_ne_true _ (λ e. true≢false (sym q ∙ ap₂ ◌&&◌ (s.keeps u y x e) (s.keeps v y x e) ∙ h)))
]

-- k stands in the place of w, and the other end o is there
pub half : (same : List ℕ → List ℕ → Bool) → IsSameness same → (w k : ℕ) (y x : List ℕ) → has x k ≡ false → has y w ≡ false → same y (replaced w k x) ≡ same (replaced k w y) x
half same s w k y x o p = same_bools _ _
    (λ e. subst (λ z. same (replaced k w y) z ≡ true) (replaced-back w k x o) (s.moves k w _ _ e))
    (λ e. subst (λ z. same z (replaced w k x) ≡ true) (replaced-back k w y p) (s.moves w k _ _ e))

pub occurs-at_v : (same : List ℕ → List ℕ → Bool) → IsSameness same → (u v k : ℕ) → IsNew u v k → (y x : List ℕ) → has x k ≡ false → has y k ≡ true → has y u ≡ true → has y v ≡ false → occurs same u v k y x ≡ bit (same (replaced k v y) x)
occurs-at_v same s u v k new y x o p q r = elim (cases_Bool (has x u && has x v)) [
  | inl h ↦ occurs-touched same u v k y x false _ h
      (apart same s u y _ (differ _ _ q (has-replaced_old u k x new.not_first)))
      (half same s v k y x o r) ∙ plain (bit (same (replaced k v y) x))
  | inr h ↦ occurs-untouched same u v k y x h
      ∙ ap bit (apart same s k y x (differ _ _ p o) ∙ sym (false_from_ne_true _ (λ e. true≢false (sym (both e) ∙ h))))
]
  where
    plain : (a : ℤ) → pos 0 +ℤ a ≡ a
    plain a = omega (arith, linear)

    both : same (replaced k v y) x ≡ true → (has x u && has x v) ≡ true
    both e = and_from _ _
        (sym (s.keeps u _ x e) ∙ has-replaced_other k v u y new.not_first new.ends_differ ∙ q)
        (sym (s.keeps v _ x e) ∙ has-replaced_new k v y p)

pub occurs-at_u : (same : List ℕ → List ℕ → Bool) → IsSameness same → (u v k : ℕ) → IsNew u v k → (y x : List ℕ) → has x k ≡ false → has y k ≡ true → has y u ≡ false → has y v ≡ true → occurs same u v k y x ≡ bit (same (replaced k u y) x)
occurs-at_u same s u v k new y x o p q r = elim (cases_Bool (has x u && has x v)) [
  | inl h ↦ occurs-touched same u v k y x _ false h
      (half same s u k y x o q)
      (apart same s v y _ (differ _ _ r (has-replaced_old v k x new.not_second))) ∙ plain (bit (same (replaced k u y) x))
  | inr h ↦ occurs-untouched same u v k y x h
      ∙ ap bit (apart same s k y x (differ _ _ p o) ∙ sym (false_from_ne_true _ (λ e. true≢false (sym (both e) ∙ h))))
]
  where
    plain : (a : ℤ) → a +ℤ pos 0 ≡ a
    plain a = omega (arith, linear)

    both : same (replaced k u y) x ≡ true → (has x u && has x v) ≡ true
    both e = and_from _ _
        (sym (s.keeps u _ x e) ∙ has-replaced_new k u y p)
        (sym (s.keeps v _ x e) ∙ has-replaced_other k u v y new.not_second (λ e. new.ends_differ (sym e)) ∙ r)

pub occurs-fresh : (same : List ℕ → List ℕ → Bool) → IsSameness same → (u v k : ℕ) → IsNew u v k → (y x : List ℕ) → has x k ≡ false → has y k ≡ true → has y u ≡ has y v → occurs same u v k y x ≡ pos 0
occurs-fresh same s u v k new y x o p q = elim (cases_Bool (has x u && has x v)) [
  | inl h ↦ elim (cases_Bool (has y u)) [
    | inl e ↦ occurs-touched same u v k y x false false h
        (apart same s u y _ (differ _ _ e (has-replaced_old u k x new.not_first)))
        (apart same s v y _ (differ _ _ (sym q ∙ e) (has-replaced_old v k x new.not_second)))
    | inr e ↦ occurs-touched same u v k y x false false h
        (apart same s v y _ (differ' _ _ (sym q ∙ e) (has-replaced_other u k v x (λ e. new.ends_differ (sym e)) new.not_second ∙ (and_parts _ _ h).1)))
        (apart same s u y _ (differ' _ _ e (has-replaced_other v k u x new.ends_differ new.not_first ∙ (and_parts _ _ h).0)))
  ]
  | inr h ↦ occurs-untouched same u v k y x h ∙ ap bit (apart same s k y x (differ _ _ p o))
]
