-- Identities of polynomials by computation: `ring xs l r refl` proves that two expressions have one value at any values xs of their variables, if they have one normal form.
use Rattle.std.proofs.Common.{◌≡◌, ℕ, List, [], ◌∷◌, ℤ, pos, negsuc, ◌+ℤ◌, ◌-ℤ◌, ◌*ℤ◌, neg_ℤ, ap, ap₂, refl, sym, ◌∙◌}
use lib.IntN.{*ℤ-zero, nat_abs}
use Rattle.std.proofs.Common.{arith}
use Rattle.int_algebra.proofs.Laws.{linear}
use Rattle.int_algebra.proofs.Polynomials.{Polynomial, none, plus, unit, times, plus_if_some, sum_of, all_products, scaled, value_at, polynomial_value, sum_of-value, all_products-value, constant-value, variable-value, negated-value}

pub data Expression : Type 0 where
  constant : ℤ → Expression
  variable : ℕ → Expression
  ◌⊕◌ : Expression → Expression → Expression
  ◌⊖◌ : Expression → Expression → Expression
  ◌⊗◌ : Expression → Expression → Expression
  minus : Expression → Expression

infixl 6 ◌⊕◌ ◌⊖◌
infixl 7 ◌⊗◌
-- the value at the values xs of the variables
abbrev pub value : List ℤ → Expression → ℤ
value xs (constant k) = k
value xs (variable i) = value_at xs i
value xs (a ⊕ b) = value xs a +ℤ value xs b
value xs (a ⊖ b) = value xs a -ℤ value xs b
value xs (a ⊗ b) = value xs a *ℤ value xs b
value xs (minus a) = neg_ℤ (value xs a)

abbrev pub normal_form : Expression → Polynomial
normal_form (constant k) = plus_if_some k unit none
normal_form (variable i) = plus (pos 1) (times i unit) none
normal_form (a ⊕ b) = sum_of (normal_form a) (normal_form b)
normal_form (a ⊖ b) = sum_of (normal_form a) (scaled (negsuc 0) unit (normal_form b))
normal_form (a ⊗ b) = all_products (normal_form a) (normal_form b)
normal_form (minus a) = scaled (negsuc 0) unit (normal_form a)

pub normal_form-value : (xs : List ℤ) (e : Expression) → polynomial_value xs (normal_form e) ≡ value xs e
normal_form-value xs (constant k) = constant-value xs k
normal_form-value xs (variable i) = variable-value xs i
normal_form-value xs (a ⊕ b) =
    sum_of-value xs (normal_form a) (normal_form b) ∙ ap₂ ◌+ℤ◌ (normal_form-value xs a) (normal_form-value xs b)
normal_form-value xs (a ⊖ b) =
    sum_of-value xs (normal_form a) (scaled (negsuc 0) unit (normal_form b))
    ∙ ap₂ ◌+ℤ◌ (normal_form-value xs a) (negated-value xs (normal_form b) ∙ ap neg_ℤ (normal_form-value xs b))
normal_form-value xs (a ⊗ b) =
    all_products-value xs (normal_form a) (normal_form b) ∙ ap₂ ◌*ℤ◌ (normal_form-value xs a) (normal_form-value xs b)
normal_form-value xs (minus a) = negated-value xs (normal_form a) ∙ ap neg_ℤ (normal_form-value xs a)

-- two expressions with one normal form have one value
pub ring : (xs : List ℤ) (l r : Expression) → normal_form l ≡ normal_form r → value xs l ≡ value xs r
ring xs l r e = sym (normal_form-value xs l) ∙ ap (polynomial_value xs) e ∙ normal_form-value xs r

-- ---- from equations that are known
pub data Equation : Type 0 where
  ◌≈◌ : Expression → Expression → Equation

infix 5 ◌≈◌
-- the sum of the factors cs times the differences of the two sides
abbrev pub combination : List Equation → List Expression → Expression
combination [] cs = constant (pos 0)
combination (e ∷ es) [] = constant (pos 0)
combination ((a ≈ b) ∷ es) (c ∷ cs) = c ⊗ (a ⊖ b) ⊕ combination es cs

-- what the equations say: nested pairs, ended by `tt`
abbrev pub AllEqual : List ℤ → List Equation → Type 0
AllEqual xs [] = Unit {0}
AllEqual xs ((a ≈ b) ∷ es) = (value xs a ≡ value xs b) × AllEqual xs es

combination-zero : (xs : List ℤ) (es : List Equation) (cs : List Expression) → AllEqual xs es → value xs (combination es cs) ≡ pos 0
combination-zero xs [] cs h = refl
combination-zero xs (e ∷ es) [] h = refl
combination-zero xs ((a ≈ b) ∷ es) (c ∷ cs) h = none_left (value xs c) (value xs a) (value xs b) (value xs (combination es cs)) h.0 (combination-zero xs es cs h.1)
  where
    none_left : (k x y r : ℤ) → x ≡ y → r ≡ pos 0 → k *ℤ (x -ℤ y) +ℤ r ≡ pos 0
    none_left k x y r p q =
        let d : x -ℤ y ≡ pos 0 = omega (arith, linear) in
        ap₂ ◌+ℤ◌ (ap (λ z. k *ℤ z) d ∙ *ℤ-zero k) q

-- l - r is a combination of the differences of known equations
pub ring_from : (xs : List ℤ) (es : List Equation) (cs : List Expression) (l r : Expression) → normal_form (l ⊖ r) ≡ normal_form (combination es cs) → AllEqual xs es → value xs l ≡ value xs r
ring_from xs es cs l r e h = same (value xs l) (value xs r) (ring xs (l ⊖ r) (combination es cs) e ∙ combination-zero xs es cs h)
  where
    same : (x y : ℤ) → x -ℤ y ≡ pos 0 → x ≡ y
    same x y e = omega (arith, linear)

-- an equation of natural numbers, from one of the integers that they are: `of_naturals (ring ..)`
pub of_naturals : {m n : ℕ} → pos m ≡ pos n → m ≡ n
of_naturals e = ap nat_abs e
