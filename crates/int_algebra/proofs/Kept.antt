-- What code computes on signed numbers, as its goals state it: each value is kept at a width, `to_z w (of_z w z)`. Where the bounds of the inputs bound each kept value below its width, the code's value is the expression's.
use Rattle.std.proofs.Common.{◌≡◌, ℕ, ◌^◌, List, Bool, true, false, ◌&&◌, ℤ, ◌+ℤ◌, ◌-ℤ◌, ◌*ℤ◌, neg_ℤ, ap, ap₂, refl, sym, ◌∙◌, T, ltb, ltb→lt, SFits, to_z, of_z, to_z-of_z, subst}
use mir.Syntax.{Width}
use mir.Val.{hbits}
use Rattle.int_algebra.proofs.Ring as expression
use Rattle.int_algebra.proofs.Ring.{Expression, value}
use Rattle.int_algebra.proofs.Polynomials.{value_at}
use Rattle.int_algebra.proofs.Bounds.{bound_of, AreWithin, within, fits_within}

pub data Code : Type 0 where
  constant : ℤ → Code
  variable : ℕ → Code
  ◌⊕◌ : Code → Code → Code
  ◌⊖◌ : Code → Code → Code
  ◌⊗◌ : Code → Code → Code
  minus : Code → Code
  kept : Width → Code → Code

infixl 6 ◌⊕◌ ◌⊖◌
infixl 7 ◌⊗◌
-- the value at the values xs of the inputs
abbrev pub code_value : List ℤ → Code → ℤ
code_value xs (constant k) = k
code_value xs (variable i) = value_at xs i
code_value xs (a ⊕ b) = code_value xs a +ℤ code_value xs b
code_value xs (a ⊖ b) = code_value xs a -ℤ code_value xs b
code_value xs (a ⊗ b) = code_value xs a *ℤ code_value xs b
code_value xs (minus a) = neg_ℤ (code_value xs a)
code_value xs (kept w a) = to_z w (of_z w (code_value xs a))

abbrev pub plain : Code → Expression
plain (constant k) = expression.constant k
plain (variable i) = expression.variable i
plain (a ⊕ b) = expression.◌⊕◌ (plain a) (plain b)
plain (a ⊖ b) = expression.◌⊖◌ (plain a) (plain b)
plain (a ⊗ b) = expression.◌⊗◌ (plain a) (plain b)
plain (minus a) = expression.minus (plain a)
plain (kept w a) = plain a

-- each kept value is below the half of its width's power, by the bounds ns of the inputs
abbrev pub is_safe : List ℕ → Code → Bool
is_safe ns (constant k) = true
is_safe ns (variable i) = true
is_safe ns (a ⊕ b) = is_safe ns a && is_safe ns b
is_safe ns (a ⊖ b) = is_safe ns a && is_safe ns b
is_safe ns (a ⊗ b) = is_safe ns a && is_safe ns b
is_safe ns (minus a) = is_safe ns a
is_safe ns (kept w a) = ltb (bound_of ns (plain a)) (2 ^ hbits w) && is_safe ns a

both : (a b : Bool) → T (a && b) → T a × T b
both true b t = (tt, t)
both false b t = absurd t

module _ (ns : List ℕ) (xs : List ℤ) (h : AreWithin ns xs) where
  pub kept-value : (c : Code) → T (is_safe ns c) → code_value xs c ≡ value xs (plain c)
  kept-value (constant k) t = refl
  kept-value (variable i) t = refl
  kept-value (a ⊕ b) t = ap₂ ◌+ℤ◌ (kept-value a (both (is_safe ns a) (is_safe ns b) t).0) (kept-value b (both (is_safe ns a) (is_safe ns b) t).1)
  kept-value (a ⊖ b) t = ap₂ ◌-ℤ◌ (kept-value a (both (is_safe ns a) (is_safe ns b) t).0) (kept-value b (both (is_safe ns a) (is_safe ns b) t).1)
  kept-value (a ⊗ b) t = ap₂ ◌*ℤ◌ (kept-value a (both (is_safe ns a) (is_safe ns b) t).0) (kept-value b (both (is_safe ns a) (is_safe ns b) t).1)
  kept-value (minus a) t = ap neg_ℤ (kept-value a t)
  kept-value (kept w a) t =
      let p = both (ltb (bound_of ns (plain a)) (2 ^ hbits w)) (is_safe ns a) t in
      ap (λ z. to_z w (of_z w z)) (kept-value a p.1) ∙ to_z-of_z (fits_within w (within ns xs h (plain a)) (ltb→lt _ _ p.0))

  -- the goal that a value fits the width w that it is to be kept at
  pub fits_code : (w : Width) (c : Code) → T (is_safe ns (kept w c)) → SFits w (code_value xs c)
  fits_code w c t =
      let p = both (ltb (bound_of ns (plain c)) (2 ^ hbits w)) (is_safe ns c) t in
      subst (SFits w) (sym (kept-value c p.1)) (fits_within w (within ns xs h (plain c)) (ltb→lt _ _ p.0))
