-- For `using`: what is computed of components as the code keeps them fits, by the bounds that the functions ask for.
use Rattle.std.proofs.Common.{ℕ, ◌+◌, ◌*◌, ◌^◌, [], ◌∷◌, ℤ, ◌+ℤ◌, ◌-ℤ◌, ◌*ℤ◌, w64, SFits, to_z, of_z}
use mir.Syntax.{w128}
use Rattle.int_algebra.specs.Within.{IsWithin}
use Rattle.int_algebra.proofs.Kept.{Code, variable, ◌⊕◌, ◌⊖◌, ◌⊗◌, kept, fits_code}

abbrev in_64 : ℤ → ℤ
in_64 z = to_z w64 (of_z w64 z)

abbrev in_128 : ℤ → ℤ
in_128 z = to_z w128 (of_z w128 z)

-- ---- vector products
pub product-SFits : (a b : ℤ) → IsWithin (2 ^ 24) a → IsWithin (2 ^ 24) b → SFits w64 (in_64 a *ℤ in_64 b)
product-SFits a b h i = fits_code (2 ^ 24 ∷ 2 ^ 24 ∷ []) (a ∷ b ∷ []) (h, (i, tt)) w64 (kept w64 (variable 0) ⊗ kept w64 (variable 1)) tt

pub minor-SFits : (a b c d : ℤ) → IsWithin (2 ^ 24) a → IsWithin (2 ^ 24) b → IsWithin (2 ^ 24) c → IsWithin (2 ^ 24) d
    → SFits w64 (in_64 (in_64 a *ℤ in_64 b) -ℤ in_64 (in_64 c *ℤ in_64 d))
minor-SFits a b c d h i j k =
    let term = λ (n : ℕ). kept w64 (kept w64 (variable n) ⊗ kept w64 (variable (n + 1))) in
    fits_code (2 ^ 24 ∷ 2 ^ 24 ∷ 2 ^ 24 ∷ 2 ^ 24 ∷ []) (a ∷ b ∷ c ∷ d ∷ []) (h, (i, (j, (k, tt)))) w64 (term 0 ⊖ term 2) tt

pub ruleset minors = (product-SFits, minor-SFits)

-- ---- scalar products in 64 bits
abbrev term_64 : ℕ → Code
term_64 i = kept w64 (variable (2 * i)) ⊗ kept w64 (variable (2 * i + 1))

pub term-SFits : (a b : ℤ) → IsWithin (2 ^ 37) a → IsWithin (2 ^ 24) b → SFits w64 (in_64 a *ℤ in_64 b)
term-SFits a b h i = fits_code (2 ^ 37 ∷ 2 ^ 24 ∷ []) (a ∷ b ∷ []) (h, (i, tt)) w64 (term_64 0) tt

pub two-SFits : (a b c d : ℤ) → IsWithin (2 ^ 37) a → IsWithin (2 ^ 24) b → IsWithin (2 ^ 37) c → IsWithin (2 ^ 24) d
    → SFits w64 (in_64 (in_64 a *ℤ in_64 b) +ℤ in_64 (in_64 c *ℤ in_64 d))
two-SFits a b c d h i j k =
    fits_code (2 ^ 37 ∷ 2 ^ 24 ∷ 2 ^ 37 ∷ 2 ^ 24 ∷ []) (a ∷ b ∷ c ∷ d ∷ []) (h, (i, (j, (k, tt)))) w64 (kept w64 (term_64 0) ⊕ kept w64 (term_64 1)) tt

pub three-SFits : (a b c d e f : ℤ) → IsWithin (2 ^ 37) a → IsWithin (2 ^ 24) b → IsWithin (2 ^ 37) c → IsWithin (2 ^ 24) d → IsWithin (2 ^ 37) e → IsWithin (2 ^ 24) f
    → SFits w64 (in_64 (in_64 (in_64 a *ℤ in_64 b) +ℤ in_64 (in_64 c *ℤ in_64 d)) +ℤ in_64 (in_64 e *ℤ in_64 f))
three-SFits a b c d e f h i j k l m =
    fits_code (2 ^ 37 ∷ 2 ^ 24 ∷ 2 ^ 37 ∷ 2 ^ 24 ∷ 2 ^ 37 ∷ 2 ^ 24 ∷ []) (a ∷ b ∷ c ∷ d ∷ e ∷ f ∷ []) (h, (i, (j, (k, (l, (m, tt)))))) w64
    (kept w64 (kept w64 (term_64 0) ⊕ kept w64 (term_64 1)) ⊕ kept w64 (term_64 2)) tt

pub ruleset terms = (term-SFits, two-SFits, three-SFits)

-- ---- scalar products in 128 bits
abbrev term_128 : ℕ → Code
term_128 i = kept w128 (kept w64 (variable (2 * i))) ⊗ kept w128 (kept w64 (variable (2 * i + 1)))

abbrev long : ℤ → ℤ → ℤ
long a b = in_128 (in_128 (in_64 a) *ℤ in_128 (in_64 b))

pub long_two-SFits : (a b c d : ℤ) → IsWithin (2 ^ 49) a → IsWithin (2 ^ 49) b → IsWithin (2 ^ 49) c → IsWithin (2 ^ 49) d → SFits w128 (long a b +ℤ long c d)
long_two-SFits a b c d h i j k =
    fits_code (2 ^ 49 ∷ 2 ^ 49 ∷ 2 ^ 49 ∷ 2 ^ 49 ∷ []) (a ∷ b ∷ c ∷ d ∷ []) (h, (i, (j, (k, tt)))) w128 (kept w128 (term_128 0) ⊕ kept w128 (term_128 1)) tt

pub long_three-SFits : (a b c d e f : ℤ) → IsWithin (2 ^ 49) a → IsWithin (2 ^ 49) b → IsWithin (2 ^ 49) c → IsWithin (2 ^ 49) d → IsWithin (2 ^ 49) e → IsWithin (2 ^ 49) f
    → SFits w128 (in_128 (long a b +ℤ long c d) +ℤ long e f)
long_three-SFits a b c d e f h i j k l m =
    fits_code (2 ^ 49 ∷ 2 ^ 49 ∷ 2 ^ 49 ∷ 2 ^ 49 ∷ 2 ^ 49 ∷ 2 ^ 49 ∷ []) (a ∷ b ∷ c ∷ d ∷ e ∷ f ∷ []) (h, (i, (j, (k, (l, (m, tt)))))) w128
    (kept w128 (kept w128 (term_128 0) ⊕ kept w128 (term_128 1)) ⊕ kept w128 (term_128 2)) tt

pub ruleset long_terms = (long_two-SFits)
