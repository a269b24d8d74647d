-- What tests of the code say, at values that are kept at a width.
use Rattle.std.proofs.Common.{◌≡◌, ℤ, ◌≤ℤ◌, ◌↔◌, true, false, subst, sym, ap₂, ◌∙◌, T, refl}
use Rattle.int_algebra.proofs.Orders.{at_most_test}
use lib.Signed.{le_z}

pub at_most_is : {C : Type 0} (a b k l : ℤ) → a ≡ k → b ≡ l → (k ≤ℤ l) ↔ C → (le_z a b ≡ true) ↔ C
at_most_is a b k l e f h =
    let t : le_z a b ≡ le_z k l = ap₂ le_z e f in
    let test = at_most_test k l in
    (λ i. h.0 (test.0 (sym t ∙ i)), λ i. t ∙ test.1 (h.1 i))

-- an answer that is fixed
pub never_is : {C : Type 0} → (C → ⊥) → (false ≡ true) ↔ C
never_is h = (λ e. absurd (subst T (sym e) tt), λ c. absurd (h c))

pub always_is : {C : Type 0} → C → (true ≡ true) ↔ C
always_is c = (λ e. c, λ d. refl)
