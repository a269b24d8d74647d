-- Inequalities of polynomials by a certificate: `at_most` proves l ≤ r from a sum of squares and of products of known facts that comes to r - l.
use Rattle.std.proofs.Common.{◌≡◌, ℕ, ◌*◌, suc, zero, List, [], ◌∷◌, ℤ, pos, negsuc, ◌+ℤ◌, ◌-ℤ◌, ◌*ℤ◌, ◌≤ℤ◌, ◌<ℤ◌, arith, refl, zero-le, le→leb}
use borrow.Author.Differences.{true_is_lt, true_is_le, lt_out, le_out}
use Rattle.std.proofs.Common.{true, ◌↔◌, sym}
use lib.Signed.{lt_z, le_z, le_z_yes, clash_ℤ}
use Rattle.std.proofs.lemmas.Int.{by_lt_z}
use Rattle.int_algebra.proofs.Laws.{linear}
use Rattle.int_algebra.proofs.Ring.{Expression, constant, variable, ◌⊕◌, ◌⊖◌, ◌⊗◌, value, normal_form, ring}

pub natural-NonNegative : (n : ℕ) → pos 0 ≤ℤ pos n
natural-NonNegative n = le_z_yes (le→leb 0 n zero-le)

pub square-NonNegative : (a : ℤ) → pos 0 ≤ℤ (a *ℤ a)
square-NonNegative (pos n) = natural-NonNegative (n * n)
square-NonNegative (negsuc n) = natural-NonNegative (suc n * suc n)

pub product-NonNegative : (a b : ℤ) → pos 0 ≤ℤ a → pos 0 ≤ℤ b → pos 0 ≤ℤ (a *ℤ b)
product-NonNegative (pos m) (pos n) h k = natural-NonNegative (m * n)
product-NonNegative (pos m) (negsuc n) h k = absurd k.le
product-NonNegative (negsuc m) b h k = absurd h.le

pub sum-NonNegative : (a b : ℤ) → pos 0 ≤ℤ a → pos 0 ≤ℤ b → pos 0 ≤ℤ (a +ℤ b)
sum-NonNegative a b h k = omega (arith, linear)

pub difference-NonNegative : (a b : ℤ) → a ≤ℤ b → pos 0 ≤ℤ (b -ℤ a)
difference-NonNegative a b h = omega (arith, linear)

-- a fact a ≤ b about the variables
pub data Fact : Type 0 where
  ◌≼◌ : Expression → Expression → Fact

infix 5 ◌≼◌
-- what is not negative, by its form
pub data Certificate : Type 0 where
  natural : ℕ → Certificate
  square : Expression → Certificate
  given : ℕ → Certificate
  ◌⊞◌ : Certificate → Certificate → Certificate
  ◌⊠◌ : Certificate → Certificate → Certificate

infixl 6 ◌⊞◌
infixl 7 ◌⊠◌
-- by how much the fact i leaves room
abbrev pub room_of : List Fact → ℕ → Expression
room_of [] i = constant (pos 0)
room_of ((a ≼ b) ∷ fs) zero = b ⊖ a
room_of ((a ≼ b) ∷ fs) (suc i) = room_of fs i

abbrev pub certified : List Fact → Certificate → Expression
certified fs (natural n) = constant (pos n)
certified fs (square e) = e ⊗ e
certified fs (given i) = room_of fs i
certified fs (c ⊞ d) = certified fs c ⊕ certified fs d
certified fs (c ⊠ d) = certified fs c ⊗ certified fs d

-- what the facts say: nested pairs, ended by `tt`
abbrev pub AllHold : List ℤ → List Fact → Type 0
AllHold xs [] = Unit {0}
AllHold xs ((a ≼ b) ∷ fs) = (value xs a ≤ℤ value xs b) × AllHold xs fs

room-NonNegative : (xs : List ℤ) (fs : List Fact) (i : ℕ) → AllHold xs fs → pos 0 ≤ℤ value xs (room_of fs i)
room-NonNegative xs [] i h = natural-NonNegative 0
room-NonNegative xs ((a ≼ b) ∷ fs) zero h = difference-NonNegative (value xs a) (value xs b) h.0
room-NonNegative xs ((a ≼ b) ∷ fs) (suc i) h = room-NonNegative xs fs i h.1

pub certified-NonNegative : (xs : List ℤ) (fs : List Fact) → AllHold xs fs → (c : Certificate) → pos 0 ≤ℤ value xs (certified fs c)
certified-NonNegative xs fs h (natural n) = natural-NonNegative n
certified-NonNegative xs fs h (square e) = square-NonNegative (value xs e)
certified-NonNegative xs fs h (given i) = room-NonNegative xs fs i h
certified-NonNegative xs fs h (c ⊞ d) = sum-NonNegative _ _ (certified-NonNegative xs fs h c) (certified-NonNegative xs fs h d)
certified-NonNegative xs fs h (c ⊠ d) = product-NonNegative _ _ (certified-NonNegative xs fs h c) (certified-NonNegative xs fs h d)

pub at_most : (xs : List ℤ) (fs : List Fact) (l r : Expression) (c : Certificate) → normal_form (r ⊖ l) ≡ normal_form (certified fs c) → AllHold xs fs → value xs l ≤ℤ value xs r
at_most xs fs l r c e h = from (value xs l) (value xs r) (value xs (certified fs c)) (ring xs (r ⊖ l) (certified fs c) e) (certified-NonNegative xs fs h c)
  where
    from : (a b d : ℤ) → b -ℤ a ≡ d → pos 0 ≤ℤ d → a ≤ℤ b
    from a b d e h = omega (arith, linear)

-- `<` is `≤` with one more, both ways
pub below_from : (a b : ℤ) → (a +ℤ pos 1) ≤ℤ b → a <ℤ b
below_from a b h = omega (arith, linear)

pub one_more : (a b : ℤ) → a <ℤ b → (a +ℤ pos 1) ≤ℤ b
one_more a b h = omega (arith, linear)

pub below : (xs : List ℤ) (fs : List Fact) (l r : Expression) (c : Certificate) → normal_form (r ⊖ (l ⊕ constant (pos 1))) ≡ normal_form (certified fs c) → AllHold xs fs → value xs l <ℤ value xs r
below xs fs l r c e h = below_from (value xs l) (value xs r) (at_most xs fs (l ⊕ constant (pos 1)) r c e h)

-- ---- a positive factor keeps an order, and can be cancelled
pub times_positive : (k a b : ℤ) → pos 0 <ℤ k → a <ℤ b → (k *ℤ a) <ℤ (k *ℤ b)
times_positive k a b p h =
    let t = variable 0 in
    let x = variable 1 in
    let y = variable 2 in
    let one = constant (pos 1) in
    below (k ∷ a ∷ b ∷ []) ((one ≼ t) ∷ (x ⊕ one ≼ y) ∷ []) (t ⊗ x) (t ⊗ y) ((given 0 ⊞ natural 1) ⊠ given 1 ⊞ given 0) refl (one_more (pos 0) k p, (one_more a b h, tt))

pub times_non_negative : (k a b : ℤ) → pos 0 ≤ℤ k → a ≤ℤ b → (k *ℤ a) ≤ℤ (k *ℤ b)
times_non_negative k a b p h =
    let t = variable 0 in
    let x = variable 1 in
    let y = variable 2 in
    at_most (k ∷ a ∷ b ∷ []) ((constant (pos 0) ≼ t) ∷ (x ≼ y) ∷ []) (t ⊗ x) (t ⊗ y) (given 0 ⊠ given 1) refl (p, (h, tt))

pub cancel-at_most : (k a b : ℤ) → pos 0 <ℤ k → (k *ℤ a) ≤ℤ (k *ℤ b) → a ≤ℤ b
cancel-at_most k a b p h = by_lt_z b a (λ l. clash_ℤ (times_positive k b a p l) h) (λ l. l)

pub cancel-same : (k a b : ℤ) → pos 0 <ℤ k → k *ℤ a ≡ k *ℤ b → a ≡ b
cancel-same k a b p h =
    let low : (k *ℤ a) ≤ℤ (k *ℤ b) = omega (arith, linear) in
    let high : (k *ℤ b) ≤ℤ (k *ℤ a) = omega (arith, linear) in
    let one_way = cancel-at_most k a b p low in
    let other_way = cancel-at_most k b a p high in
    omega (arith, linear)

-- ---- what a test of the code says: `rw e (less_test _ _)`, where e gives the tested value
pub less_test : (a b : ℤ) → (lt_z a b ≡ true) ↔ (a <ℤ b)
less_test a b = (λ e. omega (arith, linear), λ h. sym (true_is_lt a b (lt_out a b h)))

pub at_most_test : (a b : ℤ) → (le_z a b ≡ true) ↔ (a ≤ℤ b)
at_most_test a b = (λ e. omega (arith, linear), λ h. sym (true_is_le a b (le_out a b h)))
