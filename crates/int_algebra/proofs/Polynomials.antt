-- Polynomials in numbered variables with integer coefficients: sorted lists of monomials, each a sorted list of variables. All of it computes on closed terms.
use Rattle.std.proofs.Common.{◌≡◌, ℕ, zero, suc, Bool, true, false, List, [], ◌∷◌, ℤ, pos, negsuc, ◌+ℤ◌, ◌*ℤ◌, neg_ℤ, ap, ap₂, refl, sym, ◌∙◌, arith, subst, leb}
use Prim.Native.Nat.{compare, Ordering}
use lib.Dec.{T, compare_is_eq, eqb→eq}
use lib.IntN.{+ℤ_assoc, +ℤ_idl, +ℤ_idr, *ℤ_comm, zero-*ℤ, *ℤ-zero}
use Rattle.std.proofs.lemmas.Int.{ints}
use Rattle.int_algebra.proofs.Laws.{linear, mul_ℤ_assoc, mul_ℤ-add_left, add_ℤ-mul_right, mul_ℤ-one, one-mul_ℤ}

-- the product of some variables
pub data Monomial : Type 0 where
  unit : Monomial
  times : ℕ → Monomial → Monomial

-- the sum of some monomials with their coefficients
pub data Polynomial : Type 0 where
  none : Polynomial
  plus : ℤ → Monomial → Polynomial → Polynomial

-- ---- the operations

-- the unit comes last, so that a factor keeps the order of the monomials that it multiplies
abbrev pub order_of : Monomial → Monomial → Ordering
order_of unit unit = Ordering.eq
order_of unit (times j n) = Ordering.gt
order_of (times i m) unit = Ordering.lt
order_of (times i m) (times j n) = elim (compare i j) [ Ordering.lt ↦ Ordering.lt | Ordering.eq ↦ order_of m n | Ordering.gt ↦ Ordering.gt ]

-- f multiplies by what follows i
abbrev pub product_from : ℕ → (Monomial → Monomial) → Monomial → Monomial
product_from i f unit = times i (f unit)
product_from i f (times j n) = elim (leb i j) [ true ↦ times i (f (times j n)) | false ↦ times j (product_from i f n) ]

abbrev pub product_of : Monomial → Monomial → Monomial
product_of unit n = n
product_of (times i m) n = product_from i (product_of m) n

abbrev pub plus_if_some : ℤ → Monomial → Polynomial → Polynomial
plus_if_some (pos zero) m p = p
plus_if_some (pos (suc k)) m p = plus (pos (suc k)) m p
plus_if_some (negsuc k) m p = plus (negsuc k) m p

-- f adds what follows the first monomial
abbrev pub sum_from : ℤ → Monomial → (Polynomial → Polynomial) → Polynomial → Polynomial
sum_from k m f none = plus k m (f none)
sum_from k m f (plus l n q) = elim (order_of m n) [ Ordering.lt ↦ plus k m (f (plus l n q)) | Ordering.eq ↦ plus_if_some (k +ℤ l) m (f q) | Ordering.gt ↦ plus l n (sum_from k m f q) ]

abbrev pub sum_of : Polynomial → Polynomial → Polynomial
sum_of none q = q
sum_of (plus k m p) q = sum_from k m (sum_of p) q

abbrev pub scaled : ℤ → Monomial → Polynomial → Polynomial
scaled k m none = none
scaled k m (plus l n q) = plus (k *ℤ l) (product_of m n) (scaled k m q)

abbrev pub all_products : Polynomial → Polynomial → Polynomial
all_products none q = none
all_products (plus k m p) q = sum_of (scaled k m q) (all_products p q)

-- ---- their values

abbrev pub value_at : List ℤ → ℕ → ℤ
value_at [] i = pos 0
value_at (x ∷ xs) zero = x
value_at (x ∷ xs) (suc i) = value_at xs i

module _ (xs : List ℤ) where
  abbrev pub monomial_value : Monomial → ℤ
  monomial_value unit = pos 1
  monomial_value (times i m) = value_at xs i *ℤ monomial_value m

  abbrev pub polynomial_value : Polynomial → ℤ
  polynomial_value none = pos 0
  polynomial_value (plus k m p) = k *ℤ monomial_value m +ℤ polynomial_value p

-- ---- the operations keep the values

same_from_order : (m n : Monomial) → T (compare_is_eq (order_of m n)) → m ≡ n
same_from_order unit unit t = refl
same_from_order unit (times j n) t = absurd t
same_from_order (times i m) unit t = absurd t
same_from_order (times i m) (times j n) t = by (same_from_order m n) (compare i j) refl t
  where
    by : (T (compare_is_eq (order_of m n)) → m ≡ n) → (o : Ordering) → compare i j ≡ o → T (compare_is_eq (elim o [ Ordering.lt ↦ Ordering.lt | Ordering.eq ↦ order_of m n | Ordering.gt ↦ Ordering.gt ])) → times i m ≡ times j n
    by r Ordering.lt e u = absurd u
    by r Ordering.eq e u = ap₂ times (eqb→eq i j (subst (λ (o : Ordering). T (compare_is_eq o)) (sym e) tt)) (r u)
    by r Ordering.gt e u = absurd u

module _ (xs : List ℤ) where
  -- a factor in front of a product moves behind its first factor
  mul_swap : (a b c : ℤ) → a *ℤ (b *ℤ c) ≡ b *ℤ (a *ℤ c)
  mul_swap a b c = sym (mul_ℤ_assoc a b c) ∙ ap (λ x. x *ℤ c) (*ℤ_comm a b) ∙ mul_ℤ_assoc b a c

  product_from-value : (i : ℕ) (f : Monomial → Monomial) (m : Monomial) → ((n : Monomial) → monomial_value xs (f n) ≡ monomial_value xs m *ℤ monomial_value xs n)
      → (n : Monomial) → monomial_value xs (product_from i f n) ≡ (value_at xs i *ℤ monomial_value xs m) *ℤ monomial_value xs n
  product_from-value i f m h unit = ap (λ x. value_at xs i *ℤ x) (h unit) ∙ sym (mul_ℤ_assoc (value_at xs i) (monomial_value xs m) (pos 1))
  product_from-value i f m h (times j n) = by (product_from-value i f m h n) (leb i j)
    where
      by : monomial_value xs (product_from i f n) ≡ (value_at xs i *ℤ monomial_value xs m) *ℤ monomial_value xs n
          → (b : Bool) → monomial_value xs (elim b [ true ↦ times i (f (times j n)) | false ↦ times j (product_from i f n) ]) ≡ (value_at xs i *ℤ monomial_value xs m) *ℤ monomial_value xs (times j n)
      by rest true = ap (λ x. value_at xs i *ℤ x) (h (times j n)) ∙ sym (mul_ℤ_assoc (value_at xs i) (monomial_value xs m) (monomial_value xs (times j n)))
      by rest false = ap (λ x. value_at xs j *ℤ x) rest ∙ mul_swap (value_at xs j) (value_at xs i *ℤ monomial_value xs m) (monomial_value xs n)

  pub product_of-value : (m n : Monomial) → monomial_value xs (product_of m n) ≡ monomial_value xs m *ℤ monomial_value xs n
  product_of-value unit n = sym (one-mul_ℤ (monomial_value xs n))
  product_of-value (times i m) n = product_from-value i (product_of m) m (product_of-value m) n

  plus_if_some-value : (k : ℤ) (m : Monomial) (p : Polynomial) → polynomial_value xs (plus_if_some k m p) ≡ k *ℤ monomial_value xs m +ℤ polynomial_value xs p
  plus_if_some-value (pos zero) m p = sym (ap (λ x. x +ℤ polynomial_value xs p) (zero-*ℤ (monomial_value xs m)) ∙ +ℤ_idl (polynomial_value xs p))
  plus_if_some-value (pos (suc k)) m p = refl
  plus_if_some-value (negsuc k) m p = refl

  sum_from-value : (k : ℤ) (m : Monomial) (f : Polynomial → Polynomial) (p : Polynomial) → ((q : Polynomial) → polynomial_value xs (f q) ≡ polynomial_value xs p +ℤ polynomial_value xs q)
      → (q : Polynomial) → polynomial_value xs (sum_from k m f q) ≡ (k *ℤ monomial_value xs m +ℤ polynomial_value xs p) +ℤ polynomial_value xs q
  sum_from-value k m f p h none = ap (λ x. k *ℤ monomial_value xs m +ℤ x) (h none) ∙ sym (+ℤ_assoc (k *ℤ monomial_value xs m) (polynomial_value xs p) (pos 0))
  sum_from-value k m f p h (plus l n q) = by (sum_from-value k m f p h q) (order_of m n) refl
    where
      moved : (a b c : ℤ) → a +ℤ (b +ℤ c) ≡ b +ℤ (a +ℤ c)
      moved a b c = omega (arith, linear)

      four : (a b c d : ℤ) → (a +ℤ b) +ℤ (c +ℤ d) ≡ (a +ℤ c) +ℤ (b +ℤ d)
      four a b c d = omega (arith, linear)

      by : polynomial_value xs (sum_from k m f q) ≡ (k *ℤ monomial_value xs m +ℤ polynomial_value xs p) +ℤ polynomial_value xs q
          → (o : Ordering) → order_of m n ≡ o
          → polynomial_value xs (elim o [ Ordering.lt ↦ plus k m (f (plus l n q)) | Ordering.eq ↦ plus_if_some (k +ℤ l) m (f q) | Ordering.gt ↦ plus l n (sum_from k m f q) ])
          ≡ (k *ℤ monomial_value xs m +ℤ polynomial_value xs p) +ℤ polynomial_value xs (plus l n q)
      by rest Ordering.lt e = ap (λ x. k *ℤ monomial_value xs m +ℤ x) (h (plus l n q)) ∙ sym (+ℤ_assoc (k *ℤ monomial_value xs m) (polynomial_value xs p) (polynomial_value xs (plus l n q)))
      by rest Ordering.eq e =
          let same : m ≡ n = same_from_order m n (subst (λ (o : Ordering). T (compare_is_eq o)) (sym e) tt) in
          plus_if_some-value (k +ℤ l) m (f q)
          ∙ ap₂ ◌+ℤ◌ (add_ℤ-mul_right k l (monomial_value xs m)) (h q)
          ∙ four (k *ℤ monomial_value xs m) (l *ℤ monomial_value xs m) (polynomial_value xs p) (polynomial_value xs q)
          ∙ ap (λ (x : Monomial). (k *ℤ monomial_value xs m +ℤ polynomial_value xs p) +ℤ (l *ℤ monomial_value xs x +ℤ polynomial_value xs q)) same
      by rest Ordering.gt e = ap (λ x. l *ℤ monomial_value xs n +ℤ x) rest ∙ moved (l *ℤ monomial_value xs n) (k *ℤ monomial_value xs m +ℤ polynomial_value xs p) (polynomial_value xs q)

  pub sum_of-value : (p q : Polynomial) → polynomial_value xs (sum_of p q) ≡ polynomial_value xs p +ℤ polynomial_value xs q
  sum_of-value none q = sym (+ℤ_idl (polynomial_value xs q))
  sum_of-value (plus k m p) q = sum_from-value k m (sum_of p) p (sum_of-value p) q

  pub scaled-value : (k : ℤ) (m : Monomial) (q : Polynomial) → polynomial_value xs (scaled k m q) ≡ (k *ℤ monomial_value xs m) *ℤ polynomial_value xs q
  scaled-value k m none = sym (*ℤ-zero (k *ℤ monomial_value xs m))
  scaled-value k m (plus l n q) =
      ap₂ ◌+ℤ◌ (ap (λ x. (k *ℤ l) *ℤ x) (product_of-value m n) ∙ four k l (monomial_value xs m) (monomial_value xs n)) (scaled-value k m q)
      ∙ sym (mul_ℤ-add_left (k *ℤ monomial_value xs m) (l *ℤ monomial_value xs n) (polynomial_value xs q))
    where
      four : (a b c d : ℤ) → (a *ℤ b) *ℤ (c *ℤ d) ≡ (a *ℤ c) *ℤ (b *ℤ d)
      four a b c d = mul_ℤ_assoc a b (c *ℤ d) ∙ ap (λ x. a *ℤ x) (mul_swap b c d) ∙ sym (mul_ℤ_assoc a c (b *ℤ d))

  pub all_products-value : (p q : Polynomial) → polynomial_value xs (all_products p q) ≡ polynomial_value xs p *ℤ polynomial_value xs q
  all_products-value none q = sym (zero-*ℤ (polynomial_value xs q))
  all_products-value (plus k m p) q =
      sum_of-value (scaled k m q) (all_products p q)
      ∙ ap₂ ◌+ℤ◌ (scaled-value k m q) (all_products-value p q)
      ∙ sym (add_ℤ-mul_right (k *ℤ monomial_value xs m) (polynomial_value xs p) (polynomial_value xs q))

  pub constant-value : (k : ℤ) → polynomial_value xs (plus_if_some k unit none) ≡ k
  constant-value k = plus_if_some-value k unit none ∙ +ℤ_idr (k *ℤ pos 1) ∙ mul_ℤ-one k

  pub variable-value : (i : ℕ) → polynomial_value xs (plus (pos 1) (times i unit) none) ≡ value_at xs i
  variable-value i = +ℤ_idr (pos 1 *ℤ (value_at xs i *ℤ pos 1)) ∙ one-mul_ℤ (value_at xs i *ℤ pos 1) ∙ mul_ℤ-one (value_at xs i)

  pub negated-value : (q : Polynomial) → polynomial_value xs (scaled (negsuc 0) unit q) ≡ neg_ℤ (polynomial_value xs q)
  negated-value q = scaled-value (negsuc 0) unit q ∙ minus_one-mul (polynomial_value xs q)
    where
      minus_one-mul : (a : ℤ) → (negsuc 0 *ℤ pos 1) *ℤ a ≡ neg_ℤ a
      minus_one-mul a = omega (arith, ints)
