-- Numbers below 2^32 as the digits of one: the order of lists is that of their numbers.
use Rattle.std.proofs.Common.{◌≡◌, ℕ, ◌+◌, ◌*◌, ◌^◌, ◌<◌, ◌≤◌, ◌&&◌, ◌||◌, nat_eq, nat_lt, List, [], ◌∷◌, length, refl, ap, subst, sym, ◌∙◌, arith, inl, inr, mul-le-mul}
use Rattle.std.specs.declared.cmp.Ordering.{Ordering}
use Rattle.std.specs.List.{AllByRecursion as Each}
use Rattle.std.specs.Ordering.{is_lt, nat_cmp}
use Rattle.std.proofs.lemmas.Bool.{cases_order}
use Rattle.std.proofs.lemmas.Bool.Decides.{nat_tests}
use Rattle.std.proofs.lemmas.List.Elements.{recursion_from_All}
use Rattle.std.proofs.lemmas.Nat.{pow-add}
use Rattle.grid.specs.Meshes.{is_below}
use Rattle.cutting_rule.specs.Packing.{IsPacked, packed}

-- the number with the lower first digit is the lower one
first_less : (a b m p q : ℕ) → a < b → p < m → a * m + p < b * m + q
first_less a b m p q lt h =
    let le : (a + 1) * m ≤ b * m = mul-le-mul (omega (arith, lt)) (omega arith) in
    omega (arith, le, h)

packed-fits : (x : List ℕ) → Each (λ n. n < 2 ^ 32) x → packed x < 2 ^ (32 * length x)
packed-fits [] h = omega arith
packed-fits (n ∷ x) h =
    let more : 32 * length (n ∷ x) ≡ 32 + 32 * length x = omega arith in
    let power : 2 ^ (32 * length (n ∷ x)) ≡ 2 ^ 32 * 2 ^ (32 * length x) = ap (λ k. 2 ^ k) more ∙ pow-add 2 32 (32 * length x) in
    let less : packed (n ∷ x) < 2 ^ 32 * 2 ^ (32 * length x) + 0 = first_less n (2 ^ 32) (2 ^ (32 * length x)) (packed x) 0 h.0 (packed-fits x h.1) in
    omega (arith, power, less)

-- one more digit
digit-below : (a b m p q : ℕ) → p < m → q < m → nat_lt (a * m + p) (b * m + q) ≡ (nat_lt a b || (nat_eq a b && nat_lt p q))
digit-below a b m p q h k = elim (cases_order a b) [
  | inl e ↦ subst (λ c. nat_lt (a * m + p) (c * m + q) ≡ (nat_lt a c || (nat_eq a c && nat_lt p q))) e (grind (arith, nat_tests))
  | inr n ↦ elim n [
    | inl lt ↦ let less = first_less a b m p q lt h in grind (arith, nat_tests)
    | inr lt ↦ let less = first_less b a m q p lt k in grind (arith, nat_tests)
  ]
]

packed-below : (x y : List ℕ) → length x ≡ length y → Each (λ n. n < 2 ^ 32) x → Each (λ n. n < 2 ^ 32) y → nat_lt (packed x) (packed y) ≡ is_below x y
packed-below [] [] e h k = refl
packed-below [] (b ∷ y) e h k = cc e
packed-below (a ∷ x) [] e h k = cc e
packed-below (a ∷ x) (b ∷ y) e h k =
    let same : length x ≡ length y = omega (arith, e) in
    let room : packed y < 2 ^ (32 * length x) = subst (λ n. packed y < 2 ^ (32 * n)) (sym same) (packed-fits y k.1) in
    ap (λ n. nat_lt (packed (a ∷ x)) (b * 2 ^ (32 * n) + packed y)) (sym same)
    ∙ (digit-below a b (2 ^ (32 * length x)) (packed x) (packed y) (packed-fits x h.1) room
    ∙ ap (λ s. nat_lt a b || (nat_eq a b && s)) (packed-below x y same h.1 k.1))

is_lt-nat_cmp : (p q : ℕ) → is_lt (nat_cmp p q) ≡ nat_lt p q
is_lt-nat_cmp p q = grind (arith, nat_tests)

-- what comparing the packed numbers tells of the lists
pub packed-order : (n : ℕ) (x y : List ℕ) (p q : ℕ) (o : Ordering) → IsPacked n x p → IsPacked n y q → o ≡ nat_cmp p q → is_lt o ≡ is_below x y
packed-order n x y p q o h k e =
    ap is_lt e
    ∙ (is_lt-nat_cmp p q
    ∙ ((λ i. nat_lt (h.number_is i) (k.number_is i))
    ∙ packed-below x y (h.many_are ∙ sym k.many_are) (recursion_from_All _ x h.fit) (recursion_from_All _ y k.fit)))
