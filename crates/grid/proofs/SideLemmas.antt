-- The bits of a number that is made of bits, and those of the sides of the box.
use Rattle.std.proofs.Common.{◌≡◌, ◌<◌, ◌↔◌, ℕ, zero, suc, ◌+◌, ◌*◌, ◌/◌, ◌%◌, ◌^◌, Bool, true, false, IsBitSet, if◌then◌else◌, ℤ, pos, List, [], ◌∷◌, bit_and, refl, sym, ap, ◌∙◌, arith, int_eq, true≢false}
use Rattle.std.proofs.Math.Nat.{zero-mul}
use Rattle.std.specs.Int.{bit_at}
use Rattle.std.proofs.lemmas.Nat.{pow_pos}
use Rattle.std.proofs.lemmas.Nat.Bits.{and_pow, bit_at-suc, bit_at_lowest, bit_at-zero}
use Rattle.std.proofs.lemmas.Bool.Decides.{Decides-int_eq}
use Rattle.grid.specs.declared.shapes.Point.{Point}
use Rattle.grid.specs.Boxes.{Axis, along_x, along_y, along_z, Side, IsOn}
use Rattle.grid.specs.SideBits.{bit_of, number_of, side_bits}

abbrev nth : List Bool → ℕ → Bool
nth [] k = false
nth (b ∷ bs) zero = b
nth (b ∷ bs) (suc k) = nth bs k

abbrev digit : Bool → ℕ
digit b = if b then 1 else 0

half : (b : Bool) (n : ℕ) → (digit b + 2 * n) / 2 ≡ n
half true n = omega arith
half false n = omega arith

lowest : (b : Bool) (n : ℕ) → (digit b + 2 * n) % 2 ≡ digit b
lowest true n = omega arith
lowest false n = omega arith

bit_at-number_of : (bs : List Bool) (k : ℕ) → bit_at (number_of bs) k ≡ digit (nth bs k)
bit_at-number_of [] k = bit_at-zero k
bit_at-number_of (b ∷ bs) zero = bit_at_lowest (number_of (b ∷ bs)) ∙ lowest b (number_of bs)
bit_at-number_of (b ∷ bs) (suc k) = bit_at-suc (number_of (b ∷ bs)) k ∙ ap (λ n. bit_at n k) (half b (number_of bs)) ∙ bit_at-number_of bs k

digit-IsBitSet : (b : Bool) (n k : ℕ) → bit_and n (2 ^ k) ≡ digit b * 2 ^ k → IsBitSet n k ↔ (b ≡ true)
digit-IsBitSet true n k e =
    let some : 0 < 2 ^ k = pow_pos k in
    (λ h. refl, λ h z. omega arith)
digit-IsBitSet false n k e = (λ h. absurd (h (e ∙ zero-mul (2 ^ k))), λ h. absurd (true≢false (sym h)))

number_of-IsBitSet : (bs : List Bool) (k : ℕ) → IsBitSet (number_of bs) k ↔ (nth bs k ≡ true)
number_of-IsBitSet bs k = digit-IsBitSet (nth bs k) (number_of bs) k (and_pow (number_of bs) k ∙ ap (λ d. d * 2 ^ k) (bit_at-number_of bs k))

-- a bit is set just where the point lies on its side
on_side : (bs : List Bool) (k : ℕ) (x y : ℤ) → nth bs k ≡ int_eq x y → IsBitSet (number_of bs) k ↔ (x ≡ y)
on_side bs k x y e =
    let set = number_of-IsBitSet bs k in
    let same = Decides-int_eq x y in
    (λ h. same.0 (sym e ∙ set.0 h), λ h. set.1 (e ∙ same.1 h))

pub side_bits-IsOn : (l : ℕ) (p : Point) (s : Side) → IsBitSet (side_bits (pos l) p) (bit_of s) ↔ IsOn l s p
side_bits-IsOn l p s = by_axis s.axis s.is_far
  where
    tests : List Bool
    tests = int_eq p.x (pos 0) ∷ int_eq p.x (pos l) ∷ int_eq p.y (pos 0) ∷ int_eq p.y (pos l) ∷ int_eq p.z (pos 0) ∷ int_eq p.z (pos l) ∷ []

    by_axis : (a : Axis) (f : Bool) → IsBitSet (number_of tests) (bit_of (record { axis = a; is_far = f })) ↔ IsOn l (record { axis = a; is_far = f }) p
    by_axis along_x false = on_side tests 0 p.x (pos 0) refl
    by_axis along_x true = on_side tests 1 p.x (pos l) refl
    by_axis along_y false = on_side tests 2 p.y (pos 0) refl
    by_axis along_y true = on_side tests 3 p.y (pos l) refl
    by_axis along_z false = on_side tests 4 p.z (pos 0) refl
    by_axis along_z true = on_side tests 5 p.z (pos l) refl

-- the bits of the two sides across one axis
abbrev ends : ℤ → ℤ → ℕ
ends x l = number_of (int_eq x (pos 0) ∷ int_eq x l ∷ [])

joined : (a b c d e f : Bool) → number_of (a ∷ b ∷ []) + 4 * number_of (c ∷ d ∷ []) + 16 * number_of (e ∷ f ∷ []) ≡ number_of (a ∷ b ∷ c ∷ d ∷ e ∷ f ∷ [])
joined a b c d e f = omega arith

-- the same from numbers that are read as signed ones
pub side_bits-ends : (p : Point) (l x y z s : ℤ) (m n k : ℕ) → x ≡ p.x → y ≡ p.y → z ≡ p.z → s ≡ l → m ≡ ends x s → n ≡ ends y s → k ≡ ends z s → m + 4 * n + 16 * k ≡ side_bits l p
side_bits-ends p l x y z s m n k ex ey ez es em en ek =
    (λ i. em i + 4 * en i + 16 * ek i) ∙ (λ i. ends (ex i) (es i) + 4 * ends (ey i) (es i) + 16 * ends (ez i) (es i)) ∙ joined _ _ _ _ _ _

-- the bits of the sides are 0 to 5, each that of one side
pub bit-below : (s : Side) → bit_of s < 6
bit-below s = by s.axis s.is_far
  where
    by : (a : Axis) (f : Bool) → bit_of (record { axis = a; is_far = f }) < 6
    by along_x false = omega arith
    by along_x true = omega arith
    by along_y false = omega arith
    by along_y true = omega arith
    by along_z false = omega arith
    by along_z true = omega arith

pub side_at : (k : ℕ) → k < 6 → (s : Side) × (bit_of s ≡ k)
side_at zero l = (record { axis = along_x; is_far = false }, refl)
side_at (suc zero) l = (record { axis = along_x; is_far = true }, refl)
side_at (suc (suc zero)) l = (record { axis = along_y; is_far = false }, refl)
side_at (suc (suc (suc zero))) l = (record { axis = along_y; is_far = true }, refl)
side_at (suc (suc (suc (suc zero)))) l = (record { axis = along_z; is_far = false }, refl)
side_at (suc (suc (suc (suc (suc zero))))) l = (record { axis = along_z; is_far = true }, refl)
side_at (suc (suc (suc (suc (suc (suc k)))))) l = absurd (omega arith)
