-- The sides that points share, from the bits of their sides.
use Rattle.std.proofs.Common.{◌≡◌, ◌≢◌, ℕ, zero, suc, ◌*◌, ◌/◌, ◌%◌, ◌^◌, ◌<◌, ◌↔◌, min, Bool, true, false, true≢false, ℤ, pos, negsuc, not, nat_eq, IsBitSet, bit_and, List, [], ◌∷◌, length, get_or, ap, sym, ◌∙◌, subst, inl, inr, arith}
use Rattle.std.specs.Int.{bit_at}
use Rattle.std.specs.Bool.{IsTrue}
use Rattle.std.proofs.lemmas.Bool.{cases_Bool, cases_eq, cases_lt, both_ways, not-true, not_from_false, ne_eqb, eq-eqb, false_from_ne_true}
use Rattle.std.proofs.lemmas.Nat.{pow_pos, and_le_l}
use Rattle.std.proofs.lemmas.Nat.Bits.{and_pow, bit_at-suc, bit_at_lowest, bit_at-zero, bit_at-lt, bit_at_and, bit_at_above}
use native.Mathlib.Nat.{pow-suc}
use Rattle.grid.specs.declared.shapes.Point.{Point}
use Rattle.grid.specs.Boxes.{Axis, along_x, along_y, along_z, Side, IsOn, IsOnOneSide}
use Rattle.grid.specs.Determinants.{point_at}
use Rattle.grid.specs.Simplices.{is_rotation}
use Rattle.grid.proofs.ForCallers.{has3-cases, side_at, side_bits-IsOn}
use Rattle.face_table.proofs.RotationLemmas.{has3-first, has3-second, has3-third, has-rotation}
use Rattle.grid.specs.SideBits.{bit_of, number_of, side_bits}
use Rattle.face_table.specs.declared.pairs.Paired.{Paired}
use Rattle.face_table.specs.Pairing.{LiesOn, LieOnOneSide, IsPairedBy, IsPairing}
use Rattle.face_table.proofs.PassLemmas.{IsPairedBy-same}
use Rattle.std.proofs.Math.IntN.{neg_ℤ, neg_ℤ-neg_ℤ}
use Rattle.std.specs.Ordering.{int_eq}
use Rattle.std.proofs.lemmas.Bool.Decides.{Decides-int_eq}

-- a number above 0 has a bit
bit-found : (k n : ℕ) → n < 2 ^ k → n ≢ 0 → (i : ℕ) × (bit_at n i ≢ 0)
bit-found zero n l h = absurd (h (omega arith))
bit-found (suc k) n l h = elim (cases_eq (n % 2) 0) [
  | inl e ↦ let r = bit-found k (n / 2) (omega (arith, pow-suc 2 k)) (λ z. h (omega arith)) in (suc r.0, λ z. r.1 (sym (bit_at-suc n r.0) ∙ z))
  | inr e ↦ (0, λ z. e (sym (bit_at_lowest n) ∙ z))
]

-- a bit as a test and as a number
set-from : (n k : ℕ) → bit_at n k ≢ 0 → IsBitSet n k
set-from n k h z =
    let one : bit_at n k ≡ 1 = omega (arith, bit_at-lt n k, h) in
    absurd (omega (arith, pow_pos k, sym (ap (λ d. d * 2 ^ k) one) ∙ sym (and_pow n k) ∙ z))

set-to : (n k : ℕ) → IsBitSet n k → bit_at n k ≢ 0
set-to n k h z = h (and_pow n k ∙ ap (λ d. d * 2 ^ k) z ∙ omega arith)

-- the bits x are those of the sides on which p lies
abbrev AreSidesOf : ℤ → Point → ℕ → Type 0
AreSidesOf l p x = (s : Side) → IsBitSet x (bit_of s) ↔ LiesOn l s p

-- ---- a box below 0 is one above 0, turned round
abbrev turned : Point → Point
turned p = record { x = neg_ℤ p.x; y = neg_ℤ p.y; z = neg_ℤ p.z }

int_eq-neg : (x y : ℤ) → int_eq x y ≡ int_eq (neg_ℤ x) (neg_ℤ y)
int_eq-neg x y = elim (cases_Bool (int_eq x y)) [
  | inl t ↦ t ∙ sym ((Decides-int_eq (neg_ℤ x) (neg_ℤ y)).1 (ap neg_ℤ ((Decides-int_eq x y).0 t)))
  | inr f ↦ f ∙ sym (false_from_ne_true (int_eq (neg_ℤ x) (neg_ℤ y)) (λ t. true≢false (sym ((Decides-int_eq x y).1 (neg-injective x y ((Decides-int_eq (neg_ℤ x) (neg_ℤ y)).0 t))) ∙ f)))
] where
  neg-injective : (a b : ℤ) → neg_ℤ a ≡ neg_ℤ b → a ≡ b
  neg-injective a b e = sym (neg_ℤ-neg_ℤ a) ∙ ap neg_ℤ e ∙ neg_ℤ-neg_ℤ b

side_bits-turned : (z : ℤ) (p : Point) → side_bits z p ≡ side_bits (neg_ℤ z) (turned p)
side_bits-turned z p i = number_of (int_eq-neg p.x (pos 0) i ∷ int_eq-neg p.x z i ∷ int_eq-neg p.y (pos 0) i ∷ int_eq-neg p.y z i ∷ int_eq-neg p.z (pos 0) i ∷ int_eq-neg p.z z i ∷ [])

-- the bits of a point's sides are those of the sides on which it lies
side_bits-LiesOn : (z : ℤ) (p : Point) → AreSidesOf z p (side_bits z p)
side_bits-LiesOn (pos l) p s = side_bits-IsOn l p s
side_bits-LiesOn (negsuc n) p s =
    let on = side_bits-IsOn (suc n) (turned p) s in
    let same = side_bits-turned (negsuc n) p in (
      λ set. turned-from s (on.0 (subst (λ m. IsBitSet m (bit_of s)) same set)),
      λ lies. subst (λ m. IsBitSet m (bit_of s)) (sym same) (on.1 (turned-to s lies)),
    )
  where
    back : (x y : ℤ) → neg_ℤ x ≡ y → x ≡ neg_ℤ y
    back x y e = sym (neg_ℤ-neg_ℤ x) ∙ ap neg_ℤ e

    turned-from : (t : Side) → IsOn (suc n) t (turned p) → LiesOn (negsuc n) t p
    turned-from t = by t.axis t.is_far where
      by : (a : Axis) (f : Bool) → IsOn (suc n) (record { axis = a; is_far = f }) (turned p) → LiesOn (negsuc n) (record { axis = a; is_far = f }) p
      by along_x true e = back p.x (pos (suc n)) e
      by along_x false e = back p.x (pos 0) e
      by along_y true e = back p.y (pos (suc n)) e
      by along_y false e = back p.y (pos 0) e
      by along_z true e = back p.z (pos (suc n)) e
      by along_z false e = back p.z (pos 0) e

    turned-to : (t : Side) → LiesOn (negsuc n) t p → IsOn (suc n) t (turned p)
    turned-to t = by t.axis t.is_far where
      by : (a : Axis) (f : Bool) → LiesOn (negsuc n) (record { axis = a; is_far = f }) p → IsOn (suc n) (record { axis = a; is_far = f }) (turned p)
      by along_x true e = ap neg_ℤ e
      by along_x false e = ap neg_ℤ e
      by along_y true e = ap neg_ℤ e
      by along_y false e = ap neg_ℤ e
      by along_z true e = ap neg_ℤ e
      by along_z false e = ap neg_ℤ e

pub are-sides : (y z : ℤ) (p : Point) (n : ℕ) → y ≡ z → n ≡ side_bits y p → AreSidesOf z p n
are-sides y z p n same is s = subst (λ m. IsBitSet m (bit_of s) ↔ LiesOn z s p) (sym (is ∙ ap (λ w. side_bits w p) same)) (side_bits-LiesOn z p s)

-- a side on which three points lie
pub record HaveSide (l : ℤ) (p q r : Point) : Type 0 where
  pub side : Side
  pub first : LiesOn l side p
  pub second : LiesOn l side q
  pub third : LiesOn l side r

all_bits : (x y z k : ℕ) → bit_at (bit_and (bit_and x y) z) k ≡ min (min (bit_at x k) (bit_at y k)) (bit_at z k)
all_bits x y z k = bit_at_and (bit_and x y) z k ∙ ap (λ m. min m (bit_at z k)) (bit_at_and x y k)

module _ (l : ℤ) (x y z : ℕ) (p q r : Point) (hp : AreSidesOf l p x) (hq : AreSidesOf l q y) (hr : AreSidesOf l r z) where
  pub share-from : x < 64 → bit_and (bit_and x y) z ≢ 0 → HaveSide l p q r
  share-from few h =
      let n = bit_and (bit_and x y) z in
      let small : n < 2 ^ 6 = omega (arith, few, and_le_l (bit_and x y) z, and_le_l x y) in
      let found = bit-found 6 n small h in
      let below : found.0 < 6 = elim (cases_lt found.0 6) [ inl e ↦ e | inr e ↦ absurd (found.1 (bit_at_above n 6 found.0 small e)) ] in
      let s = side_at found.0 below in
      let set : bit_at n (bit_of s.0) ≢ 0 = subst (λ i. bit_at n i ≢ 0) (sym s.1) found.1 in
      let e = all_bits x y z (bit_of s.0) in
      record {
        side = s.0;
        first = (hp s.0).0 (set-from x (bit_of s.0) (omega (arith, e, set)));
        second = (hq s.0).0 (set-from y (bit_of s.0) (omega (arith, e, set)));
        third = (hr s.0).0 (set-from z (bit_of s.0) (omega (arith, e, set)));
      }

  pub share-to : HaveSide l p q r → bit_and (bit_and x y) z ≢ 0
  share-to h none =
      let k = bit_of h.side in
      let a = set-to x k ((hp h.side).1 h.first) in
      let b = set-to y k ((hq h.side).1 h.second) in
      let c = set-to z k ((hr h.side).1 h.third) in
      let zero_bit : bit_at (bit_and (bit_and x y) z) k ≡ 0 = ap (λ n. bit_at n k) none ∙ bit_at-zero k in
      absurd (omega (arith, all_bits x y z k, zero_bit, a, b, c))

-- ---- the corners of a face
module _ (points : List Point) (l : ℤ) where
  -- the sides x, y, z of the corners
  pub record AreCornerSides (f : List ℕ) (x y z : ℕ) : Type 0 where
    pub first : AreSidesOf l (point_at points (get_or f 0 0)) x
    pub second : AreSidesOf l (point_at points (get_or f 1 0)) y
    pub third : AreSidesOf l (point_at points (get_or f 2 0)) z

  pub share-side : (f : List ℕ) (x y z : ℕ) → length f ≡ 3 → x < 64 → AreCornerSides f x y z → IsTrue (not (nat_eq (bit_and (bit_and x y) z) 0)) ↔ LieOnOneSide points l f
  share-side (a ∷ b ∷ c ∷ []) x y z e few h =
      let n = bit_and (bit_and x y) z in (
        λ t. let s = share-from l x y z (point_at points a) (point_at points b) (point_at points c) h.first h.second h.third few (λ none. both_ways (nat_eq n 0) (not-true (nat_eq n 0) t) (eq-eqb n 0 none)) in
            record {
              side = s.side;
              corners = λ d w. elim (has3-cases a b c d w) [
                | inl i ↦ subst (λ m. LiesOn l s.side (point_at points m)) i s.first
                | inr (inl i) ↦ subst (λ m. LiesOn l s.side (point_at points m)) i s.second
                | inr (inr i) ↦ subst (λ m. LiesOn l s.side (point_at points m)) i s.third
              ];
            },
        λ s. not_from_false (nat_eq n 0) (ne_eqb n 0 (share-to l x y z (point_at points a) (point_at points b) (point_at points c) h.first h.second h.third (record {
          side = s.side;
          first = s.corners a (has3-first a b c);
          second = s.corners b (has3-second a b c);
          third = s.corners c (has3-third a b c);
        }))),
      )
  share-side [] x y z e few h = absurd (omega arith)
  share-side (a ∷ []) x y z e few h = absurd (omega arith)
  share-side (a ∷ b ∷ []) x y z e few h = absurd (omega arith)
  share-side (a ∷ b ∷ c ∷ d ∷ f) x y z e few h = absurd (omega arith)

-- a rotation has the same corners
pub LieOnOneSide-rotation : (points : List Point) (z : ℤ) (f g : List ℕ) → is_rotation g f ≡ true → LieOnOneSide points z f → LieOnOneSide points z g
LieOnOneSide-rotation points z f g rotated s = record { side = s.side; corners = λ c w. s.corners c (has-rotation g f c rotated w) }

-- a pairing by the sides of a box above 0
pub IsPairedBy-pos : (points : List Point) (z : ℤ) (l : ℕ) (faces : List (List ℕ)) (paired : Paired) → z ≡ pos l → IsPairedBy (LieOnOneSide points z) faces paired → IsPairing points l faces paired
IsPairedBy-pos points z l faces paired e h = IsPairedBy-same (LieOnOneSide points (pos l)) (IsOnOneSide points l) faces paired same (subst (λ y. IsPairedBy (LieOnOneSide points y) faces paired) e h) where
  same : (f : List ℕ) → LieOnOneSide points (pos l) f ↔ IsOnOneSide points l f
  same f = (λ s. record { side = s.side; corners = s.corners }, λ s. record { side = s.side; corners = s.corners })
