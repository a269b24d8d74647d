-- The numbers of the code that widens a box.
use Rattle.std.proofs.Common.{◌≡◌, ℕ, ◌+◌, ◌*◌, ◌/◌, ◌<◌, ◌≤◌, List, [], ◌∷◌, length, map, ℤ, pos, negsuc, ◌+ℤ◌, ◌-ℤ◌, ◌*ℤ◌, ◌≤ℤ◌, refl, sym, ap, ◌∙◌, subst, arith, slice_index_or}
use Rattle.std.specs.Int.{int_max, int_min}
use Rattle.std.specs.List.{Contains}
use Rattle.std.proofs.Math.Nat.{lt-mul-div-succ}
use Rattle.std.proofs.lemmas.Int.{ints, int_max_is, int_min_is}
use Rattle.std.proofs.lemmas.List.Elements.{All-contains, All-from_recursion}
use lib.IntN.{nat_abs}
use Rattle.int_algebra.proofs.Laws.{linear}
use Rattle.int_algebra.proofs.Ring.{constant, variable, ◌⊕◌, ◌⊖◌, ◌⊗◌, ring}
use Rattle.int_algebra.proofs.Orders.{at_most, natural, natural-NonNegative, given, ◌⊞◌, ◌⊠◌, ◌≼◌}
use Rattle.grid.specs.declared.shapes.Point.{Point}
use Rattle.grid.specs.declared.shapes.Tri.{Tri}
use Rattle.grid.specs.Boxes.{IsUpTo, IsInBox, IsTriInBox}
use Rattle.grid.specs.Determinants.{origin}
use Rattle.grid.specs.Planes.{Plane, normal_of}
use Rattle.grid.specs.Vectors.{Vector, dot}
use Rattle.grid.specs.Limits.{largest_side}
use Rattle.mesh_types.specs.CuttingRule.{section_plane}
use Rattle.planes.proofs.ForCallers.{abs_is}
use Rattle.cutting_rule.specs.Bounds.{AreBounds}
use Rattle.cutting_rule.specs.Spread.{IsSpread, IsLengthAtMost}

-- ---- the sum of the components is at least the length
abs_square : (z : ℤ) → z *ℤ z ≡ pos (nat_abs z) *ℤ pos (nat_abs z)
abs_square (pos n) = refl
abs_square (negsuc n) = refl

pub length-squares : (m : Vector) → dot m m ≤ℤ pos ((nat_abs m.x + nat_abs m.y + nat_abs m.z) * (nat_abs m.x + nat_abs m.y + nat_abs m.z))
unfolding dot
length-squares m =
    let v = λ (i : ℕ). variable i in
    let o = constant (pos 0) in
    let x = nat_abs m.x in
    let y = nat_abs m.y in
    let z = nat_abs m.z in
    let whole : (pos x *ℤ pos x +ℤ pos y *ℤ pos y +ℤ pos z *ℤ pos z) ≤ℤ ((pos x +ℤ pos y +ℤ pos z) *ℤ (pos x +ℤ pos y +ℤ pos z)) =
    at_most (pos x ∷ pos y ∷ pos z ∷ []) ((o ≼ v 0) ∷ (o ≼ v 1) ∷ (o ≼ v 2) ∷ []) (v 0 ⊗ v 0 ⊕ v 1 ⊗ v 1 ⊕ v 2 ⊗ v 2) ((v 0 ⊕ v 1 ⊕ v 2) ⊗ (v 0 ⊕ v 1 ⊕ v 2))
    (natural 2 ⊠ given 0 ⊠ given 1 ⊞ natural 2 ⊠ given 0 ⊠ given 2 ⊞ natural 2 ⊠ given 1 ⊠ given 2) refl (natural-NonNegative x, (natural-NonNegative y, (natural-NonNegative z, tt))) in
    subst (λ (q : ℤ). q ≤ℤ pos ((x + y + z) * (x + y + z))) (λ i. sym (abs_square m.x) i +ℤ sym (abs_square m.y) i +ℤ sym (abs_square m.z) i) whole

-- ---- a margin
pub margin-enough : (lo hi d : ℤ) (wide area : ℕ) → d ≡ hi -ℤ lo → lo ≤ℤ hi → 1 ≤ area → ((hi -ℤ lo) *ℤ pos wide) ≤ℤ ((pos (nat_abs d * wide / area + 3) -ℤ pos 2) *ℤ pos area)
margin-enough lo hi d wide area e le some =
    let n = nat_abs d * wide in
    let q = n / area in
    let up : n < area * (q + 1) = lt-mul-div-succ n (omega (arith, some)) in
    let most : pos n ≤ℤ pos (area * (q + 1)) = omega (arith, linear, up) in
    let right : pos (area * (q + 1)) ≡ (pos (q + 3) -ℤ pos 2) *ℤ pos area =
    ring (pos q ∷ pos area ∷ []) (variable 1 ⊗ (variable 0 ⊕ constant (pos 1))) ((variable 0 ⊕ constant (pos 3) ⊖ constant (pos 2)) ⊗ variable 1) refl in
    let left : pos n ≡ (hi -ℤ lo) *ℤ pos wide = ap (λ (z : ℤ). z *ℤ pos wide) (abs_is d (subst (λ (z : ℤ). pos 0 ≤ℤ z) (sym e) (omega (arith, linear, le))) ∙ e) in
    subst (λ (z : ℤ). z ≤ℤ ((pos (q + 3) -ℤ pos 2) *ℤ pos area)) left (subst (λ (z : ℤ). pos n ≤ℤ z) right most)

-- ---- the ends
pub max-least : (a b q : ℤ) → a ≤ℤ q → b ≤ℤ q → int_max a b ≤ℤ q
max-least a b q h k = let e = int_max_is a b in omega (arith, ints, e, h, k)

pub max-right : (a b : ℤ) → b ≤ℤ int_max a b
max-right a b = let e = int_max_is a b in omega (arith, ints, e)

pub min-greatest : (a b q : ℤ) → q ≤ℤ a → q ≤ℤ b → q ≤ℤ int_min a b
min-greatest a b q h k = let e = int_min_is a b in omega (arith, ints, e, h, k)

pub min-right : (a b : ℤ) → int_min a b ≤ℤ b
min-right a b = let e = int_min_is a b in omega (arith, ints, e)

pub spread-is : (lo hi : ℤ) (m wide area : ℕ) (x y : ℤ) → 2 ≤ m → ((hi -ℤ lo) *ℤ pos wide) ≤ℤ ((pos m -ℤ pos 2) *ℤ pos area) → x ≡ int_max (lo -ℤ pos m) (pos 0) → y ≡ int_min (hi +ℤ pos m) (pos largest_side) → IsSpread lo hi wide area x y
spread-is lo hi m wide area x y two enough e f = record {
  margin = m;
  least = two;
  enough = enough;
  low = λ q h k. subst (λ (z : ℤ). z ≤ℤ q) (sym e) (max-least (lo -ℤ pos m) (pos 0) q k h);
  high = λ q h k. subst (λ (z : ℤ). q ≤ℤ z) (sym f) (min-greatest (hi +ℤ pos m) (pos largest_side) q k h);
}

pub spread-at : (lo hi : ℤ) (wide area : ℕ) (l h a b c d : ℤ) → a ≡ lo → b ≡ hi → l ≡ c → h ≡ d → IsSpread a b wide area c d → IsSpread lo hi wide area l h
spread-at lo hi wide area l h a b c d e f g k s = subst (λ (A : Type 0). A) (λ j. IsSpread (e j) (f j) wide area (sym g j) (sym k j)) s

-- ---- the ends of a bounding box lie in the box
end_in : (f : Point → ℤ) (ps : List Point) (n : ℕ) (z : ℤ) → length ps ≡ 3 → IsUpTo n (f (slice_index_or ps 0 origin)) → IsUpTo n (f (slice_index_or ps 1 origin)) → IsUpTo n (f (slice_index_or ps 2 origin)) → Contains (map f ps) z → IsUpTo n z
end_in f [] n z l p q r h = absurd (omega (arith, l))
end_in f (a ∷ []) n z l p q r h = absurd (omega (arith, l))
end_in f (a ∷ b ∷ []) n z l p q r h = absurd (omega (arith, l))
end_in f (a ∷ b ∷ c ∷ d ∷ ps) n z l p q r h = absurd (omega (arith, l))
end_in f (a ∷ b ∷ c ∷ []) n z l p q r h = All-contains (IsUpTo n) (f a ∷ f b ∷ f c ∷ []) z (All-from_recursion (IsUpTo n) (f a ∷ f b ∷ f c ∷ []) (p, (q, (r, tt)))) h

pub lo-IsInBox : (t : Tri) (n : ℕ) (lo hi : Point) → length t.0 ≡ 3 → IsTriInBox n t → AreBounds lo hi t.0 → IsInBox n lo
lo-IsInBox t n lo hi l h b = record {
  x_in = end_in (λ (p : Point). p.x) t.0 n lo.x l h.a_in.x_in h.b_in.x_in h.c_in.x_in b.x_ends.lo_among;
  y_in = end_in (λ (p : Point). p.y) t.0 n lo.y l h.a_in.y_in h.b_in.y_in h.c_in.y_in b.y_ends.lo_among;
  z_in = end_in (λ (p : Point). p.z) t.0 n lo.z l h.a_in.z_in h.b_in.z_in h.c_in.z_in b.z_ends.lo_among;
}

pub hi-IsInBox : (t : Tri) (n : ℕ) (lo hi : Point) → length t.0 ≡ 3 → IsTriInBox n t → AreBounds lo hi t.0 → IsInBox n hi
hi-IsInBox t n lo hi l h b = record {
  x_in = end_in (λ (p : Point). p.x) t.0 n hi.x l h.a_in.x_in h.b_in.x_in h.c_in.x_in b.x_ends.hi_among;
  y_in = end_in (λ (p : Point). p.y) t.0 n hi.y l h.a_in.y_in h.b_in.y_in h.c_in.y_in b.y_ends.hi_among;
  z_in = end_in (λ (p : Point). p.z) t.0 n hi.z l h.a_in.z_in h.b_in.z_in h.c_in.z_in b.z_ends.hi_among;
}

pub longest-of : (t : Tri) (m : Plane) (area : ℕ) → m ≡ section_plane t → ((n : ℕ) → 1 ≤ n → IsLengthAtMost m.normal n → area ≤ n) → (n : ℕ) → 1 ≤ n → IsLengthAtMost (normal_of t) n → area ≤ n
unfolding section_plane
longest-of t m area e h = subst (λ (k : Plane). (n : ℕ) → 1 ≤ n → IsLengthAtMost k.normal n → area ≤ n) e h
