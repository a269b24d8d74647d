-- What a certificate covers lies two steps inside the box, where the triangles lie two steps more than the envelope inside it.
use Rattle.std.proofs.Common.{◌≡◌, ℕ, zero, suc, ◌+◌, ◌*◌, ◌^◌, List, [], ◌∷◌, ℤ, pos, ◌+ℤ◌, ◌-ℤ◌, ◌*ℤ◌, ◌≤ℤ◌, ◌<ℤ◌, All, Bool, true, false, cond, refl, ap, ◌∙◌, add-one, inl, inr, arith}
use Rattle.std.proofs.lemmas.Int.{ints, by_lt_z}
use native.Mathlib.Nat.{pow-suc, pow-zero}
use Rattle.int_algebra.proofs.Ring.{◌⊕◌, ◌⊖◌, ◌⊗◌, constant}
use Rattle.int_algebra.proofs.Orders.{below, one_more, given, ◌⊞◌, ◌⊠◌, ◌≼◌, natural-NonNegative}
use Rattle.grid.proofs.ForCallers.{at_, zero_, one_}
use Rattle.grid.specs.declared.shapes.Point.{Point}
use Rattle.grid.specs.declared.shapes.Tri.{Tri}
use Rattle.grid.specs.Boxes.{Axis, along_x, along_y, along_z, coordinate, Side, IsOn, corner_of}
use Rattle.grid.specs.Envelopes.{triangle_at}
use Rattle.grid.specs.Near.{Near}
use Rattle.mesh_types.specs.declared.cert.Cert.{Cert, out-Cert}
use Rattle.mesh_types.specs.declared.cert.Cert.TheOpen.{Cert-F}
use Rattle.mesh_types.specs.declared.cert.Cert.TheOpen as open_cert
use Rattle.mesh_types.specs.Certificates.{pieces, Each, Covers, CoversLevel}
use Rattle.tri_distance.specs.Apart.{IsApart}
use Rattle.tri_distance.proofs.ForCallers.{x_apart, y_apart, z_apart}
use Rattle.cover.proofs.ForCallers.{parts_of_four}
use Rattle.soup.specs.Placement.{IsInside, IsTriInside}

-- at least two steps inside 0 and l, at the scale 2 ^ k
pub record IsTwoInside (l k : ℕ) (z : ℤ) : Type 0 where
  pub low : pos (2 * 2 ^ k) ≤ℤ z
  pub high : (z +ℤ pos (2 * 2 ^ k)) ≤ℤ pos (l * 2 ^ k)

pub record IsPointTwoInside (l k : ℕ) (p : Point) : Type 0 where
  pub x_in : IsTwoInside l k p.x
  pub y_in : IsTwoInside l k p.y
  pub z_in : IsTwoInside l k p.z

-- ---- one coordinate
-- m is the margin of the corners, r the reach and t the scale
low_apart : (z a b c t r m : ℤ) → pos 0 ≤ℤ t → z <ℤ (pos 2 *ℤ t) → m ≤ℤ a → m ≤ℤ b → m ≤ℤ c → (r +ℤ pos 2 *ℤ t) ≤ℤ (t *ℤ m) → IsApart z t r a b c
low_apart z a b c t r m ht hz ha hb hc hr = inl (one a ha, one b hb, one c hc)
  where
    one : (q : ℤ) → m ≤ℤ q → (z +ℤ r) <ℤ (t *ℤ q)
    one q hq =
        let x = λ (i : ℕ). at_ i in
        let two = constant (pos 2) in
        below (z ∷ q ∷ t ∷ r ∷ m ∷ []) ((zero_ ≼ x 2) ∷ (x 4 ≼ x 1) ∷ (x 3 ⊕ two ⊗ x 2 ≼ x 2 ⊗ x 4) ∷ (x 0 ⊕ one_ ≼ two ⊗ x 2) ∷ []) (x 0 ⊕ x 3) (x 2 ⊗ x 1)
        (given 0 ⊠ given 1 ⊞ given 2 ⊞ given 3) refl (ht, (hq, (hr, (one_more _ _ hz, tt))))

high_apart : (z a b c t r m l : ℤ) → pos 0 ≤ℤ t → (l *ℤ t) <ℤ (z +ℤ pos 2 *ℤ t) → (a +ℤ m) ≤ℤ l → (b +ℤ m) ≤ℤ l → (c +ℤ m) ≤ℤ l → (r +ℤ pos 2 *ℤ t) ≤ℤ (t *ℤ m) → IsApart z t r a b c
high_apart z a b c t r m l ht hz ha hb hc hr = inr (one a ha, one b hb, one c hc)
  where
    one : (q : ℤ) → (q +ℤ m) ≤ℤ l → (t *ℤ q) <ℤ (z -ℤ r)
    one q hq =
        let x = λ (i : ℕ). at_ i in
        let two = constant (pos 2) in
        below (z ∷ q ∷ t ∷ r ∷ m ∷ l ∷ []) ((zero_ ≼ x 2) ∷ (x 1 ⊕ x 4 ≼ x 5) ∷ (x 3 ⊕ two ⊗ x 2 ≼ x 2 ⊗ x 4) ∷ (x 5 ⊗ x 2 ⊕ one_ ≼ x 0 ⊕ two ⊗ x 2) ∷ []) (x 2 ⊗ x 1) (x 0 ⊖ x 3)
        (given 0 ⊠ given 1 ⊞ given 2 ⊞ given 3) refl (ht, (hq, (hr, (one_more _ _ hz, tt))))

-- the reach and two steps are the margin
reach : (e n : ℕ) → (pos (e * n) +ℤ pos 2 *ℤ pos n) ≤ℤ (pos n *ℤ pos (e + 2))
reach e n =
    let same : e * n + 2 * n ≡ n * (e + 2) = grind arith in
    omega (arith, ints, same)

-- a coordinate that is not apart lies two steps inside
not_apart : (l e k : ℕ) (z a b c : ℤ) → IsInside (e + 2) l a → IsInside (e + 2) l b → IsInside (e + 2) l c → (IsApart z (pos (2 ^ k)) (pos (e * 2 ^ k)) a b c → ⊥) → IsTwoInside l k z
not_apart l e k z a b c ha hb hc none =
    let n = 2 ^ k in
    record {
      low = by_lt_z z (pos (2 * n)) (λ h. absurd (none (low_apart z a b c (pos n) (pos (e * n)) (pos (e + 2)) (natural-NonNegative n) h ha.low hb.low hc.low (reach e n)))) (λ h. h);
      high = by_lt_z (pos (l * n)) (z +ℤ pos (2 * n)) (λ h. absurd (none (high_apart z a b c (pos n) (pos (e * n)) (pos (e + 2)) (pos l) (natural-NonNegative n) h ha.high hb.high hc.high (reach e n)))) (λ h. h);
    }

-- ---- points near a triangle
pub near_inside : (l e k : ℕ) (p : Point) (t : Tri) → IsTriInside (e + 2) l t → Near p k t e → IsPointTwoInside l k p
near_inside l e k p t h near =
    let a = corner_of t 0 in
    let b = corner_of t 1 in
    let c = corner_of t 2 in
    record {
      x_in = not_apart l e k p.x a.x b.x c.x h.a_inside.x_inside h.b_inside.x_inside h.c_inside.x_inside (λ g. x_apart p k e a b c g near);
      y_in = not_apart l e k p.y a.y b.y c.y h.a_inside.y_inside h.b_inside.y_inside h.c_inside.y_inside (λ g. y_apart p k e a b c g near);
      z_in = not_apart l e k p.z a.z b.z c.z h.a_inside.z_inside h.b_inside.z_inside h.c_inside.z_inside (λ g. z_apart p k e a b c g near);
    }

-- ---- certificates
-- the corners lie two steps inside
pub record IsTriTwoInside (l k : ℕ) (f : Tri) : Type 0 where
  pub a_in : IsPointTwoInside l k (corner_of f 0)
  pub b_in : IsPointTwoInside l k (corner_of f 1)
  pub c_in : IsPointTwoInside l k (corner_of f 2)

half : (l k : ℕ) (z : ℤ) → IsTwoInside l (k + 1) (z +ℤ z) → IsTwoInside l k z
half l k z h =
    let double : 2 ^ (k + 1) ≡ 2 ^ k * 2 = ap (λ i. 2 ^ i) (add-one k) ∙ pow-suc 2 k in
    let all : l * 2 ^ (k + 1) ≡ l * 2 ^ k + l * 2 ^ k = ap (λ n. l * n) double ∙ twice l (2 ^ k) in
    record { low = omega (arith, ints, h.low, double); high = omega (arith, ints, h.high, double, all) }
  where
    twice : (l n : ℕ) → l * (n * 2) ≡ l * n + l * n
    twice l n = grind arith

half_point : (l k : ℕ) (p : Point) → IsPointTwoInside l (k + 1) (record { x = p.x +ℤ p.x; y = p.y +ℤ p.y; z = p.z +ℤ p.z }) → IsPointTwoInside l k p
half_point l k p h = record { x_in = half l k p.x h.x_in; y_in = half l k p.y h.y_in; z_in = half l k p.z h.z_in }

module _ (triangles : List Tri) (e l : ℕ) (inside : All (IsTriInside (e + 2) l) triangles) where
  top : (k : ℕ) (f : Tri) (parts_are : List Cert → Type 0) → ((parts : List Cert) → parts_are parts → IsTriTwoInside l k f) → (x : Cert-F Cert) → CoversLevel triangles e k f parts_are x → IsTriTwoInside l k f
  top k f parts_are split (open_cert.Leaf t) h =
      let tri = triangle_at triangles t in
      let at : IsTriInside (e + 2) l tri = inside t _ h.in_range in
      record {
        a_in = near_inside l e k (corner_of f 0) tri at h.near.a_near;
        b_in = near_inside l e k (corner_of f 1) tri at h.near.b_near;
        c_in = near_inside l e k (corner_of f 2) tri at h.near.c_near;
      }
  top k f parts_are split (open_cert.Split parts) h = split parts h

  split_inside : (levels k : ℕ) (f : Tri) → ((g : Tri) (c : Cert) → Covers triangles e levels (k + 1) g c → IsTriTwoInside l (k + 1) g) → (parts : List Cert) → Each (Covers triangles e levels (k + 1)) (pieces f) parts → IsTriTwoInside l k f
  split_inside levels k f smaller parts are =
      let four = parts_of_four (Covers triangles e levels (k + 1)) f (pieces f) refl parts are in
      record {
        a_in = half_point l k (corner_of f 0) (smaller _ four.first.0 four.first.1).a_in;
        b_in = half_point l k (corner_of f 1) (smaller _ four.second.0 four.second.1).b_in;
        c_in = half_point l k (corner_of f 2) (smaller _ four.third.0 four.third.1).c_in;
      }

  pub covers_inside : (levels k : ℕ) (f : Tri) (c : Cert) → Covers triangles e levels k f c → IsTriTwoInside l k f
  covers_inside zero k f c h = top k f (λ parts. ⊥) (λ parts none. absurd none) (out-Cert c) h
  covers_inside (suc levels) k f c h = top k f (Each (Covers triangles e levels (k + 1)) (pieces f)) (split_inside levels k f (covers_inside levels (k + 1))) (out-Cert c) h

-- ---- sides
off_low : (l : ℕ) (z : ℤ) → IsTwoInside l 0 z → z ≡ pos 0 → ⊥
off_low l z h e =
    let one : 2 ^ 0 ≡ 1 = pow-zero 2 in
    absurd (omega (arith, ints, h.low, e, one))

off_high : (l : ℕ) (z : ℤ) → IsTwoInside l 0 z → z ≡ pos l → ⊥
off_high l z h e =
    let one : 2 ^ 0 ≡ 1 = pow-zero 2 in
    let all : l * 2 ^ 0 ≡ l = grind (arith, one) in
    absurd (omega (arith, ints, h.high, e, one, all))

off_either : (l : ℕ) (z : ℤ) (far : Bool) → IsTwoInside l 0 z → z ≡ cond far (pos l) (pos 0) → ⊥
off_either l z true h e = off_high l z h e
off_either l z false h e = off_low l z h e

off_axis : (l : ℕ) (p : Point) (axis : Axis) (far : Bool) → IsPointTwoInside l 0 p → coordinate axis p ≡ cond far (pos l) (pos 0) → ⊥
off_axis l p along_x far h e = off_either l p.x far h.x_in e
off_axis l p along_y far h e = off_either l p.y far h.y_in e
off_axis l p along_z far h e = off_either l p.z far h.z_in e

-- a point two steps inside lies on no side of the box
pub off_sides : (l : ℕ) (p : Point) → IsPointTwoInside l 0 p → (s : Side) → ¬ IsOn l s p
off_sides l p h s on = off_axis l p s.axis s.is_far h on
