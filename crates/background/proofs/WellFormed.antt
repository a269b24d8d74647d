-- The lattice is well formed, in the box, and within the limits.
use Rattle.std.proofs.Common.{◌≡◌, ◌≢◌, ℕ, ◌+◌, ◌*◌, ◌<◌, ◌≤◌, Bool, true, false, not, ◌&&◌, nat_eq, pos, [], ◌∷◌, length, All, refl, sym, ◌∙◌, subst, arith}
use Rattle.std.proofs.lemmas.List.Elements.{All-from_recursion, All-nil}
use Rattle.std.proofs.lemmas.Bool.{and_parts, both_ways, not-true}
use native.Mathlib.Nat.{mul-le-mul, mul-le-mul_left, mul-le-mul_right}
use Rattle.grid.specs.Boxes.{IsUpTo, IsInBox}
use Rattle.grid.specs.Meshes.{IsTriple, IsWellFormed, IsWithinLimits}
use Rattle.grid.specs.Simplices.{AreDifferent, IsTet}
use Rattle.mesh_types.specs.Lattice.{number_at, cube, point, tet, lattice_points, lattice_tets}
use Rattle.mesh_types.proofs.ForCallers.{IsUpTo-pos}
use Rattle.background.proofs.Gather.{number_is, length-at_places, All-at_places}
use Rattle.background.proofs.FaceKinds.{Place, place, at, small, same_place}
use Rattle.background.proofs.Places.{IsBelow, IsSmall, small-IsSmall, at-same, same_place-from}
use Rattle.background.proofs.Spaced.{spaced}
use Rattle.int_algebra.proofs.Laws.{cubed}
use Rattle.background.proofs.Volume.{lattice-length}

pub lattice_points-length : (h n : ℕ) → length (lattice_points h n) ≡ (n + 1) * (n + 1) * (n + 1)
lattice_points-length h n = length-at_places 1 (n + 1) (λ i j k. point (i * h) (j * h) (k * h) ∷ []) (λ i j k. refl) ∙ omega arith

-- ---- the corners of a tetrahedron are different numbers of points
number_below : (n i j k : ℕ) → i ≤ n → j ≤ n → k ≤ n → number_at n i j k < (n + 1) * (n + 1) * (n + 1)
number_below n i j k a b c = omega (arith, number_is n i j k, mul-le-mul_left (n + 1) b, mul-le-mul_left ((n + 1) * (n + 1)) c)

corner-in : (n : ℕ) (p c : Place) → IsBelow n p → IsSmall c → at n p c < (n + 1) * (n + 1) * (n + 1)
corner-in n p c hp hc = number_below n (p.x + c.x) (p.y + c.y) (p.z + c.z) (omega arith) (omega arith) (omega arith)

-- a test of two corners
abbrev apart : Place → Place → Bool
apart c d = not (same_place c d)

corners-differ : (n : ℕ) (p c d : Place) → IsBelow n p → IsSmall c → IsSmall d → apart c d ≡ true → nat_eq (at n p d) (at n p c) ≡ false
corners-differ n p c d hp hc hd e = eqb-differ (at n p d) (at n p c) (λ s.
    let r = at-same n p d p c hp hp hd hc s in
    both_ways (same_place c d) (not-true (same_place c d) e) (same_place-from c d (omega arith) (omega arith) (omega arith)))
  where
    eqb-differ : (a b : ℕ) → a ≢ b → nat_eq a b ≡ false
    eqb-differ a b h = grind arith

path-IsTet : (n : ℕ) (p a b c d : Place) → IsBelow n p → small a ≡ true → small b ≡ true → small c ≡ true → small d ≡ true
    → (apart a b && apart a c && apart a d && apart b c && apart b d && apart c d) ≡ true
    → IsTet ((n + 1) * (n + 1) * (n + 1)) (tet (at n p a) (at n p b) (at n p c) (at n p d))
path-IsTet n p a b c d hp sa sb sc sd e =
    let ha = small-IsSmall a sa in
    let hb = small-IsSmall b sb in
    let hc = small-IsSmall c sc in
    let hd = small-IsSmall d sd in
    let e5 = and_parts (apart a b && apart a c && apart a d && apart b c && apart b d) (apart c d) e in
    let e4 = and_parts (apart a b && apart a c && apart a d && apart b c) (apart b d) e5.0 in
    let e3 = and_parts (apart a b && apart a c && apart a d) (apart b c) e4.0 in
    let e2 = and_parts (apart a b && apart a c) (apart a d) e3.0 in
    let e1 = and_parts (apart a b) (apart a c) e2.0 in
    record {
      four = refl;
      different = different (at n p a) (at n p b) (at n p c) (at n p d)
          (corners-differ n p a b hp ha hb e1.0) (corners-differ n p a c hp ha hc e1.1) (corners-differ n p a d hp ha hd e2.1)
          (corners-differ n p b c hp hb hc e3.1) (corners-differ n p b d hp hb hd e4.1) (corners-differ n p c d hp hc hd e5.1);
      in_range = All-from_recursion (λ m. m < (n + 1) * (n + 1) * (n + 1)) (tet (at n p a) (at n p b) (at n p c) (at n p d))
          (corner-in n p a hp ha, (corner-in n p b hp hb, (corner-in n p c hp hc, (corner-in n p d hp hd, tt))));
    }
  where
    different : (u v w z : ℕ) → nat_eq v u ≡ false → nat_eq w u ≡ false → nat_eq z u ≡ false → nat_eq w v ≡ false → nat_eq z v ≡ false → nat_eq z w ≡ false → AreDifferent (tet u v w z)
    different u v w z a b c d e f = (rw (a, b, c) refl, (rw (d, e) refl, (rw f refl, (refl, tt))))

cube-IsTet : (n i j k : ℕ) → i < n → j < n → k < n → All (IsTet ((n + 1) * (n + 1) * (n + 1))) (cube n i j k)
cube-IsTet n i j k a b c =
    let p = place i j k in
    let hp : IsBelow n p = record { x = a; y = b; z = c } in
    let o = place 0 0 0 in
    let x = place 1 0 0 in
    let y = place 0 1 0 in
    let z = place 0 0 1 in
    let xy = place 1 1 0 in
    let xz = place 1 0 1 in
    let yz = place 0 1 1 in
    let s = place 1 1 1 in
    All-from_recursion (IsTet ((n + 1) * (n + 1) * (n + 1))) (cube n i j k) (
      path-IsTet n p o x xy s hp refl refl refl refl refl,
      (
        path-IsTet n p o xz x s hp refl refl refl refl refl,
        (
          path-IsTet n p o xy y s hp refl refl refl refl refl,
          (
            path-IsTet n p o y yz s hp refl refl refl refl refl,
            (
              path-IsTet n p o z xz s hp refl refl refl refl refl,
              (path-IsTet n p o yz z s hp refl refl refl refl refl, tt),
            ),
          ),
        ),
      ),
    )

pub lattice-IsTet : (h n : ℕ) → All (IsTet (length (lattice_points h n))) (lattice_tets n)
lattice-IsTet h n =
    subst (λ m. All (IsTet m) (lattice_tets n)) (sym (lattice_points-length h n))
    (All-at_places (IsTet ((n + 1) * (n + 1) * (n + 1))) n (cube n) (cube-IsTet n))

pub spaced-IsWellFormed : (h n : ℕ) → IsWellFormed (spaced h n)
spaced-IsWellFormed h n = record {
  tets_are = lattice-IsTet h n;
  triples_are = All-nil (IsTriple (length (lattice_points h n)));
  ordered = tt;
  made_is = omega (arith, lattice-length n);
}

-- ---- the points are in the box
pub spaced-IsInBox : (h n : ℕ) → All (IsInBox (n * h)) (lattice_points h n)
spaced-IsInBox h n = All-at_places (IsInBox (n * h)) (n + 1) (λ i j k. point (i * h) (j * h) (k * h) ∷ [])
    (λ i j k a b c. All-from_recursion (IsInBox (n * h)) (point (i * h) (j * h) (k * h) ∷ []) (record { x_in = times i a; y_in = times j b; z_in = times k c }, tt))
  where
    times : (i : ℕ) → i < n + 1 → IsUpTo (n * h) (pos (i * h))
    times i l = IsUpTo-pos (n * h) (i * h) (mul-le-mul_right h (omega arith))

-- ---- the limits
cubes_most : (m k : ℕ) → m ≤ k → m * m * m ≤ k * k * k
cubes_most m k l = mul-le-mul (mul-le-mul l l) l

pub spaced-IsWithinLimits : (h n : ℕ) → n ≤ 32 → IsWithinLimits (spaced h n)
spaced-IsWithinLimits h n l = record {
  points_few = omega (arith, lattice_points-length h n, cubes_most (n + 1) 33 (omega arith));
  made_few = omega (arith, cubed n, cubes_most n 32 l);
}
