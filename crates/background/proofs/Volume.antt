-- The points of the lattice, and the determinants of its tetrahedra.
use Rattle.std.proofs.Common.{◌≡◌, ℕ, ◌+◌, ◌*◌, ◌^◌, ◌<◌, ◌≤◌, ◌<ℤ◌, true, ℤ, pos, ◌+ℤ◌, ◌*ℤ◌, List, [], ◌∷◌, length, get_or, All, refl, ap, ap₂, sym, ◌∙◌, subst, arith}
use Rattle.std.proofs.lemmas.List.Elements.{All-from_recursion, All-head, All-tail, All-weaker}
use native.Mathlib.Nat.{mul-le-mul, mul-le-mul_left}
use Rattle.int_algebra.proofs.Laws.{cubed, linear}
use Rattle.int_algebra.proofs.Ring.{constant, variable, ◌⊕◌, ◌⊗◌, normal_form, ring}
use Rattle.int_algebra.proofs.Corners.{Corner, det}
use Rattle.grid.specs.declared.shapes.Point.{Point}
use Rattle.grid.specs.Determinants as Spec
use Rattle.grid.specs.Determinants.{origin, point_at, det_at, volume, IsPositive}
use Rattle.mesh_types.specs.Lattice.{number_at, cube, gather, point, tet, lattice_points, lattice_tets}
use Rattle.background.proofs.Gather.{number_is, length-gather, get_or-gather, length-at_places, All-at_places}
use Rattle.background.proofs.FaceKinds.{Place, place, at, small}
use Rattle.background.proofs.Places.{IsBelow, IsSmall, small-IsSmall}

row_below : (n i j : ℕ) → i ≤ n → j ≤ n → 0 + 1 * i + (n + 1) * 1 * j < (n + 1) * ((n + 1) * 1)
row_below n i j a b = omega (arith, mul-le-mul_left (n + 1) b)

pub point_at-lattice : (h n i j k : ℕ) → i ≤ n → j ≤ n → k ≤ n → point_at (lattice_points h n) (number_at n i j k) ≡ point (i * h) (j * h) (k * h)
point_at-lattice h n i j k a b c =
    let m = n + 1 in
    let one = λ (j k i : ℕ). point (i * h) (j * h) (k * h) ∷ [] in
    let row = λ (k j : ℕ). gather m (one j k) in
    let layer = λ (k : ℕ). gather m (row k) in
    let row_len : (k j : ℕ) → length (row k j) ≡ m * 1 = λ k j. length-gather 1 m (one j k) (λ i. refl) in
    let layer_len : (k : ℕ) → length (layer k) ≡ m * (m * 1) = λ k. length-gather (m * 1) m (row k) (row_len k) in
    let place_is : number_at n i j k ≡ 0 + 1 * i + m * 1 * j + m * (m * 1) * k = omega (arith, number_is n i j k) in
    let column_in : i < m * 1 = omega arith in
    let row_in : 0 + 1 * i + m * 1 * j < m * (m * 1) = row_below n i j a b in
    ap (get_or_at (gather m layer)) place_is
    ∙ get_or-gather (m * (m * 1)) m k (0 + 1 * i + m * 1 * j) layer origin layer_len (omega arith) row_in
    ∙ get_or-gather (m * 1) m j (0 + 1 * i) (row k) origin (row_len k) (omega arith) (omega arith)
    ∙ get_or-gather 1 m i 0 (one j k) origin (λ i. refl) (omega arith) (omega arith)
  where
    get_or_at : List Point → ℕ → Point
    get_or_at ps t = get_or ps t origin

-- the corner c of a cube of side t whose least point is (x, y, z)
abbrev corner_point : ℤ → ℤ → ℤ → ℤ → Place → Point
corner_point x y z t c = record { x = x +ℤ pos c.x *ℤ t; y = y +ℤ pos c.y *ℤ t; z = z +ℤ pos c.z *ℤ t }

abbrev corner_expr : Place → Corner
corner_expr c = record { x = variable 0 ⊕ constant (pos c.x) ⊗ variable 3; y = variable 1 ⊕ constant (pos c.y) ⊗ variable 3; z = variable 2 ⊕ constant (pos c.z) ⊗ variable 3 }

pub corner-point_at : (h n : ℕ) (p c : Place) → IsBelow n p → IsSmall c → point_at (lattice_points h n) (at n p c) ≡ corner_point (pos (p.x * h)) (pos (p.y * h)) (pos (p.z * h)) (pos h) c
corner-point_at h n p c hp hc =
    point_at-lattice h n (p.x + c.x) (p.y + c.y) (p.z + c.z) (omega arith) (omega arith) (omega arith)
    ∙ (λ d. record { x = pos (spread p.x c.x h d); y = pos (spread p.y c.y h d); z = pos (spread p.z c.z h d) })
  where
    spread : (a b h : ℕ) → (a + b) * h ≡ a * h + b * h
    spread a b h = omega arith

pub path-det : (h n : ℕ) (p a b c d : Place) → IsBelow n p → IsSmall a → IsSmall b → IsSmall c → IsSmall d
    → normal_form (det (corner_expr a) (corner_expr b) (corner_expr c) (corner_expr d)) ≡ normal_form (variable 3 ⊗ variable 3 ⊗ variable 3)
    → det_at (lattice_points h n) (tet (at n p a) (at n p b) (at n p c) (at n p d)) ≡ pos (h * h * h)
unfolding Spec.det
path-det h n p a b c d hp ha hb hc hd e =
    (λ i. Spec.det (corner-point_at h n p a hp ha i) (corner-point_at h n p b hp hb i) (corner-point_at h n p c hp hc i) (corner-point_at h n p d hp hd i))
    ∙ ring (pos (p.x * h) ∷ pos (p.y * h) ∷ pos (p.z * h) ∷ pos h ∷ []) (det (corner_expr a) (corner_expr b) (corner_expr c) (corner_expr d)) (variable 3 ⊗ variable 3 ⊗ variable 3) e

bits : ℕ → ℕ → ℕ → Place
bits x y z = record { x = x; y = y; z = z }

pub cube-det : (h n i j k : ℕ) → i < n → j < n → k < n → All (λ t. det_at (lattice_points h n) t ≡ pos (h * h * h)) (cube n i j k)
unfolding bits
cube-det h n i j k a b c =
    let p = place i j k in
    let hp : IsBelow n p = record { x = a; y = b; z = c } in
    let ok = λ (c : Place) (e : small c ≡ true). small-IsSmall c e in
    let o = bits 0 0 0 in
    let x = bits 1 0 0 in
    let y = bits 0 1 0 in
    let z = bits 0 0 1 in
    let xy = bits 1 1 0 in
    let xz = bits 1 0 1 in
    let yz = bits 0 1 1 in
    let s = bits 1 1 1 in
    All-from_recursion (λ t. det_at (lattice_points h n) t ≡ pos (h * h * h)) (cube n i j k) (
      path-det h n p o x xy s hp (ok o refl) (ok x refl) (ok xy refl) (ok s refl) refl,
      (
        path-det h n p o xz x s hp (ok o refl) (ok xz refl) (ok x refl) (ok s refl) refl,
        (
          path-det h n p o xy y s hp (ok o refl) (ok xy refl) (ok y refl) (ok s refl) refl,
          (
            path-det h n p o y yz s hp (ok o refl) (ok y refl) (ok yz refl) (ok s refl) refl,
            (
              path-det h n p o z xz s hp (ok o refl) (ok z refl) (ok xz refl) (ok s refl) refl,
              (path-det h n p o yz z s hp (ok o refl) (ok yz refl) (ok z refl) (ok s refl) refl, tt),
            ),
          ),
        ),
      ),
    )

pub lattice-det : (h n : ℕ) → All (λ t. det_at (lattice_points h n) t ≡ pos (h * h * h)) (lattice_tets n)
lattice-det h n = All-at_places (λ t. det_at (lattice_points h n) t ≡ pos (h * h * h)) n (cube n) (cube-det h n)

positive : (m : ℕ) → 1 * 1 * 1 ≤ m → pos 0 <ℤ pos m
positive m l = omega (arith, linear)

pub lattice-positive : (h n : ℕ) → 0 < h → All (λ t. IsPositive (lattice_points h n) t) (lattice_tets n)
lattice-positive h n l = All-weaker (λ t. det_at (lattice_points h n) t ≡ pos (h * h * h)) (λ t. IsPositive (lattice_points h n) t)
    (λ t e. subst (λ v. pos 0 <ℤ v) (sym e) (positive (h * h * h) (mul-le-mul (mul-le-mul l l) l))) (lattice_tets n) (lattice-det h n)

volume-same : (points : List Point) (v : ℕ) (ts : List (List ℕ)) → All (λ t. det_at points t ≡ pos v) ts → volume points ts ≡ pos (length ts * v)
volume-same points v [] h = ap pos (omega arith)
volume-same points v (t ∷ ts) h =
    ap₂ ◌+ℤ◌ (All-head (λ t. det_at points t ≡ pos v) t ts h) (volume-same points v ts (All-tail (λ t. det_at points t ≡ pos v) t ts h))
    ∙ ap pos (omega arith)

pub lattice-length : (n : ℕ) → length (lattice_tets n) ≡ 6 * n ^ 3
lattice-length n = length-at_places 6 n (cube n) (λ i j k. refl) ∙ omega (arith, cubed n)

pub lattice-volume : (h n : ℕ) → volume (lattice_points h n) (lattice_tets n) ≡ pos (6 * (n * h) ^ 3)
lattice-volume h n =
    volume-same (lattice_points h n) (h * h * h) (lattice_tets n) (lattice-det h n)
    ∙ ap (λ l. pos (l * (h * h * h))) (length-at_places 6 n (cube n) (λ i j k. refl))
    ∙ ap pos (omega (arith, cubed (n * h)))
