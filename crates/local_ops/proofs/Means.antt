-- Means of numbers up to a limit.
use Rattle.std.proofs.Common.{◌≡◌, ℕ, ◌+◌, ◌*◌, ◌/◌, ◌^◌, ◌<◌, ◌≤◌, ℤ, pos, nat_abs, SFits, to_z, of_z, to_z-of_z, sym, ◌∙◌, subst, ap, arith, rules}
use mir.Syntax.{w32, w64}
use Rattle.std.proofs.Math.Nat.{div-lt_iff_lt-mul}
use Rattle.std.proofs.lemmas.Int.{ints}
use Rattle.grid.specs.declared.shapes.Point.{Point}
use Rattle.grid.specs.Boxes.{IsUpTo, IsInBox}
use Rattle.grid.specs.Limits.{largest_side, most_points}
use Rattle.mesh_types.specs.Results.{shifted_to}
use Rattle.mesh_types.proofs.ForCallers.{nat_of, IsUpTo-pos, small-fits}
use Rattle.mesh_store.specs.Sound.{IsBox}
use Rattle.local_ops.specs.Smoothing.{mean_of}

rounded : (s n l : ℕ) → 0 < n → s ≤ l * n → (2 * s + n) / (2 * n) ≤ l
rounded s n l some h = less (div-lt_iff_lt-mul {k = 2 * n} {x = 2 * s + n} {y = l + 1} (omega arith)).1 (below (l * n) h (product l n))
  where
    less : {q : ℕ} → (2 * s + n < (l + 1) * (2 * n) → q < l + 1) → 2 * s + n < (l + 1) * (2 * n) → q ≤ l
    less f g = let i = f g in omega arith

    product : (l n : ℕ) → (l + 1) * (2 * n) ≡ 2 * (l * n) + 2 * n
    product l n = grind arith

    below : (m : ℕ) → s ≤ m → (l + 1) * (2 * n) ≡ 2 * m + 2 * n → 2 * s + n < (l + 1) * (2 * n)
    below m h e = omega arith

pub mean-in : (l n : ℕ) (sum : ℤ) → 0 < n → IsUpTo (l * n) sum → IsUpTo l (mean_of sum n)
mean-in l n sum some h =
    let s = nat_of (l * n) sum h in
    subst (λ z. IsUpTo l (mean_of z n)) (sym s.is) (IsUpTo-pos l ((2 * s.n + n) / (2 * n)) (rounded s.n n l some s.most))

-- ---- signed readings
pub sum-fits : (z : ℤ) (n : ℕ) → n ≤ most_points → IsUpTo (largest_side * n) z → SFits w64 z
sum-fits z n l h = let m = nat_of (largest_side * n) z h in subst (SFits w64) (sym m.is) (few m.n (below m.n n m.most l))
  where
    below : (m n : ℕ) → m ≤ largest_side * n → n ≤ most_points → m ≤ 2 ^ 38
    below m n h l = omega arith

    few : (n : ℕ) → n ≤ 2 ^ 38 → SFits w64 (pos n)
    few n l = search rules

-- a point of a box on the grid
pub in-grid : (side : ℤ) → IsBox side → (p : Point) → IsInBox (nat_abs side) p → IsInBox largest_side p
in-grid side b p h = record { x_in = wider p.x h.x_in; y_in = wider p.y h.y_in; z_in = wider p.z h.z_in }
  where
    wider : (z : ℤ) → IsUpTo (nat_abs side) z → IsUpTo largest_side z
    wider z h = let low = b.low in let high = b.high in let g = h.high in record { low = h.low; high = omega (arith, ints, low, high, g) }

-- where a coordinate goes, read through the words of the machine
pub shifted-is : (r side from mean sum : ℤ) (way n : ℕ) → SFits w32 r → SFits w32 side → IsUpTo largest_side from → IsUpTo largest_side mean → n ≤ most_points → IsUpTo (largest_side * n) sum
    → r ≡ shifted_to (nat_abs (to_z w32 (of_z w32 side))) way (to_z w32 (of_z w32 from)) (to_z w32 (of_z w32 mean)) → mean ≡ mean_of (to_z w64 (of_z w64 sum)) n
    → to_z w32 (of_z w32 r) ≡ shifted_to (nat_abs side) way from (mean_of sum n)
shifted-is r side from mean sum way n fr fs hf hm l hs e k =
    let m : to_z w32 (of_z w32 mean) ≡ mean_of sum n = to_z-of_z (small-fits mean hm) ∙ (k ∙ ap (λ z. mean_of z n) (to_z-of_z (sum-fits sum n l hs))) in
    let s : to_z w32 (of_z w32 side) ≡ side = to_z-of_z fs in
    let f : to_z w32 (of_z w32 from) ≡ from = to_z-of_z (small-fits from hf) in
    to_z-of_z fr ∙ (e ∙ (λ i. shifted_to (nat_abs (s i)) way (f i) (m i)))
