-- A rounded mean lies between its two numbers.
use Rattle.std.proofs.Common.{◌≡◌, ℕ, ◌+◌, ◌*◌, ◌/◌, ◌<◌, ◌≤◌, ℤ, pos, negsuc, ◌≤ℤ◌, arith, mul-le-mul, le_refl}
use Rattle.std.proofs.lemmas.Int.{ints}
use Rattle.std.proofs.lemmas.Nat.{le-div, div_below}
use Rattle.grid.specs.Planes.{rounded_mean}
use Rattle.grid.specs.Boxes.{IsUpTo}

module _ (f g : ℕ) (some : 0 < f + g) where
  not_below : (a b n : ℕ) → n ≤ a → n ≤ b → n ≤ (2 * (a * g + b * f) + (f + g)) / (2 * (f + g))
  not_below a b n h k =
      let x : n * g ≤ a * g = mul-le-mul h (le_refl g) in
      let y : n * f ≤ b * f = mul-le-mul k (le_refl f) in
      le-div n (2 * (a * g + b * f) + (f + g)) (2 * (f + g)) (omega arith) (omega arith)

  not_above : (a b n : ℕ) → a ≤ n → b ≤ n → (2 * (a * g + b * f) + (f + g)) / (2 * (f + g)) < n + 1
  not_above a b n h k =
      let x : a * g ≤ n * g = mul-le-mul h (le_refl g) in
      let y : b * f ≤ n * f = mul-le-mul k (le_refl f) in
      div_below (2 * (a * g + b * f) + (f + g)) (2 * (f + g)) (n + 1) (omega arith) (omega arith)

  pub rounded_mean-at_least : (u v : ℤ) (n : ℕ) → pos n ≤ℤ u → pos n ≤ℤ v → pos n ≤ℤ rounded_mean u v f g
  rounded_mean-at_least (negsuc a) v n h k = absurd h.le
  rounded_mean-at_least (pos a) (negsuc b) n h k = absurd k.le
  rounded_mean-at_least (pos a) (pos b) n h k =
      let le = not_below a b n (omega (arith, ints, h)) (omega (arith, ints, k)) in
      omega (arith, ints, le)

  pub rounded_mean-at_most : (u v : ℤ) (n : ℕ) → pos 0 ≤ℤ u → pos 0 ≤ℤ v → u ≤ℤ pos n → v ≤ℤ pos n → rounded_mean u v f g ≤ℤ pos n
  rounded_mean-at_most (negsuc a) v n p q h k = absurd p.le
  rounded_mean-at_most (pos a) (negsuc b) n p q h k = absurd q.le
  rounded_mean-at_most (pos a) (pos b) n p q h k =
      let lt = not_above a b n (omega (arith, ints, h)) (omega (arith, ints, k)) in
      omega (arith, ints, lt)

  pub rounded_mean-IsUpTo : (u v : ℤ) (n : ℕ) → IsUpTo n u → IsUpTo n v → IsUpTo n (rounded_mean u v f g)
  rounded_mean-IsUpTo u v n h k = record {
    low = rounded_mean-at_least u v 0 h.low k.low;
    high = rounded_mean-at_most u v n h.low k.low h.high k.high;
  }

  -- a number that both share is kept
  pub rounded_mean-same : (u v : ℤ) (n : ℕ) → u ≡ pos n → v ≡ pos n → rounded_mean u v f g ≡ pos n
  rounded_mean-same u v n e d =
      let low = rounded_mean-at_least u v n (omega (arith, ints, e)) (omega (arith, ints, d)) in
      let high = rounded_mean-at_most u v n (omega (arith, ints, e)) (omega (arith, ints, d)) (omega (arith, ints, e)) (omega (arith, ints, d)) in
      omega (arith, ints, low, high)
