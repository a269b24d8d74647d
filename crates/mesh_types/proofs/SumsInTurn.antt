-- Sums of coordinates, one number after the other, and that they fit their types.
use Rattle.std.proofs.Common.{◌≡◌, ℕ, zero, suc, ◌+◌, ◌<◌, ◌≤◌, ℤ, ◌+ℤ◌, pos, List, [], ◌∷◌, length, get_or, drop, SFits, sym, subst, arith, rules}
use mir.Syntax.{w32}
use Rattle.int_algebra.proofs.Laws.{linear}
use Rattle.std.proofs.lemmas.Int.{ints}
use Rattle.grid.specs.Boxes.{IsUpTo}
use Rattle.grid.specs.Limits.{largest_side}
use Rattle.mesh_types.specs.Results.{sum_at}
use Rattle.mesh_types.proofs.Inside.{nat_of}

-- ---- one more number
sum-next : (f : ℕ → ℤ) (xs : List ℕ) (i : ℕ) (acc new all : ℤ) → i < length xs → acc +ℤ sum_at f (drop i xs) ≡ all → new ≡ acc +ℤ f (get_or xs i 0) → new +ℤ sum_at f (drop (suc i) xs) ≡ all
sum-next f [] i acc new all l h e = absurd (omega arith)
sum-next f (x ∷ xs) zero acc new all l h e = omega (arith, linear, h, e)
sum-next f (x ∷ xs) (suc i) acc new all l h e = sum-next f xs i acc new all (omega arith) h e

pub sum-more : (f : ℕ → ℤ) (xs : List ℕ) (i : ℕ) (acc new all : ℤ) → i < length xs → acc +ℤ sum_at f (drop i xs) ≡ all → new ≡ acc +ℤ f (get_or xs i 0) → new +ℤ sum_at f (drop (i + 1) xs) ≡ all
sum-more f xs i acc new all l h e = let k : i + 1 ≡ suc i = omega arith in rw k (sum-next f xs i acc new all l h e)

pub IsUpTo-sum : (m n : ℕ) (acc z new : ℤ) → IsUpTo m acc → IsUpTo n z → new ≡ acc +ℤ z → IsUpTo (m + n) new
IsUpTo-sum m n acc z new h g e =
    let a = h.low in
    let b = h.high in
    let c = g.low in
    let d = g.high in
    record { low = omega (arith, linear, a, c, e); high = omega (arith, ints, a, b, c, d, e) }

-- ---- signed readings
pub small-fits : (z : ℤ) → IsUpTo largest_side z → SFits w32 z
small-fits z h = let n = nat_of largest_side z h in subst (SFits w32) (sym n.is) (few n.n n.most)
  where
    few : (n : ℕ) → n ≤ largest_side → SFits w32 (pos n)
    few n l = search rules
