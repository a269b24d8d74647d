-- The mean of numbers up to a limit.
use Rattle.std.proofs.Common.{ℕ, ◌+◌, ◌*◌, ◌/◌, ◌<◌, ℤ, ◌+ℤ◌, ◌*ℤ◌, pos, sym, subst}
use Rattle.std.specs.Int.{int_div_euclid}
use Rattle.grid.specs.Boxes.{IsUpTo}
use Rattle.mesh_types.proofs.ForCallers.{nat_of, IsUpTo-pos, rounded}

pub mean-in : (l n : ℕ) (sum : ℤ) → 0 < n → IsUpTo (l * n) sum → IsUpTo l (int_div_euclid (pos 2 *ℤ sum +ℤ pos n) (pos (2 * n)))
mean-in l n sum some h =
    let s = nat_of (l * n) sum h in
    subst (λ z. IsUpTo l (int_div_euclid (pos 2 *ℤ z +ℤ pos n) (pos (2 * n)))) (sym s.is) (IsUpTo-pos l ((2 * s.n + n) / (2 * n)) (rounded s.n n l s.most))
