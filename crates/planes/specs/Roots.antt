-- Square roots of natural numbers, rounded down.
use Rattle.std.specs.Prelude.{ℕ, zero, suc, ◌+◌, ◌*◌, nat_le, if◌then◌else◌}

-- the largest number whose square is at most n
unfoldable pub root : ℕ → ℕ
root zero = 0
root (suc n) = if nat_le ((root n + 1) * (root n + 1)) (suc n) then root n + 1 else root n
