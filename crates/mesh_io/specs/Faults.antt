-- Counts of faults.
use Rattle.std.specs.Prelude.{ℕ, ◌+◌, ◌-◌, ◌^◌, ◌≤◌, min, max}

-- one more, up to the end of a count
abbrev pub counted : ℕ → ℕ
counted n = min (n + 1) (2 ^ 64 - 1)

-- a count rose, or stands at its end
abbrev pub Rose : ℕ → ℕ → Type 0
Rose before now = counted before ≤ now

-- a count did not fall, and was not raised above its end
pub record OnlyRises (before now : ℕ) : Type 0 where
  pub kept : before ≤ now
  pub ends : now ≤ max before (2 ^ 64 - 1)
